use Rattle.std.proofs.Common.{Ok, [], slice_get, ap, ◌∙◌}
use Rattle.catalogue_statements.proofs.Common.{IfOk-weaker, known_query, looks_up}
use Rattle.catalogue_statements.proofs.ContainerStatements.{find_container_means, find_container_finds}
use Rattle.catalogue_statements.proofs.ContainerStatements.{find_container_faults}
use Rattle.catalogue_statements.proofs.containers.find_container.Goals as goal

pub find_one-requires : goal.find_one-requires
find_one-requires g c = known_query (find_container_means g.P.Versioned.version)

pub returns : goal.returns
returns g c =
    looks_up g.P.Versioned.version c.find_one.ensures.reads (rw c.cell.ensures at c.find_one.ensures.ran)
    (λ v has found xs stored _. IfOk-weaker c.find_one.result _ _ (λ first it.
    let all = find_container_finds _ _ v has xs stored c.args.n (λ l. l) (Ok it.0) it.1 in
    (all.0, all.1, it.2 ∙ ap (λ l. slice_get l 0) all.2)) found)
    (λ v has missed xs stored legible free. find_container_faults _ _ v has xs stored c.args.n (λ _. []) c.find_one.result legible free missed)
