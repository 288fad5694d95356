use Rattle.std.proofs.Common.{Ok, [], slice_get, ap, ◌∙◌}
use Rattle.catalogue_statements.proofs.Common.{IfOk-weaker, known_query, looks_up}
use Rattle.catalogue_statements.proofs.ContainerStatements.{container_number_means, container_number_finds}
use Rattle.catalogue_statements.proofs.ContainerStatements.{container_number_faults}
use Rattle.catalogue_statements.proofs.containers.container_number.Goals as goal

pub find_one-requires : goal.find_one-requires
find_one-requires g c = known_query (container_number_means g.P.Versioned.version)

pub returns : goal.returns
returns g c =
    looks_up g.P.Versioned.version c.find_one.ensures.reads (rw (c.words.ensures, c.words-2.ensures, c.words-3.ensures) at c.find_one.ensures.ran)
    (λ v has found xs stored _. IfOk-weaker c.find_one.result _ _ (λ first it.
    let all = container_number_finds _ _ v has xs stored c.args.key.now (λ l. l) (Ok it.0) it.1 in
    (all.0, all.1, it.2 ∙ ap (λ l. slice_get l 0) all.2)) found)
    (λ v has missed xs stored _ free. container_number_faults _ _ v has xs stored c.args.key.now (λ _. []) c.find_one.result free missed)
