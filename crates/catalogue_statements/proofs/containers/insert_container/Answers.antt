use Rattle.std.proofs.Common.{refl}
use Rattle.catalogue_statements.proofs.Common.{known_change, puts_row}
use Rattle.catalogue_statements.proofs.ContainerStatements.{insert_container_means, insert_container_puts}
use Rattle.catalogue_statements.proofs.ContainerStatements.{insert_container_faults}
use Rattle.catalogue_statements.proofs.containers.insert_container.Goals as goal

pub change-requires : goal.change-requires
change-requires g c = known_change (insert_container_means g.P.Versioned.version) refl

pub returns : goal.returns
returns g c =
    puts_row g.P.Versioned.version c.change.ensures.leaves (rw (c.cell.ensures, c.words.ensures, c.words-2.ensures, c.words-3.ensures) at c.change.ensures.ran)
    (λ v has ran. insert_container_puts _ _ c.args.n c.args.key.now v has c.change.result ran)
    (λ v has ran xs stored both free. insert_container_faults _ _ c.args.n c.args.key.now v has xs stored both.0 both.1 free c.change.ensures.live c.change.result ran)
