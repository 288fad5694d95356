use Rattle.std.proofs.Common.{refl}
use Rattle.catalogue_statements.proofs.Common.{known_change, thins_numbered}
use Rattle.catalogue_statements.proofs.ElementStatements.{clear_elements_means, clear_elements_leaves}
use Rattle.catalogue_statements.proofs.ElementStatements.{clear_elements_only, clear_elements_faults}
use Rattle.catalogue_statements.proofs.elements.clear_elements.Goals as goal

pub change-requires : goal.change-requires
change-requires g c = known_change (clear_elements_means g.P.Versioned.version) refl

pub returns : goal.returns
returns g c =
    thins_numbered g.P.Versioned.version c.change.ensures.leaves (rw c.cell.ensures at c.change.ensures.ran)
    (λ v has ran xs stored. clear_elements_leaves _ _ c.args.unit v has xs stored c.change.result ran)
    (λ v has ran. clear_elements_only _ _ c.args.unit v has c.change.result ran)
    (λ v has ran free. clear_elements_faults _ _ c.args.unit v has free c.change.ensures.live c.change.result ran)
