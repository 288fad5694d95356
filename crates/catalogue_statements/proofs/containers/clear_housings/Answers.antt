use Rattle.std.proofs.Common.{refl}
use Rattle.catalogue_statements.proofs.Common.{known_change, thins_numbered}
use Rattle.catalogue_statements.proofs.HousingStatements.{clear_housings_means, clear_housings_leaves}
use Rattle.catalogue_statements.proofs.HousingStatements.{clear_housings_only, clear_housings_faults}
use Rattle.catalogue_statements.proofs.containers.clear_housings.Goals as goal

pub change-requires : goal.change-requires
change-requires g c = known_change (clear_housings_means g.P.Versioned.version) refl

pub returns : goal.returns
returns g c =
    thins_numbered g.P.Versioned.version c.change.ensures.leaves (rw c.cell.ensures at c.change.ensures.ran)
    (λ v has ran xs stored. clear_housings_leaves _ _ c.args.unit v has xs stored c.change.result ran)
    (λ v has ran. clear_housings_only _ _ c.args.unit v has c.change.result ran)
    (λ v has ran free. clear_housings_faults _ _ c.args.unit v has free c.change.ensures.live c.change.result ran)
