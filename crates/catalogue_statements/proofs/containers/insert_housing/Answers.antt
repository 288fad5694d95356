use Rattle.std.proofs.Common.{refl}
use Rattle.catalogue_statements.proofs.Common.{known_change, puts_numbered}
use Rattle.catalogue_statements.proofs.HousingStatements.{insert_housing_means, insert_housing_puts}
use Rattle.catalogue_statements.proofs.HousingStatements.{insert_housing_faults}
use Rattle.catalogue_statements.proofs.containers.insert_housing.Goals as goal

pub change-requires : goal.change-requires
change-requires g c = known_change (insert_housing_means g.P.Versioned.version) refl

pub returns : goal.returns
returns g c =
    puts_numbered g.P.Versioned.version c.change.ensures.leaves (rw (c.cell.ensures, c.cell-2.ensures, c.cell-3.ensures) at c.change.ensures.ran)
    (λ v has ran. insert_housing_puts _ _ c.args.unit c.args.ord c.args.container v has c.change.result ran)
    (λ v has ran xs stored room free. insert_housing_faults _ _ c.args.unit c.args.ord c.args.container v has room.0 xs stored room.1 room.2 free c.change.ensures.live c.change.result ran)
