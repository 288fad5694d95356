use Rattle.std.proofs.Common.{refl}
use Rattle.catalogue_statements.specs.NewUnit.{unit_of}
use Rattle.catalogue_statements.proofs.Common.{known_change, puts_row}
use Rattle.catalogue_statements.proofs.UnitWrites.{insert_unit_means, insert_unit_puts, insert_unit_faults}
use Rattle.catalogue_statements.proofs.units.insert_unit.Goals as goal

pub change-requires : goal.change-requires
change-requires g c = known_change (insert_unit_means g.P.Versioned.version) refl

pub returns : goal.returns
returns g c =
    puts_row g.P.Versioned.version c.change.ensures.leaves (rw (c.cell.ensures, c.words.ensures, c.words-2.ensures, c.words-3.ensures, c.truth.ensures) at c.change.ensures.ran)
    (λ v has ran. insert_unit_puts _ _ (unit_of c.args.unit.now) refl v has c.change.result ran)
    (λ v has ran xs stored both free. insert_unit_faults _ _ (unit_of c.args.unit.now) refl v has xs stored both.0 both.1 free c.change.ensures.live c.change.result ran)
