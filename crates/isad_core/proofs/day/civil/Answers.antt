use Rattle.std.proofs.Common.{rules, arith, ◌≡◌, ◌≤◌, pos, to_z, of_z, w16, w32, w64, FitsSigned, ◌∙◌, refl}
use Rattle.isad_core.proofs.Common.{date_of, epoch_day, ints, to_z-of_z}
use Rattle.isad_core.proofs.DateLemmas.{date_of-parts, date_of-HasNumber}
use Rattle.isad_core.proofs.day.civil.Goals as goal

number_is : (c : goal.After-struct_told-1) → epoch_day c.in-Ok.date ≡ c.args.number
number_is c =
    let narrow : FitsSigned w32 c.args.number = c.ranges.number in
    let same : c.from.result ≡ c.args.number = simp to_z-of_z at c.from.ensures in
    let wide : FitsSigned w64 c.from.result = search rules in
    let value : epoch_day c.in-Ok.date ≡ c.from.result = simp to_z-of_z at c.in-Ok.ensures.value in
    value ∙ same

year_is : (c : goal.After-struct_told-1) → to_z w16 (of_z w16 c.in-Ok.date.year) ≡ pos (date_of c.args.number).year
year_is c =
    let parts = date_of-parts c.in-Ok.date c.args.number c.requires (number_is c) in
    let fits : FitsSigned w16 c.in-Ok.date.year = search rules in
    simp to_z-of_z (parts.0)

pub overflow_cast-result : goal.overflow_cast-result
overflow_cast-result c =
    let has = date_of-HasNumber c.args.number c.requires in
    let bound : (date_of c.args.number).year ≤ 9999 = omega (arith, ints, has.civil.0.1) in
    rw (year_is c) (tt, omega arith)

pub returns-clause-date : goal.returns-clause-date
returns-clause-date c =
    let parts = date_of-parts c.in-Ok.date c.args.number c.requires (number_is c) in
    rw (year_is c, parts.1, parts.2) refl
