use Rattle.std.proofs.Common.{◌≤◌, ◌+◌, ◌*◌, arith, rules, sym, ◌∙◌, FitsSigned, w32}
use Rattle.isad_core.proofs.Common.{to_z-of_z}
use Rattle.isad_core.proofs.DayLemmas.{number_of_date-civil, number_of_date-none}
use Rattle.isad_core.proofs.day.on_date.Goals as goal

pub returns-in-Some : goal.returns-in-Some
returns-in-Some c =
    let some = c.in-Some.ensures.some in
    let fits : FitsSigned w32 c.to_unix_epoch_day.result = search rules in
    let given = simp to_z-of_z at c.from_number.ensures in
    given ∙ rw c.to_unix_epoch_day.ensures.value (sym (number_of_date-civil c.in-Some.date _ _ _ some.0 some.1 some.2))

pub returns-in-None : goal.returns-in-None
returns-in-None c =
    let late : c.args.century * 100 + c.args.rest ≤ 9999 = omega arith in
    sym (number_of_date-none _ _ _ late c.in-None.ensures.none)
