use Rattle.desk_commands.proofs.Common.{judged_now}
use Rattle.desk_commands.proofs.Spared.{does_then, office_passed}
use Rattle.desk_commands.proofs.order_placement.order_by.Goals as goal

pub returns-in_err-is_open : goal.returns-in_err-is_open
returns-in_err-is_open g c = let told = c.in_err-is_open.ensures.answers in office_passed _ c.from_residual.ensures told.aborts told.faults

pub returns : goal.returns
returns g c =
    let told = c.in_ok-is_open.ensures.answers in
    does_then told.looks c.decide.ensures
    (λ clean s sound so it. (so.0, so.1, so.2, told.answers clean tt s it (judged_now s sound) so.0 so.3))
