use Rattle.std.proofs.Common.{◌∙◌}
use Rattle.desk_commands.proofs.Common.{tables}
use Rattle.desk_commands.proofs.Spared.{desk_passed, does_then, is_refused}
use Rattle.desk_commands.proofs.DayOpened.{refuses_day}
use Rattle.desk_commands.proofs.StillOut.{any_out}
use Rattle.desk_commands.proofs.new_day.open.Goals as goal

pub returns-in_err-loans : goal.returns-in_err-loans
returns-in_err-loans g c = let told = c.in_err-loans.ensures.answers in desk_passed _ c.from_residual.ensures told.aborts told.faults

pub returns-then-not-are_none : goal.returns-then-not-are_none
returns-then-not-are_none g c =
    let v = g.P.Versioned.version in
    let told = c.in_ok-loans.ensures.answers in
    is_refused told.looks (λ clean s sound so it.
    refuses_day v s c.args.day so (any_out s sound v (c.deref.ensures.value ∙ told.answers clean tt (tables v s).desk it.desk) c.are_none.ensures c.if-not-are_none.true))

pub returns : goal.returns
returns g c =
    let v = g.P.Versioned.version in
    let told = c.in_ok-loans.ensures.answers in
    does_then told.looks c.begin_day.ensures (λ clean s sound so it.
    (so, any_out s sound v (c.deref.ensures.value ∙ told.answers clean tt (tables v s).desk it.desk) c.are_none.ensures c.if-not-are_none.false))
