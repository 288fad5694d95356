use Rattle.std.proofs.Common.{◌∙◌}
use Rattle.desk_commands.proofs.Common.{tables}
use Rattle.desk_commands.proofs.Spared.{desk_passed, does_then, is_refused}
use Rattle.desk_commands.proofs.Seated.{may_sit, must_stand, numbers_told}
use Rattle.desk_commands.proofs.seats.sit_down.Goals as goal

pub returns-in_err-taken : goal.returns-in_err-taken
returns-in_err-taken g c = let told = c.in_err-taken.ensures.answers in desk_passed _ c.from_residual.ensures told.aborts told.faults

pub returns-in-Ok : goal.returns-in-Ok
returns-in-Ok g c =
    let v = g.P.Versioned.version in
    let told = c.in_ok-taken.ensures.answers in
    does_then told.looks c.take.ensures (λ clean s sound so it.
    let seats = numbers_told s sound c.args.ticket v (c.deref.ensures.value ∙ told.answers clean tt (tables v s).desk it.desk) c.in_ok-numbers.ensures.same c.deref-2.ensures.value in
    may_sit s sound c.args.ticket c.args.today c.args.limits.now _ so.0 so.1 (c.as_ref.ensures.value ∙ so.2) c.deref-2.result.now seats c.in-Ok.seat c.in-Ok.ensures.refused c.in-Ok.ensures.seat)

pub returns : goal.returns
returns g c =
    let v = g.P.Versioned.version in
    let told = c.in_ok-taken.ensures.answers in
    is_refused told.looks (λ clean s sound so it.
    let seats = numbers_told s sound c.args.ticket v (c.deref.ensures.value ∙ told.answers clean tt (tables v s).desk it.desk) c.in_ok-numbers.ensures.same c.deref-2.ensures.value in
    must_stand s sound c.args.ticket c.args.today c.args.limits.now _ so.0 so.1 (c.as_ref.ensures.value ∙ so.2) c.deref-2.result.now seats c.in-Err.why c.in-Err.ensures.refused)
