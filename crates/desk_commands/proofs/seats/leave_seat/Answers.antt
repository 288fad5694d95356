use Rattle.std.proofs.Common.{◌∙◌}
use Rattle.desk_commands.proofs.Common.{holder_shown, tables}
use Rattle.desk_commands.proofs.Spared.{desk_passed, does_then, is_refused}
use Rattle.desk_commands.proofs.Seated.{may_leave, must_stay}
use Rattle.desk_commands.proofs.seats.leave_seat.Goals as goal

pub returns-in_err-who : goal.returns-in_err-who
returns-in_err-who g c = let told = c.in_err-who.ensures.answers in desk_passed _ c.from_residual.ensures told.aborts told.faults

pub returns-in-Ok : goal.returns-in-Ok
returns-in-Ok g c =
    let told = c.in_ok-who.ensures.answers in
    does_then told.looks c.free_seat.ensures
    (λ clean s sound so it. may_leave s sound c.args.ticket _ c.in-Ok.seat
    (c.as_ref.ensures.value ∙ told.answers clean tt (tables g.P.Versioned.version s).desk it.desk ∙ holder_shown g.P.Versioned.version s sound c.args.ticket)
    c.in-Ok.ensures.refused c.in-Ok.ensures.seat)

pub returns-in-Err : goal.returns-in-Err
returns-in-Err g c =
    let told = c.in_ok-who.ensures.answers in
    is_refused told.looks (λ clean s sound so it. must_stay s sound c.args.ticket _ c.in-Err.why
    (c.as_ref.ensures.value ∙ told.answers clean tt (tables g.P.Versioned.version s).desk it.desk ∙ holder_shown g.P.Versioned.version s sound c.args.ticket)
    c.in-Err.ensures.refused)
