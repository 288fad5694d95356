use Rattle.std.proofs.Common.{refl}
use Rattle.desk_commands.proofs.OneStep.{desk_failed, desk_made}
use Rattle.desk_commands.proofs.Seated.{sits, may_take}
use Rattle.desk_commands.proofs.seats.take.Goals as goal

pub returns-in_err-set_seat : goal.returns-in_err-set_seat
returns-in_err-set_seat g c =
    let made = c.in_err-set_seat.ensures.updates in
    desk_failed _ _ c.from_residual.ensures made.aborts made.faults (λ s sound so it. may_take s sound c.args.ticket g.P.Versioned.version c.args.seat so)

pub returns : goal.returns
returns g c =
    desk_made c.in_ok-set_seat.ensures.updates.call refl (λ s sound so it. may_take s sound c.args.ticket g.P.Versioned.version c.args.seat so) (λ s sound so it schema only put.
    sits s sound c.args.ticket g.P.Versioned.version g.P.Places.represents g.met.P.Places.shows_same _ _ it schema only c.args.seat so put)
