use Rattle.std.proofs.Common.{refl}
use Rattle.desk_commands.proofs.Spared.{desk_passed}
use Rattle.desk_commands.proofs.OneStep.{desk_made}
use Rattle.desk_commands.proofs.Seated.{leaves}
use Rattle.desk_commands.proofs.seats.free_seat.Goals as goal

pub returns-in_err-set_seat : goal.returns-in_err-set_seat
returns-in_err-set_seat g c = let made = c.in_err-set_seat.ensures.updates in desk_passed _ c.from_residual.ensures made.aborts made.faults

pub returns : goal.returns
returns g c =
    desk_made c.in_ok-set_seat.ensures.updates.call refl (λ s sound so it. tt) (λ s sound so it schema only put.
    leaves s sound c.args.ticket g.P.Versioned.version g.P.Places.represents g.met.P.Places.shows_same _ _ it schema only c.args.seat so put)
