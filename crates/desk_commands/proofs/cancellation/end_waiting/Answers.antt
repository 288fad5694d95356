use Rattle.std.proofs.Common.{refl}
use Rattle.desk_commands.proofs.Spared.{desk_passed}
use Rattle.desk_commands.proofs.Cancelled.{cancels}
use Rattle.desk_commands.proofs.OneStep.{desk_made}
use Rattle.desk_commands.proofs.cancellation.end_waiting.Goals as goal

pub returns-in_err-end_order : goal.returns-in_err-end_order
returns-in_err-end_order g c = let made = c.in_err-end_order.ensures.updates in desk_passed _ c.from_residual.ensures made.aborts made.faults

pub returns : goal.returns
returns g c =
    rw c.get.ensures.same (desk_made c.in_ok-end_order.ensures.updates.call refl (λ s sound so it. tt) (λ s sound so it schema only put.
    cancels g.P.Places.represents g.P.Versioned.version s c.args.order sound g.met.P.Places.shows_same _ _ so it schema only put))
