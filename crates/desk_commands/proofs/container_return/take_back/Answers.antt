use Rattle.std.proofs.Common.{refl}
use Rattle.desk_commands.proofs.Spared.{desk_passed}
use Rattle.desk_commands.proofs.OneStep.{desk_made}
use Rattle.desk_commands.proofs.Returned.{returns_to_desk}
use Rattle.desk_commands.proofs.container_return.take_back.Goals as goal

pub returns-in_err-hand_over : goal.returns-in_err-hand_over
returns-in_err-hand_over g c = let made = c.in_err-hand_over.ensures.updates in desk_passed _ c.from_residual.ensures made.aborts made.faults

pub returns : goal.returns
returns g c =
    rw c.get.ensures.same (desk_made c.in_ok-hand_over.ensures.updates refl (λ s sound so it. tt) (λ s sound so it schema only put.
    returns_to_desk g.P.Places.represents g.P.Versioned.version s c.args.container c.args.order so sound g.met.P.Places.shows_same _ _ it schema only put))
