use Rattle.std.proofs.Common.{refl}
use Rattle.desk_commands.proofs.Spared.{desk_passed}
use Rattle.desk_commands.proofs.OneStep.{desk_made}
use Rattle.desk_commands.proofs.Renewed.{renews}
use Rattle.desk_commands.proofs.renewal.set_last_day.Goals as goal

pub returns-in_err-renew : goal.returns-in_err-renew
returns-in_err-renew g c = let made = c.in_err-renew.ensures.updates in desk_passed _ c.from_residual.ensures made.aborts made.faults

pub returns : goal.returns
returns g c =
    rw c.get.ensures.same (desk_made c.in_ok-renew.ensures.updates.call refl (λ s sound so it. tt) (λ s sound so it schema only put.
    renews g.P.Versioned.version s c.args.ticket c.args.until g.P.Places.represents g.met.P.Places.shows_same _ _ so it schema only put))
