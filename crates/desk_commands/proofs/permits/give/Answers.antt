use Rattle.std.proofs.Common.{refl}
use Rattle.desk_commands.proofs.OneStep.{desk_failed, desk_made}
use Rattle.desk_commands.proofs.Permitted.{may_have, permits}
use Rattle.desk_commands.proofs.permits.give.Goals as goal

pub returns-in_err-grant : goal.returns-in_err-grant
returns-in_err-grant g c =
    let made = c.in_err-grant.ensures.updates in
    desk_failed _ _ c.from_residual.ensures made.aborts made.faults (λ s sound so it. may_have g.P.Versioned.version s sound c.args.ticket c.args.unit c.args.asked c.args.until so g.P.Places.represents _ it)

pub returns : goal.returns
returns g c =
    let v = g.P.Versioned.version in
    rw (c.get.ensures.same, c.get-2.ensures.same) (desk_made c.in_ok-grant.ensures.updates.call refl
    (λ s sound so it. may_have v s sound c.args.ticket c.args.unit c.args.asked c.args.until so g.P.Places.represents _ it)
    (λ s sound so it schema only put. permits v s sound c.args.ticket c.args.unit c.args.asked c.args.until so g.P.Places.represents g.met.P.Places.shows_same _ _ it schema only put))
