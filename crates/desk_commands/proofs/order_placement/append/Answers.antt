use Rattle.std.proofs.Common.{refl}
use Rattle.desk_commands.proofs.OneStep.{desk_failed, desk_made}
use Rattle.desk_commands.proofs.Ordered.{may_append, orders}
use Rattle.desk_commands.proofs.order_placement.append.Goals as goal

pub returns-in_err-append_order : goal.returns-in_err-append_order
returns-in_err-append_order g c =
    let made = c.in_err-append_order.ensures.updates in
    desk_failed _ _ c.from_residual.ensures made.aborts made.faults (λ s sound so it. may_append g.P.Versioned.version s sound c.args.ticket c.args.container c.args.order c.args.today so)

pub returns : goal.returns
returns g c =
    rw c.get.ensures.same (desk_made c.in_ok-append_order.ensures.updates.call refl (λ s sound so it. may_append g.P.Versioned.version s sound c.args.ticket c.args.container c.args.order c.args.today so) (λ s sound so it schema only put.
    orders g.P.Versioned.version s sound c.args.ticket c.args.container g.P.Places.represents g.met.P.Places.shows_same _ _ it schema only c.args.order c.args.today so put))
