use Rattle.desk_commands.proofs.Common.{looks_nowhere}
use Rattle.desk_commands.proofs.Spared.{does_then, is_refused}
use Rattle.desk_commands.proofs.Ordered.{may_order, must_not}
use Rattle.desk_commands.proofs.order_placement.decide.Goals as goal

pub returns-in-Ok : goal.returns-in-Ok
returns-in-Ok g c =
    does_then looks_nowhere c.append.ensures
    (λ clean s sound so it. may_order g.P.Versioned.version s sound c.args.ticket c.args.container c.args.card.now c.args.today c.args.limits.now c.args.is_open so.2 so.0 so.1 so.3 c.ask.result c.ask.ensures _ c.from.ensures c.in-Ok.ensures)

pub returns-in-Err : goal.returns-in-Err
returns-in-Err g c =
    is_refused looks_nowhere
    (λ clean s sound so it. must_not g.P.Versioned.version s sound c.args.ticket c.args.container c.args.card.now c.args.today c.args.limits.now c.args.is_open so.2 so.0 so.1 so.3 c.ask.result c.ask.ensures c.in-Err.why c.in-Err.ensures)
