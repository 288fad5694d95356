use Rattle.std.proofs.Common.{ap, ◌∙◌}
use Rattle.http_messages.proofs.Common.{route_of}
use Rattle.http_messages.proofs.Routed.{no_route}
use Rattle.http_messages.proofs.routes.Routes.route_of.Goals as goal

pub returns-in-Ok : goal.returns-in-Ok
returns-in-Ok c = c.lookup.ensures ∙ ap route_of c.in-Ok.ensures.cases.0

pub returns-in-Err : goal.returns-in-Err
returns-in-Err c = no_route c.args.path.now c.in-Err.ensures.cases.0
