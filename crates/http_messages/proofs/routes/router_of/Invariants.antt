use Rattle.std.proofs.Common.{◌≡◌, [], drop, map}
use Rattle.http_messages.specs.Router.{with_all_routes}
use Rattle.http_messages.proofs.routes.router_of.Given as goal

abbrev pub invariant-loop-line : goal.invariant-loop-line
invariant-loop-line l = with_all_routes l.router (map (λ line. (line.0.now, line.1)) (drop l.line-index l.lines)) ≡ with_all_routes [] (map (λ line. (line.0.now, line.1)) l.lines)
