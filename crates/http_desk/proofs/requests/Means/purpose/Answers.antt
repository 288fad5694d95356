use Rattle.std.proofs.Common.{◌≡◌, sym, ap, ◌∙◌, subst, Some}
use Rattle.http_messages.specs.Router.{route_in}
use Rattle.http_desk.specs.Purposes.{meaning_of}
use Rattle.http_desk.proofs.Common.{IfOk, State, by_route, carried_out, option_map, path_of, request_in, route_of}
use Rattle.http_desk.proofs.requests.Means.purpose.Goals as goal

pub returns-in-Some-clause-means : goal.returns-in-Some-clause-means
returns-in-Some-clause-means c =
    let request = request_in c.args.block.now c.args.head in
    let found : Some (route_in c.in-Some.route) ≡ route_of (path_of request.target) =
    sym (ap (option_map route_in) c.in-Some.is) ∙ c.route_of.ensures ∙ ap route_of (c.path_of.ensures ∙ ap path_of c.of.ensures) in
    subst (λ o. IfOk c.purpose_by_route.result
    (λ purpose. (s : State) → carried_out s (meaning_of purpose) ≡ by_route s request c.args.body.items o)) found c.purpose_by_route.ensures.means
