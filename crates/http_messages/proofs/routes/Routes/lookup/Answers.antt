use Rattle.std.proofs.Common.{ap, ◌∙◌, arith}
use Rattle.http_messages.proofs.Common.{leads_to}
use Rattle.http_messages.proofs.Matched.{AllBytes}
use Rattle.http_messages.proofs.Routed.{leads_on, leads_nowhere}
use Rattle.http_messages.proofs.routes.Routes.lookup.Goals as goal

pub returns-in-Ok : goal.returns-in-Ok
returns-in-Ok c =
    let bytes : AllBytes c.args.text.now = λ k. let fits = c.type_inv.text k in omega arith in
    let it = leads_on c.args.self.now.router c.args.text.now _ _ bytes c.utf8.text c.args.self.now.holds c.in-Ok.ensures.found c.in-Ok.ensures.path in
    c.led_to.ensures ∙ ap (leads_to _) (c.first_of.ensures it.0) ∙ it.1

pub returns-in-Err : goal.returns-in-Err
returns-in-Err c =
    let bytes : AllBytes c.args.text.now = λ k. let fits = c.type_inv.text k in omega arith in
    leads_nowhere c.args.self.now.router c.args.text.now bytes c.utf8.text c.args.self.now.holds c.in-Err.ensures.missing
