use Rattle.std.proofs.Common.{◌≡◌, take, drop, ap, ◌∙◌}
use Rattle.http_desk.proofs.Common.{unwrap_or}
use Rattle.http_desk.proofs.responses.answer_first.Goals as goal

pub returns-in-Ok-clause-machine : goal.returns-in-Ok-clause-machine
returns-in-Ok-clause-machine g c =
    let items = c.args.buffer.now.items in
    let block : c.deref.result.now ≡ take c.args.size items = c.deref.ensures.value ∙ c.in-Ok.ensures.head in
    let body : c.in-Ok.body.items ≡ take (unwrap_or c.args.head.length 0) (drop c.args.size items) =
    c.in-Ok.ensures.body ∙ ap (λ n. take n (drop c.args.size items)) c.body_len.ensures in
    rw (block, body) at c.respond.ensures
