use Rattle.http_messages.proofs.Bodies.{some_value, no_value, never_true}
use Rattle.http_messages.proofs.members.value_of.Goals as goal

pub returns-in-Ok : goal.returns-in-Ok
returns-in-Ok c = some_value c.args.body.now _ c.in-Ok.ensures.ok.0 c.in-Ok.ensures.ok.1

pub returns-else-is_memory : goal.returns-else-is_memory
returns-else-is_memory c = no_value c.args.body.now (c.in-Err.ensures.err (λ m. never_true (c.if-is_memory.ensures.1 m)))
