use Rattle.http_messages.proofs.Options.{prepend_none}
use Rattle.http_messages.proofs.head_verdict.first_comma.Goals as goal

pub loop-i-init : goal.loop-i-init
loop-i-init c = prepend_none c.args.bytes.now
