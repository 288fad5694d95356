use Rattle.std.proofs.Common.{append-nil}
use Rattle.http_desk.proofs.reply.send_parts.Goals as goal

pub returns : goal.returns
returns g c = rw (← append-nil c.args.parts.body.now) c.send.ensures
