use Rattle.http_messages.specs.Answers.{continue_text}
use Rattle.http_desk.proofs.reply.send_continue.Goals as goal

pub returns : goal.returns
unfolding continue_text
returns g c = c.send.ensures
