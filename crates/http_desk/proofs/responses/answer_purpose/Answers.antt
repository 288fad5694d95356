use Rattle.std.proofs.Common.{ap, sym}
use Rattle.http_desk.specs.Purposes.{meaning_of}
use Rattle.http_desk.proofs.Common.{carried_out}
use Rattle.http_desk.proofs.Purposes.{same_answers}
use Rattle.http_desk.proofs.responses.answer_purpose.Goals as goal

pub returns-in-Command : goal.returns-in-Command
returns-in-Command g c =
    same_answers (λ s. ap (λ p. carried_out s (meaning_of p)) (sym c.in-Command.is)) (λ posts. tt) c.answer_command.ensures
