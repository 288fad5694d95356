use Rattle.http_desk.proofs.Purposes.{same_answers}
use Rattle.http_desk.proofs.responses.respond.Goals as goal

pub returns-in-Ok : goal.returns-in-Ok
returns-in-Ok g c = same_answers c.in-Ok.ensures.means c.in-Ok.ensures.posts c.answer_purpose.ensures
