use Rattle.office_core.proofs.PublishedPart.{published_part_answers}
use Rattle.office_core.proofs.laws.answered_from_the_published.Goals as goal

pub returns : goal.returns
returns c = published_part_answers
