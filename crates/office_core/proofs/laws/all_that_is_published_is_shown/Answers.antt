use Rattle.office_core.proofs.Published.{all_published}
use Rattle.office_core.proofs.laws.all_that_is_published_is_shown.Goals as goal

pub returns : goal.returns
returns c = all_published
