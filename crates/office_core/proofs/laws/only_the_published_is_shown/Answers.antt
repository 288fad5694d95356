use Rattle.office_core.proofs.Published.{only_published}
use Rattle.office_core.proofs.laws.only_the_published_is_shown.Goals as goal

pub returns : goal.returns
returns c = only_published
