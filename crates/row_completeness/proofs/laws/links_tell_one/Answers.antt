use Rattle.row_completeness.proofs.OneForest.{links_tell_one}
use Rattle.row_completeness.proofs.laws.links_tell_one.Goals as goal

pub returns : goal.returns
returns c = links_tell_one
