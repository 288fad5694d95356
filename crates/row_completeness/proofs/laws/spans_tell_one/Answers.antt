use Rattle.row_completeness.proofs.OneForest.{spans_tell_one}
use Rattle.row_completeness.proofs.laws.spans_tell_one.Goals as goal

pub returns : goal.returns
returns c = spans_tell_one
