use Rattle.row_completeness.proofs.KeptPlaces.{spans_represent}
use Rattle.row_completeness.proofs.laws.spans_represent.Goals as goal

pub returns : goal.returns
returns c = spans_represent
