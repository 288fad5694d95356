use Rattle.state_encoding.proofs.Nested.{spans_say}
use Rattle.state_encoding.proofs.laws.spans_describe_the_forest.Goals as goal

pub returns : goal.returns
returns c = spans_say
