use Rattle.state_encoding.proofs.Linked.{links_say}
use Rattle.state_encoding.proofs.laws.links_describe_the_forest.Goals as goal

pub returns : goal.returns
returns c = links_say
