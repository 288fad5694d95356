use Rattle.state_encoding.proofs.Whole.{says_the_state}
use Rattle.state_encoding.proofs.laws.tables_describe_the_state.Goals as goal

pub returns : goal.returns
returns c = says_the_state
