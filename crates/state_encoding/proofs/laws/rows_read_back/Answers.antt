use Rattle.state_encoding.proofs.ReadBack.{says_all_but_units}
use Rattle.state_encoding.proofs.laws.rows_read_back.Goals as goal

pub returns : goal.returns
returns c = says_all_but_units
