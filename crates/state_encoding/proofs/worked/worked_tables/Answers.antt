use Rattle.state_encoding.proofs.WorkedReading.{read_again}
use Rattle.state_encoding.proofs.worked.worked_tables.Goals as goal

pub returns : goal.returns
returns c = read_again
