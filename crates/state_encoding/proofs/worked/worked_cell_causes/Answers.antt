use Rattle.state_encoding.proofs.WorkedCells.{told}
use Rattle.state_encoding.proofs.worked.worked_cell_causes.Goals as goal

pub returns : goal.returns
returns c = told
