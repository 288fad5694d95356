use Rattle.state_encoding.proofs.CellCauses.{none_by_cells}
use Rattle.state_encoding.proofs.laws.cells_have_no_cause.Goals as goal

pub returns : goal.returns
returns c = none_by_cells
