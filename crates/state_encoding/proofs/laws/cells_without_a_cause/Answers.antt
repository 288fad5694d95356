use Rattle.state_encoding.proofs.CellCauses.{cells_are_said}
use Rattle.state_encoding.proofs.laws.cells_without_a_cause.Goals as goal

pub returns : goal.returns
returns c = cells_are_said
