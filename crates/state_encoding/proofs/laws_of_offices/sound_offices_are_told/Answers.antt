use Rattle.state_encoding.proofs.shown_cells.ShownCells.{sound_offices_told}
use Rattle.state_encoding.proofs.laws_of_offices.sound_offices_are_told.Goals as goal

pub returns : goal.returns
returns c = sound_offices_told
