use Rattle.state_encoding.proofs.shown_cells.TreesOfOffices.{has_trees}
use Rattle.state_encoding.proofs.laws_of_offices.states_are_represented.Goals as goal

pub returns : goal.returns
returns c = has_trees
