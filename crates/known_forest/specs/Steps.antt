-- Definitions for private steps: the path of a unit at an index, and the units that a status is set for.
use Rattle.std.specs.Prelude.{ℕ, List, [], Option, Some, None, slice_index}
use Rattle.tree_core.specs.Forest.{Forest, path}
use Rattle.visibility.specs.declared.marks.Mark.{Mark}
use Rattle.known_forest.specs.KnownMarks.{has_id}

-- the path of the unit at this index of the ids; none for no index
abbrev pub way : Forest Mark → List ℕ → Option ℕ → List Mark
way f ids None = []
way f ids (Some index) = path (has_id (slice_index ids index)) f
