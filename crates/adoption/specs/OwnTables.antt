-- The tables of an office of this product meet what opening requires.
use Rattle.std.specs.Prelude.{ℕ}
use Rattle.sqlite.specs.Effect.{Database}
use Rattle.sqlite.specs.Tree.{Trees}
use Rattle.tree_core.specs.Forest.{Forest}
use Rattle.office_tables.specs.Versions.{Version}
use Rattle.office_core.specs.State.{State}
use Rattle.refinement.specs.Representation.{RepresentsState}
use Rattle.adoption.specs.OrderedTables.{StandInOrder}

-- the rows of tables that represent a state stand in order
abbrev pub ShownTablesStandInOrder : (Trees → Forest ℕ → Type 0) → Version → Database → State → Type 0
ShownTablesStandInOrder places version db s = RepresentsState places version db s → StandInOrder db
