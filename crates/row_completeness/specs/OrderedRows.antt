-- The order of the rows of tables.
use Rattle.std.specs.Prelude.{List, IsTrue}
use Rattle.std.specs.List.{AllByRecursion}
use Rattle.sqlite.specs.Effect.{Database}
use Rattle.sqlite.specs.Order.{Row}
use Rattle.sqlite.specs.Table.{Table}
use Rattle.sqlite.specs.Tree.{IsTable}
use Rattle.sqlite_trees.specs.Tree.{rowid}
use Rattle.sqlite_trees.specs.View.{is_int}

-- the rows of a table have whole numbers in ascending order, none of them twice
pub record StandsInOrder (rows : List Row) : Type 0 where
  pub rise : IsTable rows
  pub numbers : AllByRecursion (λ (row : Row). IsTrue (is_int (rowid row))) rows

-- the rows of each table have whole numbers in ascending order, none of them twice
abbrev pub StandInOrder : Database → Type 0
StandInOrder db = AllByRecursion (λ (table : Table). StandsInOrder (db.trees table.tree)) db.schema.tables
