-- What is required of tables that are opened, besides what SQL itself reports about them.
use Rattle.std.specs.Prelude.{◌≡◌, suc, List, length, IsTrue}
use Rattle.std.specs.List.{AllByRecursion}
use Rattle.sqlite.specs.Effect.{Database}
use Rattle.sqlite.specs.Order.{Row}
use Rattle.sqlite.specs.Table.{Table}
use Rattle.sqlite.specs.Tree.{IsTable}
use Rattle.sqlite_trees.specs.Tree.{rowid}
use Rattle.sqlite_trees.specs.View.{is_int}

-- The rows are sorted by their numbers, which are whole numbers, none of them twice. Each row has all its cells: no
-- column was added to the table when it had rows.
pub record IsWholeTable (table : Table) (rows : List Row) : Type 0 where
  pub rise : IsTable rows
  pub numbers : AllByRecursion (λ (row : Row). IsTrue (is_int (rowid row))) rows
  pub cells : AllByRecursion (λ (row : Row). length row ≡ suc (length table.columns)) rows

abbrev pub AreWholeTables : Database → Type 0
AreWholeTables db = AllByRecursion (λ (table : Table). IsWholeTable table (db.trees table.tree)) db.schema.tables
