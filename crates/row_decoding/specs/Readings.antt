-- How rows of doubtful origin are read.
use Rattle.std.specs.Prelude.{◌≡◌, ℕ, Bool, not, List, [], ◌∷◌, map, filter_map, Option}
use Rattle.std.specs.declared.cmp.Ordering.{Ordering}
use Rattle.std.specs.declared.cmp.Ordering.TheVariants.{Equal}
use Rattle.std.specs.List.Sorted.{IsPermutation, IsSorted}
use Rattle.sqlite.specs.declared.types.Value.TheVariants.{Null}
use Rattle.sqlite.specs.Order.{Row, column}
use Rattle.sqlite.specs.Table.{Table}
use Rattle.sqlite.specs.Tree.{Trees}
use Rattle.sqlite_value.specs.Order.{value_cmp}
use Rattle.desk_core.specs.DeskRows.{SeatRow, OrderRow, HoldingRow, RunRow, RunLineRow, PermitRow}
use Rattle.office_tables.specs.Cells.{has_unread, number_in}
use Rattle.row_decoding.specs.declared.decoded_rows.Gathered.{Gathered}
use Rattle.office_tables.specs.DeskCells.{read_seat, read_order, read_holding, read_run, read_run_line, read_permit}

-- what was kept of these rows: those that can be read, in their order, and whether all of them can be read
pub record AreGathered {X Told : Type 0} (told : X → Told) (says : Row → Option Told) (rows : List Row) (kept : List X) (are_read : Bool) : Type 0 where
  pub are : map told kept ≡ filter_map says rows
  pub all : are_read ≡ not (has_unread says rows)

-- ---- the record in the cells that a query shows of a row: the cells are put back in their places in the table's row

abbrev pub seat_in_answer : Row → Option SeatRow
seat_in_answer cells = read_seat (column cells 0 ∷ Null ∷ column cells 1 ∷ [])

abbrev pub order_in_answer : Row → Option OrderRow
order_in_answer cells = read_order (column cells 0 ∷ Null ∷ column cells 1 ∷ column cells 2 ∷ column cells 3 ∷ column cells 4 ∷ [])

abbrev pub holding_in_answer : Row → Option HoldingRow
holding_in_answer cells = read_holding (column cells 0 ∷ Null ∷ column cells 2 ∷ column cells 1 ∷ [])

abbrev pub run_in_answer : Row → Option RunRow
run_in_answer cells = read_run (column cells 0 ∷ Null ∷ column cells 1 ∷ [])

abbrev pub run_line_in_answer : Row → Option RunLineRow
run_line_in_answer cells = read_run_line (Null ∷ column cells 0 ∷ column cells 1 ∷ column cells 2 ∷ column cells 3 ∷ [])

abbrev pub permit_in_answer : Row → Option PermitRow
permit_in_answer cells = read_permit (Null ∷ column cells 0 ∷ column cells 1 ∷ column cells 2 ∷ [])

-- the number of a row, if its key is a number from 0 on
abbrev pub read_number : Row → Option ℕ
read_number row = number_in (column row 0)

-- ---- the rows of a table

abbrev pub by_rowid : Row → Row → Ordering
by_rowid a b = value_cmp (column a 0) (column b 0)

abbrev pub in_any_order : Row → Row → Ordering
in_any_order a b = Equal

-- The rows of the table that can be read, sorted by `comes`, and whether all of them can be read.
pub record AreRead {Told : Type 0} (comes : Row → Row → Ordering) (reads : Row → Option Told) (table : List Row) (rows : List Told) (are_read : Bool) : Type 0 where
  pub stored : List Row
  pub same : IsPermutation table stored
  pub sorted : IsSorted comes stored
  pub are : rows ≡ filter_map reads stored
  pub all : are_read ≡ not (has_unread reads table)

-- the same of one of the tables and the rows that were gathered from it
abbrev pub IsTable : {X Told : Type 0} → (Row → Row → Ordering) → (Row → Option Told) → Table → (X → Told) → Trees → Gathered X → Type 0
IsTable comes reads table told db all = AreRead comes reads (db table.tree) (map told all.rows.items) all.are_read
