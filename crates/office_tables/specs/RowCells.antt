-- The rows of the tables in cells: the rowid and then the columns. The column that is the INTEGER PRIMARY KEY is kept
-- as NULL. If a table has no such column, each of its rows has a number of its own, which has no meaning.
use Rattle.std.specs.Prelude.{ℤ, pos, [], ◌∷◌, option_map}
use Rattle.sqlite.specs.declared.types.Value.TheVariants.{Null, Int, Text}
use Rattle.sqlite.specs.Order.{Row}
use Rattle.sqlite.specs.Values.{or_null}
use Rattle.tree_core.specs.declared.rows.Link.{Link}
use Rattle.tree_core.specs.declared.rows.Span.{Span}
use Rattle.catalogue_core.specs.CatalogueRows.{UnitRow, ElementRow, ContainerRow, HousingRow, box_from}
use Rattle.desk_core.specs.DeskRows.{ReaderRow, SeatRow, OrderRow, HoldingRow, RunRow, RunLineRow}
use Rattle.office_tables.specs.Flags.{flag}
use Rattle.office_tables.specs.SharedRows.{numbered_container_cells}

-- ---- the catalogue

abbrev pub unit_cells : UnitRow → Row
unit_cells row =
    Int (pos row.id) ∷ Null ∷ Text row.source ∷ Text row.legacy ∷ Text row.level ∷ or_null Int row.until
    ∷ Int (flag row.draft) ∷ []

abbrev pub element_cells : ℤ × ElementRow → Row
element_cells (n, row) = Int n ∷ Int (pos row.unit) ∷ Int (pos row.k) ∷ Text row.value ∷ []

abbrev pub container_cells : ContainerRow → Row
container_cells row = numbered_container_cells (row.id, box_from row)

abbrev pub housing_cells : ℤ × HousingRow → Row
housing_cells (n, row) = Int n ∷ Int (pos row.unit) ∷ Int (pos row.ord) ∷ Int (pos row.container) ∷ []

abbrev pub link_cells : Link → Row
link_cells row = Int (pos row.id) ∷ Null ∷ or_null Int (option_map pos row.parent) ∷ Int (pos row.ord) ∷ []

abbrev pub span_cells : Span → Row
span_cells row = Int (pos row.id) ∷ Null ∷ Int (pos row.lft) ∷ Int (pos row.rgt) ∷ []

-- ---- the desk

abbrev pub reader_cells : ReaderRow → Row
reader_cells row = Int (pos row.ticket) ∷ Null ∷ Text row.name ∷ Int row.until ∷ []

abbrev pub seat_cells : SeatRow → Row
seat_cells row = Int (pos row.seat) ∷ Null ∷ Int (pos row.ticket) ∷ []

abbrev pub order_cells : OrderRow → Row
order_cells row =
    Int (pos row.id) ∷ Null ∷ Int (pos row.ticket) ∷ Int (pos row.container) ∷ Int row.day ∷ Int (pos row.state) ∷ []

abbrev pub holding_cells : HoldingRow → Row
holding_cells row = Int (pos row.container) ∷ Null ∷ or_null Int (option_map pos row.held_by) ∷ Int (pos row.place) ∷ []

abbrev pub run_cells : RunRow → Row
run_cells row = Int (pos row.id) ∷ Null ∷ Int row.day ∷ []

abbrev pub run_line_cells : ℤ × RunLineRow → Row
run_line_cells (n, row) =
    Int n ∷ Int (pos row.run) ∷ Int (pos row.container) ∷ Int (pos row.order_no) ∷ Int (pos row.ticket) ∷ []
