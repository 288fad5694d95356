-- The rows of the catalogue's tables. A row is its rowid and then its columns; the column that is the INTEGER PRIMARY
-- KEY is kept as NULL.
use Rattle.std.specs.Prelude.{ℕ, ◌+◌, pos, List, [], ◌∷◌}
use Rattle.std.specs.declared.cmp.Ordering.{Ordering}
use Rattle.std.specs.Ordering.{int_cmp, ordering_then}
use Rattle.sqlite.specs.declared.types.Value.TheVariants.{Null, Int, Text}
use Rattle.sqlite.specs.Order.{Row}
use Rattle.sqlite.specs.Values.{or_null}
use Rattle.isad_core.specs.declared.values.BoxKey.{BoxKey}
use Rattle.tree_core.specs.declared.rows.Link.{Link}
use Rattle.office_tables.specs.Versions.{Version, First, version_number}
use Rattle.catalogue_core.specs.Units.{Unit}
use Rattle.catalogue_statements.specs.declared.office.OfficeRow.{OfficeRow}
pub use Rattle.catalogue_core.specs.CatalogueRows.{ElementRow, HousingRow}
pub use Rattle.office_tables.specs.Flags.{flag}
pub use Rattle.office_tables.specs.RowCells.{element_cells as element_row, housing_cells as housing_row}
pub use Rattle.office_tables.specs.RowCells.{link_cells as link_row}
pub use Rattle.office_tables.specs.SharedRows.{numbered_container_cells}
use Rattle.office_tables.specs.SharedRows.{settings_cells, office_cells}
use Rattle.catalogue_core.specs.CatalogueRows as row

-- ---- office

-- the office's row in this version
abbrev pub row_of_version : Version → OfficeRow → row.OfficeRow
row_of_version version o = record {
  version = version_number version;
  country = o.country;
  repo = o.repo;
  seats = o.seats;
  daily = o.daily;
  hands = o.hands;
  run_size = o.run_size;
  day = o.day;
  next_unit = o.next_unit;
}

abbrev pub office_row : Version → OfficeRow → Row
office_row version o = office_cells (row_of_version version o)

-- the cells of the settings, which are the same in either version
abbrev pub settings_of_row : OfficeRow → Row
settings_of_row o = settings_cells (row_of_version First o)

-- ---- units

abbrev pub cells_of_unit : Unit → Row
cells_of_unit u = Int (pos u.id) ∷ Null ∷ Text u.source ∷ Text u.legacy ∷ Text u.values.level ∷ or_null Int u.until ∷ Int (flag u.draft) ∷ []

abbrev pub by_number : Unit → Unit → Ordering
by_number a b = int_cmp (pos a.id) (pos b.id)

-- ---- elements, by their unit, then by their number in the standard
abbrev pub by_element : ElementRow → ElementRow → Ordering
by_element a b = ordering_then (int_cmp (pos a.unit) (pos b.unit)) (int_cmp (pos a.k) (pos b.k))

-- ---- containers, by their numbers, which count from 1

abbrev pub by_container : ℕ × BoxKey → ℕ × BoxKey → Ordering
by_container a b = int_cmp (pos a.0) (pos b.0)

abbrev pub counted_from : {A : Type 0} → ℕ → List A → List (ℕ × A)
counted_from n [] = []
counted_from n (x ∷ xs) = (n, x) ∷ counted_from (n + 1) xs

-- ---- housing, by their unit, then by their place
abbrev pub by_housing : HousingRow → HousingRow → Ordering
by_housing a b = ordering_then (int_cmp (pos a.unit) (pos b.unit)) (int_cmp (pos a.ord) (pos b.ord))

-- ---- places

abbrev pub by_id : Link → Link → Ordering
by_id a b = int_cmp (pos a.id) (pos b.id)

-- by their place among siblings, then by their number
abbrev pub by_place : Link → Link → Ordering
by_place a b = ordering_then (int_cmp (pos a.ord) (pos b.ord)) (int_cmp (pos a.id) (pos b.id))
