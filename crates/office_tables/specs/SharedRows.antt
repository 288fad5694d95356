-- The rows that both stores read: those of the containers, and the office's own row. A row is its rowid and then its
-- columns; the column that is the INTEGER PRIMARY KEY is kept as NULL.
use Rattle.std.specs.Prelude.{ℕ, pos, [], ◌∷◌}
use Rattle.sqlite.specs.declared.types.Value.TheVariants.{Null, Int, Text}
use Rattle.sqlite.specs.Order.{Row}
use Rattle.isad_core.specs.declared.values.BoxKey.{BoxKey}
pub use Rattle.catalogue_core.specs.CatalogueRows.{OfficeRow}

-- a container under its number
abbrev pub numbered_container_cells : ℕ × BoxKey → Row
numbered_container_cells (n, b) = Int (pos n) ∷ Null ∷ Text b.name ∷ Text b.location ∷ Text b.kind ∷ []

-- what the office's row contains besides its version
abbrev pub settings_cells : OfficeRow → Row
settings_cells o =
    Text o.country ∷ Text o.repo ∷ Int (pos o.seats) ∷ Int (pos o.daily) ∷ Int (pos o.hands) ∷ Int (pos o.run_size) ∷ Int o.day
    ∷ Int (pos o.next_unit) ∷ []

abbrev pub office_cells : OfficeRow → Row
office_cells o = Int (pos 1) ∷ Null ∷ Int (pos o.version) ∷ settings_cells o
