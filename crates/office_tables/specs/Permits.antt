-- The rows of the table of permits. The desk writes them, and they go with their unit.
use Rattle.std.specs.Prelude.{ℤ, pos, [], ◌∷◌}
use Rattle.sqlite.specs.declared.types.Value.TheVariants.{Int}
use Rattle.sqlite.specs.Order.{Row}
use Rattle.desk_core.specs.DeskRows.{PermitRow}

-- a row has a number of its own, which has no meaning
abbrev pub permit_cells : ℤ × PermitRow → Row
permit_cells (n, p) = Int n ∷ Int (pos p.ticket) ∷ Int (pos p.unit) ∷ Int p.until ∷ []
