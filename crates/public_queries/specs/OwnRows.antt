-- What units' own rows tell, before their texts are read and their paths are known.
use Rattle.std.specs.Prelude.{ℤ, Bool, false, not, ◌&&◌, cond, Option, Some, None}
use Rattle.catalogue_core.specs.Units.{«Unit» as Described, is_unit_closed}
use Rattle.catalogue_statements.specs.Standings.{standing_of}
use Rattle.catalogue_statements.specs.declared.row_types.Standing.{Standing}

-- what its row says of such a unit, if there is one and it is no draft: the public is shown no other
abbrev pub published_standing : Option Described → Option Standing
published_standing None = None
published_standing (Some unit) = cond unit.draft None (Some (standing_of unit))

-- there is such a unit, and it is neither a draft nor closed on that day
abbrev pub is_open_there : ℤ → Option Described → Bool
is_open_there day None = false
is_open_there day (Some unit) = not unit.draft && not (is_unit_closed day unit)

-- there is such a unit, and it is closed on that day
abbrev pub is_closed_there : ℤ → Option Described → Bool
is_closed_there day None = false
is_closed_there day (Some unit) = is_unit_closed day unit
