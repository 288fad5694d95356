-- Looking up units.
use Rattle.std.specs.Prelude.{◌≡◌, ℕ, Bool, true, false, ◌&&◌, Option, MatchOption}
use Rattle.std.specs.List.{list_any}
use Rattle.tree_core.specs.Forest.{Forest, nodes, has}
use Rattle.catalogue_core.specs.Units.{Unit, has_id}

-- the number of a unit of the forest that passes the test, or none if no unit does
abbrev pub FindsUnit : (Unit → Bool) → Forest Unit → Option ℕ → Type 0
FindsUnit is f found = MatchOption found (has is f ≡ false) (λ id. list_any (λ u. is u && has_id id u) (nodes f) ≡ true)

-- the unit with this number exists
abbrev pub has_unit : Forest Unit → ℕ → Bool
has_unit f u = has (has_id u) f
