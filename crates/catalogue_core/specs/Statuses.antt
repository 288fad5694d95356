-- Status and closure of units.
use Rattle.std.specs.Prelude.{ℕ, ℤ, Bool, if◌then◌else◌, List, [], ◌∷◌, Option, nat_eq}
use Rattle.std.specs.List.{list_any}
use Rattle.tree_core.specs.Forest.{Forest, each, branch}
use Rattle.catalogue_core.specs.Units.{Unit, has_id}
use Rattle.catalogue_core.specs.CatalogueMerge.{Catalogue}

-- the closure of a unit ends on this day, or the unit has no closure
abbrev pub with_closure : ℕ → Option ℤ → Catalogue → Catalogue
with_closure id until c = record c { forest = each (λ u. if has_id id u then record u { until = until } else u) c.forest }

-- one of these units
abbrev pub is_chosen : List ℕ → Unit → Bool
is_chosen ids u = list_any (λ id. has_id id u) ids

-- these units become drafts, or published
abbrev pub with_status : List ℕ → Bool → Catalogue → Catalogue
with_status ids draft c = record c { forest = each (λ u. if is_chosen ids u then record u { draft = draft } else u) c.forest }

-- a unit alone, or with all units below it, in the forest of unit numbers
abbrev pub chosen_units : Bool → ℕ → Forest ℕ → List ℕ
chosen_units whole id f = if whole then branch (nat_eq id) f else id ∷ []

-- the unit or, if `whole`, each unit of its branch
abbrev pub chosen : Bool → ℕ → Catalogue → List ℕ
chosen whole u c = chosen_units whole u (each (λ unit. unit.id) c.forest)
