-- Whether the rows of the places can be those of an office, whatever their cells are, and which units have a place.
use Rattle.std.specs.Prelude.{◌≡◌, ℕ, ◌<◌, List, [], ◌∷◌, Option, ⊤, IfSome, is_none}
use Rattle.std.specs.List.Sorted.{IsPermutation}
use Rattle.sqlite.specs.Tree.{Trees}
use Rattle.office_tables.specs.Versions.{Version, encoding}
use Rattle.catalogue_core.specs.CatalogueCauses.{place_numbers}
use Rattle.catalogue_core.specs.CatalogueRows.{PlaceRows, places_said}
use Rattle.catalogue_core.specs.Moves.{height}
use Rattle.row_decoding.specs.TableRows.{places_in}
use Rattle.integrity_checks.specs.declared.checked_places.Placed.{Placed}
pub use Rattle.row_completeness.specs.WholePlaces.{places_are_defective}

-- each number is less than the next
abbrev pub AreAscending : List ℕ → Type 0
AreAscending [] = ⊤
AreAscending (a ∷ []) = ⊤
AreAscending (a ∷ b ∷ more) = (a < b) × AreAscending (b ∷ more)

-- the numbers of the units that have a place, ascending
pub record AreUnitsPlaced (rows : PlaceRows) (units : List ℕ) : Type 0 where
  pub same : IsPermutation (place_numbers rows) units
  pub ascend : AreAscending units

-- what the check of the places finds: none if they are defective, otherwise the units that have one and their height
pub record AreChecked (version : Version) (db : Trees) (found : Option Placed) : Type 0 where
  pub defect : is_none found ≡ places_are_defective (encoding version) db
  pub units : IfSome found (λ placed. AreUnitsPlaced (places_in (encoding version) db) placed.units.items)
  pub height : IfSome found (λ placed. placed.height ≡ height (places_said (places_in (encoding version) db)))
