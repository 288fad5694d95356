-- The places of a file's rows, in an office that has nothing yet.
use Rattle.std.specs.Prelude.{◌≡◌, ℕ, ◌+◌, ◌≤◌, if◌then◌else◌, List, [], ◌∷◌, length, reverse, Option, Some, None}
use Rattle.std.specs.Prelude.{option_and_then, option_map, slice_get}
use Rattle.std.specs.List.{All}
use Rattle.isad_core.specs.Limits.{most_deep}
use Rattle.isad_core.specs.Texts.{Bytes}
use Rattle.atom_csv.specs.declared.file.Row.{Row}
use Rattle.tree_core.specs.Forest.{Empty}
use Rattle.catalogue_core.specs.CatalogueMerge.{depth_under, faults_below, has_legacy}
use Rattle.finding_aids.specs.declared.previews.places.RowPosition.{RowPosition}

-- the index of the nearest row above with this legacyId; `above` has the nearest first
abbrev pub index_of : Bytes → List Row → Option ℕ
index_of legacy [] = None
index_of legacy (row ∷ above) = if has_legacy legacy row then Some (length above) else index_of legacy above

-- the depth of a row that names this parent, below these rows
abbrev pub depth_below : List Row → Option Bytes → Option ℕ
depth_below above parent = depth_under Empty [] parent above

-- the rows that cannot be placed, each with its cause
abbrev pub faults : List Row → List (ℕ × ℕ)
faults = faults_below Empty [] []

-- a row has this place below the rows above it
pub record IsPlaced (above : List Row) (row : Row) (place : RowPosition) : Type 0 where
  pub parent : place.parent ≡ option_and_then (λ legacy. index_of legacy above) row.parent
  pub depth : depth_below above row.parent ≡ Some place.depth
  pub shallow : place.depth ≤ most_deep

-- rows have these places, the last row and its place first
abbrev pub AllPlaced : List Row → List RowPosition → Type 0
AllPlaced [] [] = Unit {0}
AllPlaced [] (place ∷ places) = ⊥
AllPlaced (row ∷ above) [] = ⊥
AllPlaced (row ∷ above) (place ∷ places) = IsPlaced above row place × AllPlaced above places

-- each row has its place
abbrev pub ArePlaced : List Row → List RowPosition → Type 0
ArePlaced rows places = AllPlaced (reverse rows) (reverse places)

-- the place below the parent with this index, if that has a place
abbrev pub place_at : List RowPosition → ℕ → Option RowPosition
place_at places index = option_map (λ above. record { parent = Some index; depth = above.depth + 1 }) (slice_get places index)

abbrev pub place_below : (Bytes → Option ℕ) → List RowPosition → Option Bytes → Option RowPosition
place_below known places None = Some (record { parent = None; depth = 1 })
place_below known places (Some parent) = option_and_then (place_at places) (known parent)

-- after these rows, none of which is faulty, the code knows the index of each legacyId and has the places
pub record IsPlacing (rows : List Row) (known : Bytes → Option ℕ) (places : List RowPosition) : Type 0 where
  pub none_bad : faults rows ≡ []
  pub knows : (legacy : Bytes) → known legacy ≡ index_of legacy (reverse rows)
  pub placed : ArePlaced rows places
  pub shallow : All (λ (place : RowPosition). place.depth ≤ most_deep) places
