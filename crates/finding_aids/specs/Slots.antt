-- What has grown below each row and at the top.
use Rattle.std.specs.Prelude.{◌≡◌, ℕ, suc, ◌+◌, ◌≤◌, ◌<◌, List, [], length, map, take, reverse, Option, Some, None}
use Rattle.std.specs.Prelude.{option_map, slice_get}
use Rattle.std.specs.Option.{option_map_or}
use Rattle.isad_core.specs.Limits.{most_deep}
use Rattle.atom_csv.specs.declared.file.Row.{Row}
use Rattle.finding_aids.specs.declared.previews.trees.Slot.{Slot}
use Rattle.finding_aids.specs.declared.previews.trees.Tree.{Tree}
use Rattle.finding_aids.specs.Places.{AllPlaced}
use Rattle.finding_aids.specs.RowTrees.{height_of_all, forest_of_trees, rest_of, seen_below}

abbrev pub children_at : List Slot → ℕ → List Tree
children_at slots index = option_map_or (λ (slot : Slot). slot.children.items) (slice_get slots index) []

-- what has grown below the row with this index, or at the top
abbrev pub grown_at : List Slot → List Tree → Option ℕ → List Tree
grown_at slots tops None = tops
grown_at slots tops (Some index) = children_at slots index

-- the place is the top or that of a slot
abbrev pub IsBelow : ℕ → Option ℕ → Type 0
IsBelow n None = Unit {0}
IsBelow n (Some index) = index < n

-- the depth of the row with this index; 0 for the top
abbrev pub depth_at : List Slot → Option ℕ → ℕ
depth_at slots None = 0
depth_at slots (Some index) = option_map_or (λ (slot : Slot). slot.place.depth) (slice_get slots index) 0

-- the slots are those of the first rows, and what has grown is what the public would see of the others
pub record HasGrown (rows : List Row) (slots : List Slot) (tops : List Tree) : Type 0 where
  pub few : length slots ≤ length rows
  pub placed : AllPlaced (reverse (take (length slots) rows)) (reverse (map (λ (slot : Slot). slot.place) slots))
  pub grown : (parent : Option ℕ) → IsBelow (length slots) parent
      → forest_of_trees (grown_at slots tops parent) ≡ seen_below (option_map suc parent) (rest_of rows (length slots))
  pub low : (parent : Option ℕ) → IsBelow (length slots) parent
      → height_of_all (grown_at slots tops parent) + depth_at slots parent ≤ most_deep
