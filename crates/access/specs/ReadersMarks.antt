-- The marks of a unit for one reader.
use Rattle.std.specs.Prelude.{◌≡◌, ℕ, Bool, List, map}
use Rattle.tree_core.specs.Forest.{Forest, path, tree}
use Rattle.visibility.specs.declared.marks.Mark.{Mark}
use Rattle.catalogue_core.specs.OpenMarks.{with_permit}
use Rattle.catalogue_core.specs.UnitMarks.{AreMarks, AreWalkMarks}
use Rattle.catalogue_core.specs.Units.{Unit, has_id}

-- the marks of the path and of the branch of a unit, each with whether the reader has a permit for its unit that day
pub record AreReadersMarks (permitted : ℕ → Bool) (f : Forest Unit) (u : ℕ) (way below : List Mark) : Type 0 where
  pub path_marks : List Mark
  pub branch_marks : List Mark
  pub way_is : way ≡ map (with_permit permitted) path_marks
  pub below_is : below ≡ map (with_permit permitted) branch_marks
  pub path_are : AreMarks (path (has_id u) f) path_marks
  pub branch_are : AreWalkMarks (tree (has_id u) f) branch_marks
