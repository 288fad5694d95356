-- The marks of the units that a container is attached to, each with its path and its branch.
use Rattle.std.specs.Prelude.{ℕ, List, [], ◌∷◌, map, ⊤}
use Rattle.tree_core.specs.Forest.{Forest}
use Rattle.catalogue_core.specs.CatalogueMerge.{Catalogue}
use Rattle.catalogue_core.specs.Units.{Unit}
use Rattle.tree_places.specs.Attachments.{AreAttached, AreWholeMarksOf}
use Rattle.tree_places.specs.declared.attached.Attached.{Attached}

-- the marks of the path and of the branch of each of these units
abbrev pub AreWholeMarksOfEach : Forest Unit → List ℕ → List Attached → Type 0
AreWholeMarksOfEach f [] [] = ⊤
AreWholeMarksOfEach f [] (one ∷ more) = ⊥
AreWholeMarksOfEach f (id ∷ ids) [] = ⊥
AreWholeMarksOfEach f (id ∷ ids) (one ∷ more) = AreWholeMarksOf f id one × AreWholeMarksOfEach f ids more

-- the same for each unit that names the container, once, in order of their numbers
abbrev pub AreContentsMarks : Catalogue → ℕ → List Attached → Type 0
AreContentsMarks c container found =
    (units : List Unit) × AreAttached c container units × AreWholeMarksOfEach c.forest (map (λ (u : Unit). u.id) units) found
