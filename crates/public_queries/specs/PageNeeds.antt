-- What the page of the last unit of a path needs of the values of each unit on the path, told by their marks. `below`
-- are the marks of the units below a unit on the path.
use Rattle.std.specs.Prelude.{◌≡◌, Bool, List, [], ◌∷◌, map, cond, find, Some}
use Rattle.std.specs.List.{AllByRecursion, list_any}
use Rattle.isad_core.specs.Texts.{Bytes}
use Rattle.isad_core.specs.declared.values.BoxKey.{BoxKey}
use Rattle.tree_core.specs.Forest.{nodes}
use Rattle.visibility.specs.declared.marks.Mark.{Mark}
use Rattle.catalogue_core.specs.CatalogueMerge.{Catalogue, box_number}
use Rattle.catalogue_core.specs.ContainerContents.{is_some_there}
use Rattle.catalogue_core.specs.UnitMarks.{AreMarks}
use Rattle.catalogue_core.specs.Units.{Unit, has_id}
use Rattle.catalogue_store.specs.declared.unit_values.UnitContainers.{UnitContainers}
use Rattle.catalogue_store.specs.declared.unit_values.UnitValues.{UnitValues}
use Rattle.public_queries.specs.KnownPaths.{IsTellable}

-- some of these units have containers of their own
abbrev pub are_boxed : List Mark → Bool
are_boxed marks = list_any (λ mark. mark.boxed) marks

-- the level of the last unit, and none of the others
abbrev pub level_needed : List Mark → Unit → Bytes
level_needed [] unit = unit.values.level
level_needed (mark ∷ below) unit = []

-- the containers of a unit, unless one below it has some
abbrev pub boxes_needed : List Mark → Unit → List BoxKey
boxes_needed below unit = cond (are_boxed below) [] unit.values.boxes

-- the same with their numbers
abbrev pub containers_needed : List BoxKey → List Mark → Unit → UnitContainers
containers_needed boxes below unit =
    record { boxes = boxes_needed below unit; numbers = map (box_number boxes) (boxes_needed below unit) }

-- all texts of a unit, with these
abbrev pub values_needed : List BoxKey → List Mark → Unit → UnitValues
values_needed boxes below unit = record {
  values = record { level = level_needed below unit; texts = unit.values.texts; boxes = boxes_needed below unit };
  containers = map (box_number boxes) (boxes_needed below unit);
}

-- those of each of these units, which are on one path
abbrev pub all_needed : List BoxKey → List Mark → List Unit → List UnitValues
all_needed boxes [] units = []
all_needed boxes (mark ∷ below) [] = []
all_needed boxes (mark ∷ below) (unit ∷ units) = values_needed boxes below unit ∷ all_needed boxes below units

-- ---- which of them can be read

-- the catalogue has this unit under the mark's number, and can tell its values; the mark says whether it has containers
pub record IsMarked (c : Catalogue) (mark : Mark) (unit : Unit) : Type 0 where
  pub tellable : IsTellable c
  pub found : find (has_id mark.id) (nodes c.forest) ≡ Some unit
  pub boxed : mark.boxed ≡ is_some_there unit.values.boxes

-- these are the marks of units of the catalogue
pub record AreMarksOf (c : Catalogue) (marks : List Mark) : Type 0 where
  pub units : List Unit
  pub found : AllByRecursion (λ (u : Unit). find (has_id u.id) (nodes c.forest) ≡ Some u) units
  pub are : AreMarks units marks
