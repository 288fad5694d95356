-- Units with their values: how they are added, changed and read.
use Rattle.std.specs.Prelude.{◌≡◌, ℕ, ◌+◌, true, false, if◌then◌else◌, length, Option, List, ◌++◌}
use Rattle.std.specs.List.{AllByRecursion, list_any, list_all}
use Rattle.isad_core.specs.declared.values.Values.{Values}
use Rattle.isad_core.specs.Boxes.{distinct, is_same_box}
use Rattle.tree_core.specs.Forest.{nodes, each, add, has, has_place}
use Rattle.catalogue_core.specs.Units.{Unit, has_id, is_from}
use Rattle.catalogue_core.specs.CatalogueMerge.{Catalogue}
use Rattle.isad_core.specs.declared.values.BoxKey.{BoxKey}

-- the known containers together with these, each once; known ones keep their numbers, and new ones get the next numbers
-- as they first appear
abbrev pub with_boxes : List BoxKey → List BoxKey → List BoxKey
with_boxes known boxes = distinct (known ++ boxes)

-- a new unit is added as the last below its parent, or as the last top; its containers are known from now on
abbrev pub with_unit : Option ℕ → Unit → Catalogue → Catalogue
with_unit parent unit c = record {
  forest = add has_id parent unit c.forest;
  containers = with_boxes c.containers unit.values.boxes;
  next = c.next + 1;
}

-- a unit gets other values, and keeps everything else
abbrev pub with_values : ℕ → Values → Catalogue → Catalogue
with_values id values c = record {
  forest = each (λ u. if has_id id u then record u { values = values } else u) c.forest;
  containers = with_boxes c.containers values.boxes;
  next = c.next;
}

-- no two containers have the same name, location and kind, and every unit's containers are among them
pub record KnowsItsContainers (c : Catalogue) : Type 0 where
  pub apart : distinct c.containers ≡ c.containers
  pub known : AllByRecursion (λ u. list_all (λ box. list_any (is_same_box box) c.containers) u.values.boxes ≡ true) (nodes c.forest)

-- every description has a place for each of the 25 elements other than the level
abbrev pub HasAllPlaces : Catalogue → Type 0
HasAllPlaces c = AllByRecursion (λ u. length u.values.texts ≡ 25) (nodes c.forest)

-- ---- what a unit needs that is added or described

-- a new unit is added under its own number, and the next numbers follow that one
abbrev pub with_numbered : Option ℕ → Unit → Catalogue → Catalogue
with_numbered parent unit c = record (with_unit parent unit c) { next = unit.id + 1 }

-- the values have a place for each text, and no container occurs twice
pub record AreWhole (values : Values) : Type 0 where
  pub places : length values.texts ≡ 25
  pub once : distinct values.boxes ≡ values.boxes

-- the place exists, in a catalogue that knows its containers
pub record HasPlaceFor (parent : Option ℕ) (c : Catalogue) : Type 0 where
  pub knows : KnowsItsContainers c
  pub place : has_place has_id parent c.forest ≡ true

-- the unit exists, in a catalogue that knows its containers
pub record MayDescribe (id : ℕ) (c : Catalogue) : Type 0 where
  pub knows : KnowsItsContainers c
  pub there : has (has_id id) c.forest ≡ true

-- no unit has the same number, or the same number in the same source, and its values are whole
pub record IsNew (u : Unit) (c : Catalogue) : Type 0 where
  pub number : has (has_id u.id) c.forest ≡ false
  pub origin : has (is_from u.source u.legacy) c.forest ≡ false
  pub whole : AreWhole u.values
