-- Marks of units: what decides who may see the contents of a container.
use Rattle.std.specs.Prelude.{◌≡◌, ℕ, nat_eq, Bool, false, List, map, Option, Some, None}
use Rattle.std.specs.List.{list_any}
use Rattle.isad_core.specs.declared.values.BoxKey.{BoxKey}
use Rattle.tree_core.specs.Forest.{Forest, nodes, each, tree}
use Rattle.visibility.specs.Marks.{IsNumbered}
use Rattle.visibility.specs.declared.marks.Mark.{Mark}
use Rattle.catalogue_core.specs.ContainerContents.{is_some_there}
use Rattle.catalogue_core.specs.CatalogueMerge.{box_number}
use Rattle.catalogue_core.specs.Units.{Unit}

-- ---- the marks of units

-- A unit's mark without numbers: whether the unit is a draft, until when it is closed, and whether it names containers
-- of its own. The permits of a reader are added elsewhere.
abbrev pub mark_of : Unit → Mark
mark_of unit = record {
  id = unit.id;
  lft = 0;
  rgt = 0;
  draft = unit.draft;
  until = unit.until;
  boxed = is_some_there unit.values.boxes;
  permit = false;
}

-- the same mark without its numbers
abbrev pub without_number : Mark → Mark
without_number mark = record mark { lft = 0; rgt = 0 }

-- The marks of these units, in order. Their numbers have no meaning.
abbrev pub AreMarks : List Unit → List Mark → Type 0
AreMarks units marks = map without_number marks ≡ map mark_of units

-- the marks of the units of this forest in walk order, with the numbers that they have if the forest is numbered from
-- some number on
pub record AreWalkMarks (f : Forest Unit) (marks : List Mark) : Type 0 where
  pub first : ℕ
  pub forest : Forest Mark
  pub numbered : IsNumbered first forest
  pub theirs : each without_number forest ≡ each mark_of f
  pub walked : marks ≡ nodes forest

-- a unit with all units below it, or all units if no unit is given
abbrev pub part_of : {A : Type 0} → (ℕ → A → Bool) → Option ℕ → Forest A → Forest A
part_of is None f = f
part_of is (Some id) f = tree (is id) f

-- ---- what a container is attached to

-- whether a unit names the container with this number among its own
abbrev pub names_container : List BoxKey → ℕ → Unit → Bool
names_container containers number unit = list_any (λ box. nat_eq number (box_number containers box)) unit.values.boxes
