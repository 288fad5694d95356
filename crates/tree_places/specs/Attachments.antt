-- The units that a container is attached to, and their marks.
use Rattle.std.specs.Prelude.{ℕ, false, List, map, filter, IsPermutation}
use Rattle.tree_core.specs.Forest.{Forest, nodes, path, tree}
use Rattle.visibility.specs.declared.marks.Mark.{Mark}
use Rattle.catalogue_core.specs.CatalogueMerge.{Catalogue}
use Rattle.office_tables.specs.Order.{Rises}
use Rattle.catalogue_statements.specs.Rows.{by_number}
use Rattle.catalogue_core.specs.Units.{Unit, has_id}
use Rattle.tree_places.specs.declared.attached.Attached.{Attached}
use Rattle.catalogue_core.specs.UnitMarks.{AreMarks, AreWalkMarks, names_container}

-- the units that name the container, each once, in order of their numbers
pub record AreAttached (c : Catalogue) (container : ℕ) (units : List Unit) : Type 0 where
  pub are : IsPermutation (filter (names_container c.containers container) (nodes c.forest)) units
  pub rise : Rises by_number units

-- the numbers of the units that name the container
abbrev pub named_by : Catalogue → ℕ → List ℕ
named_by c container = map (λ (u : Unit). u.id) (filter (names_container c.containers container) (nodes c.forest))

-- the marks of the path and of the branch of a unit
abbrev pub AreWholeMarksOf : Forest Unit → ℕ → Attached → Type 0
AreWholeMarksOf f id one = AreMarks (path (has_id id) f) one.path.items × AreWalkMarks (tree (has_id id) f) one.branch.items

-- the same mark, as of a unit that names no containers
abbrev pub without_containers : Mark → Mark
without_containers mark = record mark { boxed = false }
