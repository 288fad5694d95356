-- When marks decide that a container is open to a reader. The public is a reader without permits.
use Rattle.std.specs.Prelude.{◌≡◌, ℕ, ℤ, Bool, true, false, not, ◌&&◌, List, map, filter}
use Rattle.std.specs.List.{list_any, list_all}
use Rattle.isad_core.specs.declared.values.BoxKey.{BoxKey}
use Rattle.isad_core.specs.Boxes.{is_same_box}
use Rattle.tree_core.specs.Forest.{Forest, Empty, Node, nodes, each, has, path, tree, HasDistinctIds}
use Rattle.visibility.specs.Marks.{IsNumbered, withholds, contents_paths}
use Rattle.visibility.specs.declared.marks.Mark.{Mark}
use Rattle.catalogue_core.specs.ContainerContents.{is_some_there, is_open}
use Rattle.catalogue_core.specs.UnitMarks.{mark_of, without_number, AreMarks, AreWalkMarks}
use Rattle.catalogue_core.specs.Pages.{before_last}
use Rattle.catalogue_core.specs.Units.{Unit, has_id}

-- the same mark for a reader; `permitted` is whether the reader has a permit for a unit that day
abbrev pub with_permit : (ℕ → Bool) → Mark → Mark
with_permit permitted mark = record mark { permit = permitted mark.id }

abbrev pub mark_for : (ℕ → Bool) → Unit → Mark
mark_for permitted unit = with_permit permitted (mark_of unit)

-- whether a permit is on a path above its last unit
abbrev pub is_opened_above : List Mark → Bool
is_opened_above path = list_any (λ (mark : Mark). mark.permit) (before_last path)

-- whether a unit is clean by the marks of its path and of its branch: nothing on its path withholds it, and nothing
-- within its branch withholds it or a unit that takes its containers from it
abbrev pub is_clean_by_marks : ℤ → List Mark → Forest Mark → Bool
is_clean_by_marks today path Empty = not (withholds today false path)
is_clean_by_marks today path (Node unit below others) =
    not (withholds today false path)
    && list_all (λ way. not (withholds today (is_opened_above path) way)) (contents_paths unit below)

-- the same for a unit of a forest, by its number, and for a reader
abbrev pub is_clean_for : (ℕ → Bool) → ℤ → Forest Unit → ℕ → Bool
is_clean_for permitted today f id =
    is_clean_by_marks today (map (mark_for permitted) (path (has_id id) f)) (each (mark_for permitted) (tree (has_id id) f))

-- the units that name a container among their own
abbrev pub naming : BoxKey → Forest Unit → List Unit
naming box f = filter (λ unit. list_any (is_same_box box) unit.values.boxes) (nodes f)

-- A container is open to a reader exactly if some unit names it, and each unit that names it is clean by its marks for
-- the reader.
abbrev pub OpenByMarks : Type 0
OpenByMarks = (f : Forest Unit) (box : BoxKey) (permitted : ℕ → Bool) (today : ℤ) →
    HasDistinctIds (each (λ unit. unit.id) f) →
    is_open f box permitted today
    ≡ (is_some_there (naming box f) && list_all (λ unit. is_clean_for permitted today f unit.id) (naming box f))

-- The numbers of the marks do not matter for this.
abbrev pub NumbersTellNothing : Type 0
NumbersTellNothing = (today : ℤ) (path : List Mark) (branch : Forest Mark) →
    is_clean_by_marks today path branch ≡ is_clean_by_marks today (map without_number path) (each without_number branch)

-- The answers of `clean_path` and `clean_contents` on the marks that are read for a unit, with the reader's permits
-- added: both are true exactly if the unit is clean. The last two premises are the contracts of these calls.
abbrev pub MarksSayClean : Type 0
MarksSayClean = (f : Forest Unit) (unit : ℕ) (permitted : ℕ → Bool) (today : ℤ) (marks branch : List Mark)
    (path_clean contents_clean : Bool) →
    has (has_id unit) f ≡ true → AreMarks (path (has_id unit) f) marks → AreWalkMarks (tree (has_id unit) f) branch →
    let read = map (with_permit permitted) marks in
    path_clean ≡ not (withholds today false read) →
    ((k : ℕ) (first : Mark) (below : Forest Mark) → IsNumbered k (Node first below Empty)
    → map (with_permit permitted) branch ≡ nodes (Node first below Empty)
    → contents_clean ≡ list_all (λ way. not (withholds today (is_opened_above read) way)) (contents_paths first below)) →
    (path_clean && contents_clean) ≡ is_clean_for permitted today f unit
