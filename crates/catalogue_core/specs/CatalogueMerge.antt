-- What a file of rows makes of a catalogue.
use Rattle.std.specs.Prelude.{ℕ, suc, ◌+◌, ◌-◌, nat_eq, nat_lt, Bool, not, if◌then◌else◌, List, [], ◌∷◌, ◌++◌, length}
use Rattle.std.specs.Prelude.{filter, find, Option, Some, None, option_and_then, option_map, unwrap_or, Result, Ok, Err}
use Rattle.std.specs.List.{flat_map}
use Rattle.std.specs.Option.{option_eq, option_to_list}
use Rattle.std.specs.Str.{bytes_eq}
use Rattle.isad_core.specs.Limits.{most_deep}
use Rattle.isad_core.specs.Texts.{Bytes}
use Rattle.isad_core.specs.declared.values.BoxKey.{BoxKey}
use Rattle.isad_core.specs.Boxes.{distinct, is_same_box}
use Rattle.atom_csv.specs.Causes.{cause_number}
use Rattle.atom_csv.specs.declared.cause.Cause.TheVariants.{NoParent, TooDeep}
use Rattle.atom_csv.specs.declared.file.Row.{Row}
use Rattle.tree_core.specs.Forest.{Forest, Empty, Node, nodes, has, path, each, join}
use Rattle.catalogue_core.specs.Units.{Unit, is_from}

-- a catalogue: the units in their places, the containers (number n is the n-th), and the number of the next new unit
pub record Catalogue : Type 0 where
  pub forest : Forest Unit
  pub containers : List BoxKey
  pub next : ℕ

-- nothing is catalogued yet
abbrev pub empty_catalogue : Catalogue
empty_catalogue = record { forest = Empty; containers = []; next = 1 }

-- ---- which rows are of known units

-- the row's unit is catalogued, by its number in its source
abbrev pub is_known : Forest Unit → Bytes → Row → Bool
is_known f source row = has (is_from source row.legacy) f

-- the row has this number in its source
abbrev pub has_legacy : Bytes → Row → Bool
has_legacy legacy row = bytes_eq legacy row.legacy

-- ---- what can be wrong with a new row: its parent is not there, or it would lie too deep

-- The depth of a row that names this parent; a top has depth 1. `above` has the new rows above it in the file, the
-- nearest first. There is no depth if the parent is nowhere.
abbrev pub depth_under : Forest Unit → Bytes → Option Bytes → List Row → Option ℕ
depth_under f source None above = Some 1
depth_under f source (Some parent) [] =
    if has (is_from source parent) f then Some (length (path (is_from source parent) f) + 1) else None
depth_under f source (Some parent) (row ∷ above) =
    if has_legacy parent row then option_map suc (depth_under f source row.parent above)
    else depth_under f source (Some parent) above

-- why it cannot be placed, by the cause's number
abbrev pub cause_at : Option ℕ → Option ℕ
cause_at None = Some (cause_number NoParent)
cause_at (Some depth) = if nat_lt most_deep depth then Some (cause_number TooDeep) else None

-- the new rows that have a cause, each by its number in the file, with that cause
abbrev pub faults_below : Forest Unit → Bytes → List Row → List Row → List (ℕ × ℕ)
faults_below f source above [] = []
faults_below f source above (row ∷ rest) =
    option_to_list (option_map (λ cause. (row.row, cause)) (cause_at (depth_under f source row.parent above)))
    ++ faults_below f source (row ∷ above) rest

-- ---- the units after it

-- a new row with the number that its unit gets, and the number of the unit right above it
pub record New : Type 0 where
  pub id : ℕ
  pub parent : Option ℕ
  pub row : Row

-- The number of the unit that a new row names as its parent: that of the nearest new row above it, or that of the
-- catalogued unit. n is the next number.
abbrev pub parent_number : Forest Unit → Bytes → ℕ → List Row → Bytes → Option ℕ
parent_number f source n [] legacy = option_map (λ unit. unit.id) (find (is_from source legacy) (nodes f))
parent_number f source n (row ∷ above) legacy =
    if has_legacy legacy row then Some (n - 1) else parent_number f source (n - 1) above legacy

-- the new rows, numbered in file order from n on; `above` has the rows above them, the nearest first
abbrev pub numbered_from : Forest Unit → Bytes → ℕ → List Row → List Row → List New
numbered_from f source n above [] = []
numbered_from f source n above (row ∷ rest) =
    record { id = n; parent = option_and_then (parent_number f source n above) row.parent; row = row }
    ∷ numbered_from f source (n + 1) (row ∷ above) rest

-- the new rows right below a parent in file order, each with the rows below it; a row is below a row that comes earlier
-- in the file
abbrev pub branches : Option ℕ → List New → Forest New
branches parent [] = Empty
branches parent (new ∷ rest) =
    if option_eq nat_eq new.parent parent
    then Node new (branches (Some new.id) rest) (branches parent rest)
    else branches parent rest

-- the unit of a new row: it has the row's status and no closure
abbrev pub new_unit : Bytes → New → Unit
new_unit source new = record {
  id = new.id;
  source = source;
  legacy = new.row.legacy;
  values = new.row.values;
  draft = not new.row.published;
  until = None;
}

abbrev pub new_units : Bytes → Option ℕ → List New → Forest Unit
new_units source parent new = each (new_unit source) (branches parent new)

-- a known unit gets the values of its row, and keeps its place, its status and its closure
abbrev pub revised : Bytes → List Row → Unit → Unit
revised source rows unit =
    if bytes_eq unit.source source
    then record unit { values = unwrap_or (option_map (λ row. row.values) (find (has_legacy unit.legacy) rows)) unit.values }
    else unit

-- new units come after the old ones below their parents
abbrev pub grown : Bytes → List New → Forest Unit → Forest Unit
grown source new Empty = Empty
grown source new (Node unit children others) =
    Node unit (join (grown source new children) (new_units source (Some unit.id) new)) (grown source new others)

abbrev pub merged_forest : Bytes → List Row → List New → Forest Unit → Forest Unit
merged_forest source rows new f =
    join (grown source new (each (revised source rows) f)) (new_units source None new)

-- ---- the containers after it

-- the number of a container: its place among these, from 1
abbrev pub number_among : List BoxKey → BoxKey → Option ℕ
number_among [] b = None
number_among (c ∷ rest) b = if is_same_box c b then Some 1 else option_map suc (number_among rest b)

abbrev pub box_number : List BoxKey → BoxKey → ℕ
box_number containers b = unwrap_or (number_among containers b) 0

-- containers keep their numbers, and new ones get the next numbers as they first appear
abbrev pub merged_boxes : List Row → List BoxKey → List BoxKey
merged_boxes rows containers = distinct (containers ++ flat_map (λ row. row.values.boxes) rows)

-- ---- all of it

abbrev pub merged : Catalogue → Bytes → List Row → List New → Catalogue
merged s source rows new = record {
  forest = merged_forest source rows new s.forest;
  containers = merged_boxes rows s.containers;
  next = s.next + length new;
}

-- the first fault, or the value if there is none
abbrev pub or_first : {A : Type 0} → List (ℕ × ℕ) → A → Result A (ℕ × ℕ)
or_first [] value = Ok value
or_first (fault ∷ rest) value = Err fault

-- the catalogue after the rows of a file from a source, or the first row that cannot be placed, with its cause
abbrev pub merge : Catalogue → Bytes → List Row → Result Catalogue (ℕ × ℕ)
merge s source rows = from_new (filter (λ row. not (is_known s.forest source row)) rows)
  where
    from_new : List Row → Result Catalogue (ℕ × ℕ)
    from_new new = or_first (faults_below s.forest source [] new) (merged s source rows (numbered_from s.forest source s.next [] new))
