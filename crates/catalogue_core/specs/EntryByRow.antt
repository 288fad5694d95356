-- Entering a file's rows into a catalogue one after another.
use Rattle.std.specs.Prelude.{◌≡◌, count_by, ℕ, ◌+◌, Bool, cond, List, [], ◌∷◌, Option, Some, None, option_and_then}
use Rattle.std.specs.Prelude.{Result, Ok, Err}
use Rattle.isad_core.specs.Texts.{Bytes}
use Rattle.atom_csv.specs.declared.file.Row.{Row}
use Rattle.tree_core.specs.Forest.{Forest}
use Rattle.catalogue_core.specs.Units.{Unit}
use Rattle.catalogue_core.specs.CatalogueMerge.{Catalogue, New, cause_at, depth_under, new_unit, parent_number}
use Rattle.catalogue_core.specs.Descriptions.{with_unit, with_values}

-- the number of the unit with this number in the source, if it is catalogued
abbrev pub number_there : Catalogue → Bytes → Bytes → Option ℕ
number_there c source legacy = parent_number c.forest source c.next [] legacy

-- the depth of a row that names this parent; none if the parent is not catalogued
abbrev pub depth_there : Catalogue → Bytes → Option Bytes → Option ℕ
depth_there c source parent = depth_under c.forest source parent []

-- a new row with the next number, and the number of the unit right above it
abbrev pub new_at : Catalogue → Bytes → Row → New
new_at c source row = record { id = c.next; parent = option_and_then (number_there c source) row.parent; row = row }

-- its unit is added as the last below its parent, or as the last top
abbrev pub with_new : Bytes → Row → Catalogue → Catalogue
with_new source row c = with_unit (new_at c source row).parent (new_unit source (new_at c source row)) c

-- unless there is a cause against it
abbrev pub unless_cause : Row → Option ℕ → Catalogue → Result Catalogue (ℕ × ℕ)
unless_cause row None c = Ok c
unless_cause row (Some cause) c = Err (row.row, cause)

-- If the row's unit is catalogued, it gets the row's values. Otherwise a new unit is added, if its parent exists and it
-- does not lie too deep.
abbrev pub with_row_at : Option ℕ → Bytes → Row → Catalogue → Result Catalogue (ℕ × ℕ)
with_row_at (Some id) source row c = Ok (with_values id row.values c)
with_row_at None source row c = unless_cause row (cause_at (depth_there c source row.parent)) (with_new source row c)

-- the catalogue after one more row
abbrev pub with_row : Bytes → Row → Catalogue → Result Catalogue (ℕ × ℕ)
with_row source row c = with_row_at (number_there c source row.legacy) source row c

abbrev pub and_then : (Catalogue → Result Catalogue (ℕ × ℕ)) → Result Catalogue (ℕ × ℕ) → Result Catalogue (ℕ × ℕ)
and_then next (Ok c) = next c
and_then next (Err fault) = Err fault

-- the catalogue after these rows, one after another, up to the first that cannot be placed
abbrev pub with_rows : Bytes → List Row → Catalogue → Result Catalogue (ℕ × ℕ)
with_rows source [] c = Ok c
with_rows source (row ∷ rows) c = and_then (with_rows source rows) (with_row source row c)

-- ---- how many rows pass a test, each on the forest as it stands when its turn comes

abbrev pub if_ok : (Catalogue → ℕ) → Result Catalogue (ℕ × ℕ) → ℕ
if_ok count (Ok c) = count c
if_ok count (Err fault) = 0

abbrev pub count_rows : (Forest Unit → Bytes → Row → Bool) → Bytes → List Row → Catalogue → ℕ
count_rows test source [] c = 0
count_rows test source (row ∷ rows) c =
    cond (test c.forest source row) 1 0 + if_ok (count_rows test source rows) (with_row source row c)

-- if all rows can be placed, the count is that of the rows that pass the test on the forest before them
abbrev pub CountsAlike : Catalogue → Bytes → List Row → (Forest Unit → Bytes → Row → Bool) → Type 0
CountsAlike c source rows test =
    (after : Catalogue) → with_rows source rows c ≡ Ok after → count_rows test source rows c ≡ count_by (test c.forest source) rows
