-- The units that the rows of a file add, each with its parent, before any is entered.
use Rattle.std.specs.Prelude.{◌≡◌, ℕ, if◌then◌else◌, List, [], map, Option, Some, None, option_and_then}
use Rattle.isad_core.specs.Texts.{Bytes}
use Rattle.atom_csv.specs.declared.file.Row.{Row}
use Rattle.tree_core.specs.Forest.{Forest}
use Rattle.tree_core.specs.declared.arrivals.Arrival.{Arrival}
use Rattle.catalogue_core.specs.CatalogueMerge.{Catalogue, New, is_known, parent_number, numbered_from}
use Rattle.catalogue_core.specs.Units.{Unit}
use Rattle.csv_import.specs.KnownUnits.{KnowsUnits, TellsUnits, units_from}
use Rattle.csv_import.specs.RowEntry.{CanEnter}
use Rattle.csv_import.specs.RowPlan.{new_of, or_there}
use Rattle.csv_import.specs.Turns.{AreToCome}

-- the unit of a new row, with its parent
abbrev pub arrival_of : New → Arrival
arrival_of new = record { unit = new.id; parent = new.parent }

-- the units of these new rows, in file order, where n is the next number; `above` has the new rows above them in the
-- file, the nearest first
abbrev pub arrivals_from : Forest Unit → Bytes → ℕ → List Row → List Row → List Arrival
arrivals_from f source n above rows = map arrival_of (numbered_from f source n above rows)

-- the units that the rows of a file add
abbrev pub arrivals_of : Forest Unit → Bytes → ℕ → List Row → List Arrival
arrivals_of f source n rows = arrivals_from f source n [] (new_of f source rows)

-- the unit that a row adds, unless its unit is catalogued
abbrev pub arrival_at : Forest Unit → Bytes → ℕ → List Row → Row → Option Arrival
arrival_at f source n above row =
    if is_known f source row then None
    else Some (record { unit = n; parent = option_and_then (parent_number f source n above) row.parent })

-- `numbers` has the number that each of the new rows above got; any other unit is in the catalogue
abbrev pub KnowsNumbers : Forest Unit → Bytes → ℕ → List Row → (Bytes → Option ℕ) → Type 0
KnowsNumbers f source n above numbers =
    (legacy : Bytes) → parent_number f source n above legacy ≡ or_there (numbers legacy) (parent_number f source n [] legacy)

-- the rows can be entered; what the catalogue has of their units and parents is known, and so is the next number
pub record IsReady (source : Bytes) (rows : List Row) (numbers : Bytes → Option ℕ) (next : ℕ) (c : Catalogue) : Type 0 where
  pub can : CanEnter source rows c
  pub known : KnowsUnits c source rows numbers
  pub number : next ≡ c.next

-- the rows are still to be entered; these are their units, and those that they add to the catalogued ones
pub record BringUnits (source : Bytes) (rows : List Row) (numbers : Bytes → Option ℕ) (next : ℕ) (units : List ℕ) (arrivals : List Arrival) (c : Catalogue) : Type 0 where
  pub come : AreToCome source rows next c
  pub known : TellsUnits c source rows numbers
  pub each : units ≡ units_from numbers next rows
  pub new : arrivals ≡ arrivals_of c.forest source next rows
