-- An import before its rows are entered, and what it becomes.
use Rattle.std.specs.Prelude.{◌≡◌, ℕ, List, Result, IfOk}
use Rattle.std.specs.BTreeMap.{get_by_text}
use Rattle.sqlite.specs.Effect.{Database}
use Rattle.sqlite.specs.Held.{Held, state}
use Rattle.sqlite.specs.State.{HasCleanDisk}
use Rattle.sqlite_trees.specs.declared.store.Store as store
use Rattle.atom_csv.specs.declared.file.Row.{Row}
use Rattle.tree_core.specs.declared.arrivals.Arrival.{Arrival}
use Rattle.catalogue_core.specs.CatalogueMerge.{Catalogue}
use Rattle.catalogue_statements.specs.declared.office.OfficeRow.{OfficeRow}
use Rattle.office_tables.specs.declared.fault.StoreFault.{StoreFault}
use Rattle.csv_import.specs.Arrivals.{BringUnits, IsReady}
use Rattle.csv_import.specs.KnownUnits.{TellsUnits, units_from}
use Rattle.csv_import.specs.RowEntry.{counts_of, catalogue_after}
use Rattle.csv_import.specs.Turns.{AreToCome, IsTurnOfUnit}
use Rattle.csv_import.specs.declared.pending_import.Import.{Import}
use Rattle.csv_import.specs.declared.row_entry.Counts.{Counts}

-- the catalogue with the rows, or as it was if one of them cannot be placed
abbrev pub imported : Import → Catalogue → Catalogue
imported i c = catalogue_after i.source.now i.rows.now c

-- how many of the rows change a unit, add one, and leave one as it was
abbrev pub counted_in : Catalogue → Import → Counts
counted_in c i = counts_of c.forest i.source.now i.rows.now

-- the rows can be entered, and what is known of their units and of the next number is right
abbrev pub IsPending : Import → Catalogue → Type 0
IsPending i = IsReady i.source.now i.rows.now (get_by_text i.catalogued.now) i.next

-- the same, and these are the units of the rows, and those that the rows add
abbrev pub Brings : Import → List ℕ → List Arrival → Catalogue → Type 0
Brings i = BringUnits i.source.now i.rows.now (get_by_text i.catalogued.now) i.next

-- the rows can be entered one after another, what is known of their units is right, and these are their units
abbrev pub AreNext : Import → List ℕ → Catalogue → Type 0
AreNext i units c = AreToCome i.source.now i.rows.now i.next c
    × TellsUnits c i.source.now i.rows.now (get_by_text i.catalogued.now)
    × (units ≡ units_from (get_by_text i.catalogued.now) i.next i.rows.now)

-- it is this row's turn, whose unit has this number
abbrev pub IsTurnOf : Import → Row → ℕ → Catalogue → Type 0
IsTurnOf i row unit = IsTurnOfUnit i.source.now row i.next unit

-- over tables of a catalogue that is as the call `needs`, the result of a call that succeeds is as `answer` says
abbrev pub ReadsCatalogue : {S X : Type 0} → store.Ghosts S → (Database → OfficeRow → Catalogue → Type 0) → (Catalogue → Type 0) → Held S → Held S → Result X StoreFault → (Catalogue → X → Type 0) → Type 0
ReadsCatalogue g represents needs before after r answer = HasCleanDisk (state g after) → (o : OfficeRow) (c : Catalogue)
    → represents (state g before).now o c → needs c → IfOk r (answer c)
