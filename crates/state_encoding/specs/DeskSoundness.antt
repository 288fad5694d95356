-- What the causes 6 to 10 mean for the rows of a sound state, and for rows that have none of these causes.
use Rattle.std.specs.Prelude.{◌≡◌, ℕ, true, false}
use Rattle.std.specs.List.{AllByRecursion}
use Rattle.isad_core.specs.Days.{IsDayNumber}
use Rattle.isad_core.specs.Boxes.{distinct}
use Rattle.office_core.specs.State.{State}
use Rattle.catalogue_core.specs.UnitLookup.{has_unit}
use Rattle.office_tables.specs.Versions.{Version}
use Rattle.catalogue_core.specs.CatalogueRows.{ContainerRow}
use Rattle.state_encoding.specs.OfficeRows.{OfficeRows, tables, state_of}
use Rattle.office_core.specs.SoundDesk.{IsSoundDesk}
use Rattle.office_core.specs.Soundness.{IsSound, ArePermitsOfUnits}
use Rattle.desk_core.specs.DeskCauses.{MeetsDeskKeys, readers_are_bad, orders_are_bad, holdings_are_bad, runs_are_bad}
use Rattle.isad_core.specs.Words.{are_numbered_from}
use Rattle.state_encoding.specs.Causes.{around, is_unit_there, day_is_broken}

-- the rows have none of the causes 6 to 10
pub record HasNoDeskCause (t : OfficeRows) : Type 0 where
  pub readers : readers_are_bad (around t) t.desk ≡ false
  pub orders : orders_are_bad (around t) t.desk ≡ false
  pub holdings : holdings_are_bad (around t) t.desk ≡ false
  pub runs : runs_are_bad (around t) t.desk ≡ false
  pub day : day_is_broken t ≡ false

-- ---- the rows of a sound state

pub record PassesAtTheDesk (t : OfficeRows) : Type 0 where
  pub keys : MeetsDeskKeys t.desk
  pub causes : HasNoDeskCause t

abbrev pub SoundTablesPass : Version → State → Type 0
SoundTablesPass version s = IsSound s → PassesAtTheDesk (tables version s)

-- ---- rows that pass

-- what rows without the causes 1 to 5 have: the containers are numbered and distinct, and the units of the rows have
-- places
pub record HasGoodCatalogueRows (t : OfficeRows) : Type 0 where
  pub containers : are_numbered_from (λ (row : ContainerRow). row.id) 1 t.catalogue.containers ≡ true
  pub apart : distinct (state_of t).catalogue.containers ≡ (state_of t).catalogue.containers
  pub placed : (u : ℕ) → is_unit_there t u ≡ true → has_unit (state_of t).catalogue.forest u ≡ true

-- the days that the desk keeps are days of the calendar
pub record AreGoodDeskDays (s : State) : Type 0 where
  pub readers : AllByRecursion (λ reader. IsDayNumber reader.until) s.readers
  pub orders : AllByRecursion (λ order. IsDayNumber order.day) s.orders
  pub runs : AllByRecursion (λ run. IsDayNumber run.day) s.runs
  pub permits : (t : ℕ) → AllByRecursion (λ permit. IsDayNumber permit.until) (s.permits t)

-- the rows of the desk are those of the state that they describe
pub record SaysDeskAgain (version : Version) (t : OfficeRows) : Type 0 where
  pub readers : (tables version (state_of t)).desk.readers ≡ t.desk.readers
  pub seats : (tables version (state_of t)).desk.seats ≡ t.desk.seats
  pub orders : (tables version (state_of t)).desk.orders ≡ t.desk.orders
  pub holdings : (tables version (state_of t)).desk.holdings ≡ t.desk.holdings
  pub runs : (tables version (state_of t)).desk.runs ≡ t.desk.runs
  pub run_lines : (tables version (state_of t)).desk.run_lines ≡ t.desk.run_lines
  pub permits : (tables version (state_of t)).desk.permits ≡ t.desk.permits

-- the state that the rows describe has a sound desk, whose rows are exactly these
pub record RepresentsSoundDesk (version : Version) (t : OfficeRows) : Type 0 where
  pub desk : IsSoundDesk (state_of t)
  pub days : AreGoodDeskDays (state_of t)
  pub permits : ArePermitsOfUnits (state_of t)
  pub rows : SaysDeskAgain version t

abbrev pub PassingRowsAreSound : Version → OfficeRows → Type 0
PassingRowsAreSound version t = HasGoodCatalogueRows t → PassesAtTheDesk t → RepresentsSoundDesk version t
