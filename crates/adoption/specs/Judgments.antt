-- What a call gives that judges tables of any origin.
use Rattle.std.specs.Prelude.{◌≡◌, ⊤, Some, None, Result, IfErr, IfOk, IsTrue}
use Rattle.sqlite_trees.specs.declared.store.Store as store
use Rattle.sqlite.specs.Effect.{Database, IsDatabase}
use Rattle.sqlite.specs.Held.{Held, state}
use Rattle.sqlite.specs.State.{State, HasCleanDisk}
use Rattle.office_tables.specs.Versions.{Version}
use Rattle.office_tables.specs.Faults.{BlamesDisk, FaultsHaveCause}
use Rattle.office_tables.specs.Schema.{schema}
use Rattle.office_tables.specs.declared.fault.StoreFault.{StoreFault}
use Rattle.adoption.specs.DeskCheck.{catalogue_cell_cause}
use Rattle.adoption.specs.OrderedTables.{StandInOrder}
use Rattle.adoption.specs.OwnRows.{own_row_of}
use Rattle.adoption.specs.ReadOnlyCalls.{Looks}
use Rattle.adoption.specs.declared.own_row.OwnRow.{OwnRow}

infix 1 ◌tells◌ ◌within◌tells◌
-- The call changes nothing, and answers this of the tables. It blames the disk for its own failures only; if the tables
-- are within the bounds, every fault has a cause.
pub record Judges {S X : Type 0} (g : store.Ghosts S) (before after : Held S) (r : Result X StoreFault) (bounds : State → Type 0) (answer : State → X → Type 0) : Type 0 where
  pub reads : Looks (state g before) (state g after) r
  pub answers : HasCleanDisk (state g after) → IfOk r (answer (state g before))
  pub disk : HasCleanDisk (state g after) → IfErr r (BlamesDisk (state g before) (state g after))
  pub faults : bounds (state g before) → FaultsHaveCause (state g before) (state g after) r

-- how a contract names its parts: what it tells, and the bounds in which each of its faults has a cause, if there are any
abbrev pub ◌tells◌ : {X : Type 0} → ((bounds : State → Type 0) → (State → X → Type 0) → Type 0) → (State → X → Type 0) → Type 0
call tells answer = call (λ _. ⊤) answer

abbrev pub ◌within◌tells◌ : {X : Type 0} → ((bounds : State → Type 0) → (State → X → Type 0) → Type 0) → (State → Type 0) → (State → X → Type 0) → Type 0
call within bounds tells answer = call bounds answer

-- while the disk is clean, a transaction is open, whatever the tables are
abbrev pub HasTransaction : State → Type 0
HasTransaction s = HasCleanDisk s → IsTrue s.in_transaction

-- ---- what is known of tables before a part of them is judged

-- they are of the version and keep its rules, their rows stand in order, this is the office's own row, and none of the
-- causes 1 to 5 holds
pub record HasGoodCatalogueTables (version : Version) (own : OwnRow) (db : Database) : Type 0 where
  pub schema_is : db.schema ≡ schema version
  pub live : IsDatabase db
  pub ordered : StandInOrder db
  pub own_row : own_row_of version db.trees ≡ Some own
  pub catalogue : catalogue_cell_cause version db.trees ≡ None
