-- One of our statements that change rows: what it leaves.
use Rattle.std.specs.Prelude.{◌≡◌, ◌⊎◌, ℕ, Bool, true, false, List, Result, Ok, Err, IfErr, OnOk, OnErr, IsTrue}
use Rattle.sqlite.specs.Effect.{Database}
use Rattle.sqlite.specs.Order.{Row}
use Rattle.sqlite.specs.Command.{Command}
use Rattle.sqlite.specs.Command.TheVariants.{Insert, Update, Delete}
use Rattle.sqlite.specs.State.{State, HasCleanDisk, Executes, Survives}
use Rattle.sqlite.specs.declared.error.Error.{Error}
use Rattle.office_tables.specs.Faults.{fault_of}
use Rattle.office_tables.specs.StatementMeaning.{Means}
use Rattle.office_tables.specs.Schema.{Version, schema}
use Rattle.office_tables.specs.Step.{Goes, IsAborted, Spares, IsSame}
use Rattle.office_tables.specs.declared.fault.StoreFault.{StoreFault}
use Rattle.office_tables.specs.declared.fault.StoreFault.TheVariants as fault

abbrev pub changes_rows : Command → Bool
changes_rows (Insert at from) = true
changes_rows (Update at q) = true
changes_rows (Delete at q) = true
changes_rows _ = false

-- The text is a statement that changes rows; while the disk is clean, the tables are ours and a transaction is open.
pub record IsOurs (sql : List ℕ) (s : State) : Type 0 where
  pub count : ℕ
  pub command : Command
  pub changes : changes_rows command ≡ true
  pub here : HasCleanDisk s → (v : Version) × (s.now.schema ≡ schema v) × IsTrue s.in_transaction × Means v sql count command

-- The text is a statement that changes rows. With the tables of this version it means this command.
pub record IsChange (version : Version) (sql : List ℕ) : Type 0 where
  pub count : ℕ
  pub command : Command
  pub changes : changes_rows command ≡ true
  pub means : Means version sql count command

-- What a call that changes rows leaves: the transaction goes on; or the call fails, the disk is blamed for its own
-- failures only, and the rows are as `Left` says or the transaction was rolled back.
pub record LeavesOr {X : Type 0} (Left : Database → Database → Type 0) (old new : State) (r : Result X StoreFault) : Type 0 where
  pub crash : Survives old new (λ _. ⊥)
  pub goes : OnOk r (Goes old new)
  pub aborts : OnErr r (IsAborted old new)
  pub spares : HasCleanDisk new → IfErr r (Spares Left old new)

-- the same for one statement: if it fails and the transaction goes on, every row is as it was
abbrev pub Leaves : {X : Type 0} → State → State → Result X StoreFault → Type 0
Leaves old new r = LeavesOr IsSame old new r

-- the statement was carried out, or refused for a reason that the fault gives
abbrev pub Ran : List ℕ → Row → State → State → Result Unit StoreFault → Type 0
Ran sql params old new (Ok done) = (count : ℕ) × Executes sql params old new (Ok count)
Ran sql params old new (Err fault) = (e : Error) × (fault ≡ fault_of e) × Executes sql params old new (Err e)

-- no transaction is open, so nothing ran
abbrev pub IsOutside : {X : Type 0} → State → Result X StoreFault → Type 0
IsOutside old r = (old.in_transaction ≡ false) × (r ≡ Err fault.Schema)

-- the statement was carried out over the tables of this version, or refused for a reason that the fault gives; or no
-- transaction is open
abbrev pub RanInside : Version → List ℕ → Row → State → State → Result Unit StoreFault → Type 0
RanInside version sql params old new r = IsOutside old r ⊎ ((old.now.schema ≡ schema version) × Ran sql params old new r)
