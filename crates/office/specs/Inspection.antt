-- A look at tables of any origin, before an office is opened over them.
use Rattle.std.specs.Prelude.{◌≡◌, false, Result, IfErr, IfOk, OnErr, OnOk}
use Rattle.sqlite_trees.specs.declared.store.Store as trees
use Rattle.sqlite.specs.Held.{Held, state}
use Rattle.sqlite.specs.State.{State, HasCleanDisk, Shows, Survives}
use Rattle.office_tables.specs.Versions.{Version}
use Rattle.adoption.specs.OrderedTables.{StandInOrder}
use Rattle.adoption.specs.Verdicts.{IsVerdict}
use Rattle.adoption.specs.declared.verdict.Verdict.{Verdict}
use Rattle.office_tables.specs.Faults.{BlamesDisk, HasOuterCause}
use Rattle.office_tables.specs.Transactions.{IsStopped}
use Rattle.office_tables.specs.declared.fault.StoreFault.{StoreFault}
use Rattle.office.specs.IdleOffice.{IsAsBefore}

module _ {S : Type 0} (g : trees.Ghosts S) (before after : Held S) where
  abbrev old : State
  old = state g before

  abbrev new : State
  new = state g after

  -- The call judges what the tables are, in a transaction that is rolled back, and leaves them as they were. It blames
  -- the disk for its own failures only; if the rows of the tables stand in order, every fault has a cause.
  pub record Inspects (version : Version) (r : Result Verdict StoreFault) : Type 0 where
    pub answers : HasCleanDisk new → IfOk r (IsVerdict version old.now)
    pub back : HasCleanDisk new → IsAsBefore old new
    pub disk : HasCleanDisk new → IfErr r (BlamesDisk old new)
    pub faults : HasCleanDisk new → StandInOrder old.now → IfErr r (HasOuterCause old new)
    pub crash : Survives old new (λ _. ⊥)

  -- The call runs no statement. If it succeeds, the connection is open and shows what it showed.
  pub record ConfirmsOpen {X : Type 0} (r : Result X StoreFault) : Type 0 where
    pub still_open : HasCleanDisk new → OnOk r (Shows old new old.now old.committed old.in_transaction)
    pub stopped : HasCleanDisk new → OnErr r (IsStopped old new)
    pub faults : HasCleanDisk new → old.in_transaction ≡ false → IfErr r (HasOuterCause old new)
    pub crash : Survives old new (λ _. ⊥)
