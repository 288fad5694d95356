-- How a transaction of an office begins and ends.
use Rattle.std.specs.Prelude.{◌≡◌, ◌⊎◌, false, Result, Ok, Err, IfErr, IfOk, IsErr, IsOk, IsTrue, OnErr, OnOk}
use Rattle.sqlite_trees.specs.declared.store.Store as trees
use Rattle.sqlite.specs.Held.{Held, state}
use Rattle.sqlite.specs.State.{State, HasCleanDisk, Survives}
use Rattle.office_core.specs.declared.machine.Reply.{Reply}
use Rattle.office_tables.specs.Faults.{HasOuterCause, IsUnlimited}
use Rattle.office_tables.specs.Transactions.{Committed, IsEnded}
use Rattle.office_tables.specs.declared.fault.StoreFault.{StoreFault}

-- while the disk is clean, no transaction is open; and no limit is set on the steps of a statement
pub record IsBetweenTransactions (at : State) : Type 0 where
  pub outside : HasCleanDisk at → at.in_transaction ≡ false
  pub unlimited : IsUnlimited at

-- a call on a connection, or on the tables that have it
module _ {S : Type 0} (g : trees.Ghosts S) (before after : Held S) where
  abbrev old : State
  old = state g before

  abbrev new : State
  new = state g after

  -- It commits what was done. If that fails, the transaction has ended without a commit. A crash finds what was
  -- committed before, or all of it.
  pub record Commits {X : Type 0} (r : Result X StoreFault) : Type 0 where
    pub committed : HasCleanDisk new → OnOk r (Committed old new)
    pub ended : HasCleanDisk new → OnErr r (IsEnded old new)
    pub faults : HasCleanDisk new → IsTrue old.in_transaction → IfErr r (HasOuterCause old new)
    pub crash : Survives old new (λ db. db ≡ old.now.trees)

  -- A command was carried out, with this outcome. The call commits what an accepted one did, and rolls back after a
  -- refusal or a fault. If it succeeds, the reply is that of the outcome. If it fails, its fault is the outcome's, or
  -- the commit failed.
  pub record Settles (outcome r : Result Reply StoreFault) : Type 0 where
    pub same : IfOk r (λ reply. outcome ≡ Ok reply)
    pub committed : HasCleanDisk new → IfOk r (λ reply. IsOk reply.done → Committed old new)
    pub refused : HasCleanDisk new → IfOk r (λ reply. IsErr reply.done → IsEnded old new)
    pub failed : HasCleanDisk new → OnErr r (IsEnded old new)
    pub faults : HasCleanDisk new → IfErr r (λ e. (outcome ≡ Err e) ⊎ (IsOk outcome × (IsTrue old.in_transaction → HasOuterCause old new e)))
    pub crash : Survives old new (λ db. (reply : Reply) × (outcome ≡ Ok reply) × IsOk reply.done × (db ≡ old.now.trees))
