-- A new office in tables, how it is made, and why none is made.
use Rattle.std.specs.Prelude.{◌≡◌, ℕ, [], Result, IfErr, IsTrue, OnErr, OnOk}
use Rattle.sqlite_trees.specs.declared.store.Store as trees
use Rattle.sqlite.specs.Effect.{Database}
use Rattle.sqlite.specs.Held.{Held, state}
use Rattle.sqlite.specs.State.{State, HasCleanDisk, Survives}
use Rattle.sqlite.specs.Tree.{Trees}
use Rattle.tree_core.specs.Forest.{Forest, Empty}
use Rattle.office_tables.specs.Versions.{Version}
use Rattle.catalogue_statements.specs.Representation.{Represents}
use Rattle.catalogue_statements.specs.declared.office.OfficeRow.{OfficeRow}
use Rattle.desk_core.specs.DeskRows.{Desk}
use Rattle.desk_store.specs.Representation.{RepresentsDesk}
use Rattle.office_tables.specs.Faults.{FaultsHaveCause, HasOuterCause}
use Rattle.office_tables.specs.Schema.{no_schema, schema}
use Rattle.office_tables.specs.Step.{Continues, IsAborted}
use Rattle.office_tables.specs.declared.fault.StoreFault.{StoreFault}
use Rattle.office_tables.specs.declared.fault.StoreFault.TheVariants as store
use Rattle.office.specs.IdleOffice.{IsAsBefore, IsOffice}
use Rattle.office.specs.declared.faults.OpenFault.{OpenFault}
use Rattle.office.specs.declared.faults.OpenFault.TheVariants as fault

-- nobody has a ticket, and nothing was ordered
abbrev pub new_desk : Desk
new_desk = record { readers = []; seats = []; orders = []; holdings = []; runs = []; run_lines = []; permits = [] }

-- the tables have the office's own row, and nothing else
pub record RepresentsNew (places : Trees → Forest ℕ → Type 0) (version : Version) (db : Database) (row : OfficeRow) : Type 0 where
  pub catalogue : Represents places version db row (record { forest = Empty; containers = []; next = row.next_unit })
  pub desk : RepresentsDesk db.trees new_desk

abbrev pub open_fault_of : StoreFault → OpenFault
open_fault_of store.Memory = fault.Memory
open_fault_of store.Disk = fault.Disk
open_fault_of store.Schema = fault.Schema

-- memory may run out at any time, the disk is blamed for its own failures only, and existing tables are never blamed
abbrev pub HasOpenCause : State → State → OpenFault → Type 0
HasOpenCause old new fault.Memory = HasOuterCause old new store.Memory
HasOpenCause old new fault.Disk = HasOuterCause old new store.Disk
HasOpenCause old new fault.Schema = HasOuterCause old new store.Schema
HasOpenCause old new fault.NoOffice = ⊥
HasOpenCause old new fault.OldVersion = ⊥
HasOpenCause old new fault.NewVersion = ⊥
HasOpenCause old new (fault.Unsound cause) = ⊥

-- ---- the calls that make it

-- while the disk is clean, there are no tables yet, and a transaction is open
abbrev pub AwaitsTables : State → Type 0
AwaitsTables s = HasCleanDisk s → (s.now.schema ≡ no_schema) × IsTrue s.in_transaction

module _ {S X : Type 0} (places : Trees → Forest ℕ → Type 0) (version : Version) (g : trees.Ghosts S) (before after : Held S) (row : OfficeRow) (r : Result X StoreFault) where
  abbrev old : State
  old = state g before

  abbrev new : State
  new = state g after

  -- Inside a transaction, the call makes the tables of the new office.
  pub record MakesTables : Type 0 where
    pub represents : HasCleanDisk new → OnOk r (RepresentsNew places version new.now row)
    pub goes : OnOk r (Continues old new)
    pub aborts : OnErr r (IsAborted old new)
    pub faults : FaultsHaveCause old new r

  -- The call makes the new office in one transaction. If it succeeds, the connection is open. If it fails, nothing is
  -- changed. A crash finds what was there before, or the complete office.
  pub record Founds : Type 0 where
    pub represents : HasCleanDisk new → OnOk r (IsTrue new.is_open → RepresentsNew places version new.now row)
    pub kept : HasCleanDisk new → OnOk r (IsTrue new.is_open)
    pub office : OnOk r (IsOffice version new)
    pub back : HasCleanDisk new → OnErr r (IsAsBefore old new)
    pub faults : HasCleanDisk new → IfErr r (HasOuterCause old new)
    pub crash : Survives old new (λ db. RepresentsNew places version (record { schema = schema version; trees = db }) row)
