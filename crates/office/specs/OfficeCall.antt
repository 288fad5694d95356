-- One call on an office in tables: what it does, and why it is busy.
use Rattle.std.specs.Prelude.{◌≡◌, ℕ}
use Rattle.sqlite.specs.State as store
use Rattle.sqlite.specs.Tree.{Trees}
use Rattle.tree_core.specs.Forest.{Forest}
use Rattle.office_tables.specs.Versions.{Version}
use Rattle.office_core.specs.Rules.{Reply, step}
use Rattle.office_core.specs.SoundOffice.{IsSoundOffice}
use Rattle.office_core.specs.State.{State}
use Rattle.office_core.specs.declared.command.Command.{Command}
use Rattle.office_core.specs.declared.machine.Busy.{Busy}
use Rattle.office_core.specs.declared.machine.Busy.TheVariants as busy
use Rattle.office_tables.specs.Faults.{HasOuterCause}
use Rattle.office_tables.specs.Schema.{schema}
use Rattle.office_tables.specs.declared.fault.StoreFault.{StoreFault}
use Rattle.office_tables.specs.declared.fault.StoreFault.TheVariants as fault
use Rattle.office.specs.IdleOffice.{IsIn}
use Rattle.refinement.specs.Representation.{RepresentsState}

-- the reply is the step's, and the office is in the step's state
abbrev pub TakesStep : (Trees → Forest ℕ → Type 0) → Version → State → Command → Reply → store.State → Type 0
TakesStep places version s asked reply new = (reply ≡ (step s asked).1) × IsIn places version (step s asked).0 new

-- what a crash during the command may find, in addition to what it might have found before: the state of the step
abbrev pub MayFind : (Trees → Forest ℕ → Type 0) → Version → Command → store.State → Trees → Type 0
MayFind places version asked old db =
    (s : State) → IsSoundOffice s → IsIn places version s old
    → RepresentsState places version (record { schema = schema version; trees = db }) (step s asked).0

abbrev pub busy_for : StoreFault → Busy
busy_for fault.Memory = busy.Memory
busy_for fault.Disk = busy.Disk
busy_for fault.Schema = busy.Schema

-- Memory may run out at any time. The disk failed in the call, or an earlier failure had shut the connection. The
-- tables are never blamed.
abbrev pub HasBusyCause : store.State → store.State → Busy → Type 0
HasBusyCause old new busy.Memory = HasOuterCause old new fault.Memory
HasBusyCause old new busy.Disk = HasOuterCause old new fault.Disk
HasBusyCause old new busy.Schema = HasOuterCause old new fault.Schema
