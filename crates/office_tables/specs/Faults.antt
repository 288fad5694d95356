-- Why a call on the tables fails.
use Rattle.std.specs.Prelude.{◌≡◌, ◌⊎◌, false, ⊤, None, Result, IfErr}
use Rattle.sqlite_disk.specs.Disk.{MoreFaults}
use Rattle.sqlite.specs.State.{State, HasCleanDisk}
use Rattle.sqlite.specs.declared.error.Error.{Error}
use Rattle.sqlite.specs.declared.error.Error.TheVariants.{SqliteFailure}
use Rattle.sqlite.specs.declared.error.ErrorCode.TheVariants as code
use Rattle.office_tables.specs.declared.fault.StoreFault.{StoreFault}
use Rattle.office_tables.specs.declared.fault.StoreFault.TheVariants as fault

-- Growth was refused: of memory, or of the store, whose rows and row numbers are limited. Or the disk failed, or an
-- earlier failure had shut it. Otherwise the statement does not fit these tables.
abbrev pub fault_of : Error → StoreFault
fault_of (SqliteFailure code.OutOfMemory) = fault.Memory
fault_of (SqliteFailure code.TooBig) = fault.Memory
fault_of (SqliteFailure code.NoRowid) = fault.Memory
fault_of (SqliteFailure code.SystemIoFailure) = fault.Disk
fault_of (SqliteFailure code.DatabaseCorrupt) = fault.Disk
fault_of (SqliteFailure code.DiskFull) = fault.Disk
fault_of (SqliteFailure code.Closed) = fault.Disk
fault_of _ = fault.Schema

-- the connection sets no limit on the steps of a statement
abbrev pub IsUnlimited : State → Type 0
IsUnlimited s = s.step_limit ≡ None

-- The cause of a fault of a statement: the disk failed in the call, or an earlier failure had shut it; or no transaction is
-- open, and so nothing ran. Memory may run out at any time.
abbrev pub HasCause : State → State → StoreFault → Type 0
HasCause old new fault.Memory = ⊤
HasCause old new fault.Disk = MoreFaults old.faults new.faults ⊎ (old.is_open ≡ false)
HasCause old new fault.Schema = old.in_transaction ≡ false

-- The cause of a fault of a whole transaction: the same, but the tables are never blamed.
abbrev pub HasOuterCause : State → State → StoreFault → Type 0
HasOuterCause old new fault.Memory = ⊤
HasOuterCause old new fault.Disk = HasCause old new fault.Disk
HasOuterCause old new fault.Schema = ⊥

-- every fault has its cause, if the disk is clean and no limit is set
abbrev pub FaultsHaveCause : {X : Type 0} → State → State → Result X StoreFault → Type 0
FaultsHaveCause old new r = HasCleanDisk new → IsUnlimited old → IfErr r (HasCause old new)

-- the disk is blamed for its own failures only
abbrev pub BlamesDisk : State → State → StoreFault → Type 0
BlamesDisk old new fault.Memory = ⊤
BlamesDisk old new fault.Disk = HasCause old new fault.Disk
BlamesDisk old new fault.Schema = ⊤
