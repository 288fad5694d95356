-- Why an office was busy.
use Rattle.std.specs.Prelude.{◌≡◌}
use Rattle.sqlite.specs.State as store
use Rattle.office.specs.OfficeCall.{HasBusyCause}
use Rattle.office_core.specs.declared.machine.Busy.{Busy}
use Rattle.program.specs.Faults.{fault_of_busy}
use Rattle.program.specs.declared.faults.Fault.{Fault}

-- an office was busy between these states of its store, and this is the fault
abbrev pub IsBusyFor : store.State → store.State → Fault → Type 0
IsBusyFor old new fault = (why : Busy) × (fault ≡ fault_of_busy why) × HasBusyCause old new why
