-- The fault of a call that reads in several steps blames the disk as the fault of its step does.
use Rattle.sqlite.specs.State.{State}
use Rattle.office_tables.specs.Faults.{BlamesDisk, HasCause}
use Rattle.office_tables.specs.declared.fault.StoreFault.TheVariants as fault
use Rattle.access.proofs.Common.{StoreFault}

-- a fault that has its cause
pub blames_caused : (a b : State) (e : StoreFault) → HasCause a b e → BlamesDisk a b e
blames_caused a b fault.Memory why = tt
blames_caused a b fault.Disk why = why
blames_caused a b fault.Schema why = tt
