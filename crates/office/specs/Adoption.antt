-- An office over existing tables: why it is opened, or not.
use Rattle.std.specs.Prelude.{◌≡◌, IsTrue, Option, Some, None}
use Rattle.sqlite.specs.State as store
use Rattle.sqlite.specs.Tree.{Trees}
use Rattle.office_tables.specs.Versions.{Version}
use Rattle.adoption.specs.OrderedTables.{StandInOrder}
use Rattle.adoption.specs.Verdicts.{IsVerdict}
use Rattle.adoption.specs.declared.verdict.Verdict.{Verdict}
use Rattle.adoption.specs.declared.verdict.Verdict.TheVariants as verdict
use Rattle.office_core.specs.State.{State}
use Rattle.state_encoding.specs.CellCauses.{rows_in}
use Rattle.state_encoding.specs.OfficeRows.{state_of}
use Rattle.office_tables.specs.Faults.{HasOuterCause}
use Rattle.office_tables.specs.declared.fault.StoreFault.TheVariants as cause
use Rattle.office.specs.declared.faults.OpenFault.{OpenFault}
use Rattle.office.specs.declared.faults.OpenFault.TheVariants as fault

-- the fault for tables with this verdict, or none if they are a sound office's
abbrev pub fault_for_verdict : Verdict → Option OpenFault
fault_for_verdict verdict.Sound = None
fault_for_verdict verdict.NoOffice = Some fault.NoOffice
fault_for_verdict verdict.OldVersion = Some fault.OldVersion
fault_for_verdict verdict.NewVersion = Some fault.NewVersion
fault_for_verdict verdict.OtherTables = Some fault.Schema
fault_for_verdict (verdict.Unsound n) = Some (fault.Unsound n)

-- The tables are as the fault says; or there was not enough memory, which may happen at any time; or the disk failed,
-- or was shut before. If the rows of the tables do not stand in order, the cause of `Schema` is left open.
abbrev pub HasAdoptCause : Version → store.State → store.State → OpenFault → Type 0
HasAdoptCause version old new fault.Memory = HasOuterCause old new cause.Memory
HasAdoptCause version old new fault.Disk = HasOuterCause old new cause.Disk
HasAdoptCause version old new fault.Schema = StandInOrder old.now → IsVerdict version old.now verdict.OtherTables
HasAdoptCause version old new fault.NoOffice = IsVerdict version old.now verdict.NoOffice
HasAdoptCause version old new fault.OldVersion = IsVerdict version old.now verdict.OldVersion
HasAdoptCause version old new fault.NewVersion = IsVerdict version old.now verdict.NewVersion
HasAdoptCause version old new (fault.Unsound n) = IsVerdict version old.now (verdict.Unsound n)

-- the verdict on the tables is `Sound`, and while the connection is open, they are unchanged
pub record IsAdopted (version : Version) (old new : store.State) : Type 0 where
  pub sound : IsVerdict version old.now verdict.Sound
  pub same : IsTrue new.is_open → new.now ≡ old.now

-- the state that the rows of tables describe
abbrev pub state_in : Version → Trees → State
state_in version db = state_of (rows_in version db)
