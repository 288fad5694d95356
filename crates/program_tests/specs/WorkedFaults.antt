-- Exit statuses, messages and lines of refusals, written by hand.
use Rattle.std.specs.Prelude.{◌≡◌, List, [], ◌∷◌, map, codes}
use Rattle.isad_core.specs.Texts.{Bytes}
use Rattle.desk_core.specs.declared.refusal.Refusal.TheVariants.{BadFile, NotSeated, WithReader}
use Rattle.office_core.specs.declared.machine.Busy.TheVariants as busy
use Rattle.office.specs.declared.faults.OpenFault.TheVariants as opening
use Rattle.program.specs.Faults.{fault_of_busy, fault_of_file, fault_of_opening, fault_of_reading, fault_of_words}
use Rattle.program.specs.Faults.{line_of_refusal, message_of, exit_status}
use Rattle.program.specs.declared.faults.Break.TheVariants as break
use Rattle.program.specs.declared.faults.Fault.{Fault}
use Rattle.program.specs.declared.faults.Fault.TheVariants.{Refused, NotSound, Words, Date, Settings, File, Store, Net}
use Rattle.program.specs.declared.faults.Fault.TheVariants.{Session, Memory}
use Rattle.program.specs.declared.files.FileFault.TheVariants as file
use Rattle.program.specs.declared.streams.ReadFault.TheVariants as reads
use Rattle.program.specs.declared.tasks.TaskFault.TheVariants as tasks

-- a fault of each kind
abbrev pub each_fault : List Fault
each_fault = Refused (codes "a line\n") ∷ NotSound ∷ Words (codes "a usage\n") ∷ Date ∷ Settings ∷ File ∷ Store ∷ Net
    ∷ Session break.Cut ∷ Session break.Read ∷ Session break.Write ∷ Session break.Bound ∷ Memory ∷ []

abbrev pub messages : List Bytes
messages = codes "a line\n" ∷ [] ∷ codes "a usage\n" ∷ codes "bad date\n" ∷ codes "bad settings\n" ∷ codes "file fault\n"
    ∷ codes "store fault\n" ∷ codes "net fault\n" ∷ codes "cut\n" ∷ codes "read fault\n" ∷ codes "write fault\n"
    ∷ codes "bound\n" ∷ codes "no memory\n" ∷ []

pub record Faulty : Type 0 where
  pub statuses : map exit_status each_fault ≡ 1 ∷ 1 ∷ 2 ∷ 2 ∷ 2 ∷ 3 ∷ 3 ∷ 3 ∷ 3 ∷ 3 ∷ 3 ∷ 3 ∷ 3 ∷ []
  pub texts : map message_of each_fault ≡ messages
  pub plain_line : line_of_refusal NotSeated ≡ codes "refused 10 NotSeated\n"
  pub file_line : line_of_refusal (BadFile 3 6) ≡ codes "refused 22 BadFile row 3 cause 6\n"
  pub container_line : line_of_refusal (WithReader 12) ≡ codes "refused 21 WithReader container 12\n"
  pub words : map fault_of_words (tasks.Memory ∷ tasks.Words (codes "a") ∷ tasks.Date ∷ tasks.Settings ∷ [])
      ≡ Memory ∷ Words (codes "a") ∷ Date ∷ Settings ∷ []
  pub openings : map fault_of_opening (opening.Memory ∷ opening.Disk ∷ opening.OldVersion ∷ []) ≡ Memory ∷ Store ∷ Store ∷ []
  pub files : map fault_of_file (file.Memory ∷ file.Absent ∷ file.Unopened ∷ []) ≡ Memory ∷ File ∷ Store ∷ []
  pub busy_office : map fault_of_busy (busy.Memory ∷ busy.Disk ∷ busy.Schema ∷ []) ≡ Memory ∷ Store ∷ Store ∷ []
  pub input : map fault_of_reading (reads.Memory ∷ reads.Failed ∷ []) ≡ Memory ∷ File ∷ []
