-- What a fault leads to: the exit status, and the text on standard error.
use Rattle.std.specs.Prelude.{◌≡◌, ◌++◌, List, [], ℕ, codes}
use Rattle.std.specs.Fmt.{decimal}
use Rattle.atom_csv.specs.declared.file.FileFault as csv
use Rattle.atom_csv.specs.declared.file.FileFault.TheVariants as files
use Rattle.desk_core.specs.Refusals.{refusal_name, refusal_number}
use Rattle.desk_core.specs.declared.refusal.Refusal.{Refusal}
use Rattle.desk_core.specs.declared.refusal.Refusal.TheVariants.{BadFile, WithReader}
use Rattle.office_core.specs.declared.machine.Busy.{Busy}
use Rattle.office_core.specs.declared.machine.Busy.TheVariants as busy
use Rattle.program.specs.declared.files.FileFault.{FileFault}
use Rattle.program.specs.declared.files.FileFault.TheVariants as file
use Rattle.office.specs.declared.faults.OpenFault.{OpenFault}
use Rattle.office.specs.declared.faults.OpenFault.TheVariants as opening
use Rattle.program.specs.declared.streams.ReadFault.{ReadFault}
use Rattle.program.specs.declared.streams.ReadFault.TheVariants as reads
use Rattle.program.specs.declared.tasks.TaskFault.{TaskFault}
use Rattle.program.specs.declared.tasks.TaskFault.TheVariants as tasks
use Rattle.program.specs.declared.faults.Fault.{Fault}
use Rattle.program.specs.declared.faults.Fault.TheVariants.{Refused, NotSound, Words, Date, Settings, File, Store}
use Rattle.program.specs.declared.faults.Fault.TheVariants.{Net, Session, Memory}
use Rattle.program.specs.declared.faults.Break.{Break}
use Rattle.program.specs.declared.faults.Break.TheVariants as break

-- where a refusal is: the row and cause of a file, or the container
abbrev pub place_of_refusal : Refusal → List ℕ
place_of_refusal (BadFile row cause) = codes " row " ++ decimal row ++ codes " cause " ++ decimal cause
place_of_refusal (WithReader container) = codes " container " ++ decimal container
place_of_refusal _ = []

-- the line of a refusal: its number and name, and where it is
abbrev pub line_of_refusal : Refusal → List ℕ
line_of_refusal why = codes "refused " ++ decimal (refusal_number why) ++ codes " " ++ refusal_name why ++ place_of_refusal why ++ codes "\n"

-- how a session broke off
abbrev pub break_line : Break → List ℕ
break_line break.Cut = codes "cut\n"
break_line break.Read = codes "read fault\n"
break_line break.Write = codes "write fault\n"
break_line break.Bound = codes "bound\n"

abbrev pub message_of : Fault → List ℕ
message_of (Refused line) = line
message_of NotSound = []
message_of (Words text) = text
message_of Date = codes "bad date\n"
message_of Settings = codes "bad settings\n"
message_of File = codes "file fault\n"
message_of Store = codes "store fault\n"
message_of Net = codes "net fault\n"
message_of (Session broken) = break_line broken
message_of Memory = codes "no memory\n"

abbrev pub exit_status : Fault → ℕ
exit_status (Refused line) = 1
exit_status NotSound = 1
exit_status (Words text) = 2
exit_status Date = 2
exit_status Settings = 2
exit_status File = 3
exit_status Store = 3
exit_status Net = 3
exit_status (Session broken) = 3
exit_status Memory = 3

-- the fault of words that name no task
abbrev pub fault_of_words : TaskFault → Fault
fault_of_words tasks.Memory = Memory
fault_of_words (tasks.Words text) = Words text
fault_of_words tasks.Date = Date
fault_of_words tasks.Settings = Settings

-- the fault of an office that was not opened
abbrev pub fault_of_opening : OpenFault → Fault
fault_of_opening opening.Memory = Memory
fault_of_opening _ = Store

-- the fault of a file on which no store was opened
abbrev pub fault_of_file : FileFault → Fault
fault_of_file file.Memory = Memory
fault_of_file file.Absent = File
fault_of_file file.Unopened = Store

-- the fault of an office that is busy
abbrev pub fault_of_busy : Busy → Fault
fault_of_busy busy.Memory = Memory
fault_of_busy busy.Disk = Store
fault_of_busy busy.Schema = Store

-- the fault of a stream that was not read to its end
abbrev pub fault_of_reading : ReadFault → Fault
fault_of_reading reads.Memory = Memory
fault_of_reading reads.Failed = File

-- the fault of a refusal: its line, or want of memory for the line
abbrev pub Refuses : Refusal → Fault → Type 0
Refuses why (Refused line) = line ≡ line_of_refusal why
Refuses why Memory = Unit {0}
Refuses why _ = ⊥

-- the fault of a file that gives no finding aids: the line of its first fault, or want of memory
abbrev pub RefusesFile : csv.FileFault → Fault → Type 0
RefusesFile (files.Bad row cause) fault = Refuses (BadFile row cause) fault
RefusesFile files.Memory fault = fault ≡ Memory
