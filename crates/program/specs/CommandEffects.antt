-- What a command did with its streams, its port and its files: `reader` and `reader_after` are standard input before
-- and after it, `out` and `out_after` are standard output, `told` and `told_after` are what is known of its port, and
-- `outcome` is what became of the store.
use Rattle.std.specs.Prelude.{◌≡◌, ◌⊎◌, ◌++◌, List, Option, Some, None, Result, Ok, Err, ℕ, codes, true, false}
use Rattle.std.specs.Fmt.{decimal}
use Rattle.std.specs.Io.KnownBytes.{Appends, Consumes, IsAtEnd}
use Rattle.sqlite_disk.specs.declared.Disk.{Ghosts}
use Rattle.sqlite.specs.Recovery.{Image}
use Rattle.clap.specs.Simple.{subcommand_of}
use Rattle.clap.specs.Takes.{takes}
use Rattle.clap.specs.Walk.{Text}
use Rattle.finding_aids.specs.Preview.{preview_of}
use Rattle.office_core.specs.State.{State}
use Rattle.office.specs.InitialSettings.{Founding, founded}
use Rattle.http_desk.specs.Session as http
use Rattle.http_desk.specs.Streams.{Stream, most_calls}
use Rattle.http_desk.specs.declared.session_end.Ended.{Ended}
use Rattle.http_desk.specs.declared.session_end.Ended.TheVariants as ended
use Rattle.office_core.specs.Json.{reply_text}
use Rattle.office_core.specs.Rules.{Reply}
use Rattle.desk_core.specs.declared.refusal.Refusal.TheVariants.{BadFile}
use Rattle.command_line.specs.CommandLine.{program}
use Rattle.office.specs.declared.faults.OpenFault.{OpenFault}
use Rattle.office.specs.declared.faults.OpenFault.TheVariants as opening
use Rattle.program.specs.Faults.{Refuses, fault_of_opening, fault_of_reading, line_of_refusal, message_of, exit_status}
use Rattle.program.specs.ClosedFiles.{WasJudgedAsFound}
use Rattle.program.specs.Connections.{History, after_listening}
use Rattle.program.specs.Outcomes.{IsClosedAnd, IsUnopened, IsUntouched}
use Rattle.program.specs.Stores.{HasNoOffice, HasServed, HasTakenIn, IsBroughtOver, IsMade, IsNotBroughtOver}
use Rattle.program.specs.Stores.{IsTalkedWith, MakesNone, WasBusy}
use Rattle.program.specs.Streams.{AgreesWithCalls, Prints, PrintsPart, StreamFails}
use Rattle.program.specs.Tasks.{IsRefusedIn, IsTaskOf}
use Rattle.program.specs.declared.faults.Break.{Break}
use Rattle.program.specs.declared.faults.Break.TheVariants as break
use Rattle.program.specs.declared.faults.Fault.{Fault}
use Rattle.program.specs.declared.faults.Fault.TheVariants.{Refused, NotSound, Words, Date, Settings, File, Store}
use Rattle.program.specs.declared.faults.Fault.TheVariants.{Net, Session, Memory}
use Rattle.program.specs.declared.files.StoreOutcome.{StoreOutcome}
use Rattle.program.specs.declared.streams.ReadFault.{ReadFault}
use Rattle.program.specs.declared.tasks.Task.{Task}
use Rattle.program.specs.declared.tasks.Task.TheVariants.{Preview, Init, Trial, Import, Talk, Serve, Check, Migrate}
use Rattle.program.specs.declared.tasks.TaskFault.TheVariants as tasks

-- the bytes of standard input, read to its end, where no read has failed; or any bytes, such as those of a named file,
-- and standard input was not touched
abbrev pub ReadsInput : Option Text → Stream → Stream → List ℕ → Type 0
ReadsInput None reader reader_after bytes =
    Consumes reader.bytes reader_after.bytes bytes × IsAtEnd reader_after.bytes × (reader_after.failed ≡ reader.failed)
ReadsInput (Some path) reader reader_after bytes = reader_after ≡ reader

-- some of standard input was read, or all of it; or, if a file is named, nothing
abbrev pub ReadsPart : Option Text → Stream → Stream → Type 0
ReadsPart None reader reader_after = (gone : List ℕ) × Consumes reader.bytes reader_after.bytes gone
ReadsPart (Some path) reader reader_after = reader_after ≡ reader

-- standard input could not be read to its end; of a named file nothing is known
abbrev pub ReadingFails : Option Text → Stream → Stream → Type 0
ReadingFails None reader reader_after = StreamFails most_calls reader reader_after
ReadingFails (Some path) reader reader_after = Unit {0}

-- nothing was read from standard input
abbrev pub Unread : Stream → Stream → Type 0
Unread reader reader_after = reader_after ≡ reader

-- nothing was printed
abbrev pub IsSilent : Stream → Stream → Type 0
IsSilent out out_after = out_after ≡ out

-- the finding aids of a file, or the row and the cause of its first fault
abbrev pub preview_result : Text → Text → List ℕ → Result Text (ℕ × ℕ)
preview_result country repo file = preview_of (record { country = country; repo = repo }) file

-- a preview that is done: the finding aids of these bytes were printed
abbrev pub PreviewDone : Text → Text → Option Text → Stream → Stream → Stream → Stream → Type 0
PreviewDone country repo path reader reader_after out out_after =
    (file aids : List ℕ) × ReadsInput path reader reader_after file × (preview_result country repo file ≡ Ok aids)
    × Prints aids out out_after

-- a preview that ended with a fault: the bytes are refused with that line; or the input could not be read, and nothing
-- was printed; or a front of the finding aids was printed before standard output failed; or there was no memory
abbrev pub PreviewFails : Text → Text → Option Text → Stream → Stream → Stream → Stream → Fault → Type 0
PreviewFails country repo path reader reader_after out out_after (Refused line) =
    (file : List ℕ) × (row cause : ℕ) × ReadsInput path reader reader_after file
    × (preview_result country repo file ≡ Err (row, cause)) × (line ≡ line_of_refusal (BadFile row cause)) × (out_after ≡ out)
PreviewFails country repo path reader reader_after out out_after File =
    (ReadsPart path reader reader_after × ReadingFails path reader reader_after × (out_after ≡ out))
    ⊎ ((file aids : List ℕ) × ReadsInput path reader reader_after file × (preview_result country repo file ≡ Ok aids)
    × PrintsPart aids out out_after)
PreviewFails country repo path reader reader_after out out_after Memory =
    ReadsPart path reader reader_after × (out_after ≡ out)
PreviewFails country repo path reader reader_after out out_after _ = ⊥

-- a session with a new office with these settings: what was read is its input, what was written is its output, and its
-- end agrees with how the calls on standard input and output went
abbrev pub Talked : Founding → Stream → Stream → Stream → Stream → Ended → Type 0
Talked founding reader reader_after out out_after end =
    (input output : List ℕ) × Consumes reader.bytes reader_after.bytes input × Appends out.bytes out_after.bytes output
    × AgreesWithCalls reader reader_after out out_after end
    × (new : State) × http.Session (founded founding) input output end new

-- the session did not break off: its input ended between messages, or it was closed after an answer
abbrev pub EndsWell : Ended → Type 0
EndsWell ended.End = Unit {0}
EndsWell ended.Closed = Unit {0}
EndsWell _ = ⊥

abbrev pub ended_by : Break → Ended
ended_by break.Cut = ended.Cut
ended_by break.Read = ended.ReadFault
ended_by break.Write = ended.WriteFault
ended_by break.Bound = ended.Bound

-- a trial that is done: a session that did not break off
abbrev pub TrialDone : Founding → Stream → Stream → Stream → Stream → Type 0
TrialDone founding reader reader_after out out_after =
    (end : Ended) × EndsWell end × Talked founding reader reader_after out out_after end

-- a trial that ended with a fault: its session broke off, or there was no memory for an office
abbrev pub TrialFails : Founding → Stream → Stream → Stream → Stream → Fault → Type 0
TrialFails founding reader reader_after out out_after (Session broken) =
    Talked founding reader reader_after out out_after (ended_by broken)
TrialFails founding reader reader_after out out_after Memory = Unread reader reader_after × IsSilent out out_after
TrialFails founding reader reader_after out out_after _ = ⊥

-- ---- what is printed about an office

-- an office is busy: there is no memory, or its store fails
abbrev pub IsBusy : Fault → Type 0
IsBusy Store = Unit {0}
IsBusy Memory = Unit {0}
IsBusy _ = ⊥

abbrev pub line_feed : List ℕ
line_feed = codes "\n"

-- the reply was printed, as a line
abbrev pub ReplyPrinted : Reply → Stream → Stream → Type 0
ReplyPrinted (Ok done) out out_after = Prints (reply_text (Ok done) ++ line_feed) out out_after
ReplyPrinted (Err why) out out_after = ⊥

-- it was refused, with that line; or standard output failed
abbrev pub ReplyFails : Reply → Stream → Stream → Fault → Type 0
ReplyFails (Ok done) out out_after File = PrintsPart (reply_text (Ok done) ++ line_feed) out out_after
ReplyFails (Ok done) out out_after _ = ⊥
ReplyFails (Err why) out out_after fault = Refuses why fault × IsSilent out out_after

abbrev pub listening : ℕ → List ℕ
listening number = codes "listening " ++ decimal number ++ line_feed

-- a server has printed that it listens
abbrev pub Listens : ℕ → Stream → Stream → Type 0
Listens number out out_after = Prints (listening number) out out_after

-- A server took no connection: its port could not be bound; or it was bound, but standard output failed, or there was
-- no memory for the line.
abbrev pub ListeningFails : ℕ → Stream → Stream → Option History → Option History → Fault → Type 0
ListeningFails number out out_after told told_after Net = IsSilent out out_after × (told_after ≡ told)
ListeningFails number out out_after told told_after File =
    PrintsPart (listening number) out out_after × (told_after ≡ after_listening told number)
ListeningFails number out out_after told told_after Memory =
    IsSilent out out_after × (told_after ≡ after_listening told number)
ListeningFails number out out_after told told_after _ = ⊥

-- what is printed about an office that is not sound, or is of the other version
abbrev pub complaint_of : OpenFault → Option (List ℕ)
complaint_of opening.OldVersion = Some (codes "old version\n")
complaint_of (opening.Unsound cause) = Some (codes "not sound " ++ decimal cause ++ line_feed)
complaint_of _ = None

-- no fault was found, and that was printed
abbrev pub JudgmentPrinted : Option OpenFault → Stream → Stream → Type 0
JudgmentPrinted None out out_after = Prints (codes "sound\n") out out_after
JudgmentPrinted (Some why) out out_after = ⊥

-- the line was not printed whole: there was no memory for it, or standard output failed
abbrev pub LineFails : List ℕ → Stream → Stream → Fault → Type 0
LineFails line out out_after File = PrintsPart line out out_after
LineFails line out out_after Memory = IsSilent out out_after
LineFails line out out_after _ = ⊥

-- the complaint was printed, or was not printed whole; if there is no complaint, the fault is that of opening
abbrev pub ComplaintFails : OpenFault → Option (List ℕ) → Stream → Stream → Fault → Type 0
ComplaintFails why (Some line) out out_after NotSound = Prints line out out_after
ComplaintFails why (Some line) out out_after fault = LineFails line out out_after fault
ComplaintFails why None out out_after fault = (fault ≡ fault_of_opening why) × IsSilent out out_after

abbrev pub JudgmentFails : Option OpenFault → Stream → Stream → Fault → Type 0
JudgmentFails None out out_after fault = LineFails (codes "sound\n") out out_after fault
JudgmentFails (Some why) out out_after fault = ComplaintFails why (complaint_of why) out out_after fault

abbrev pub migrated_line : List ℕ
migrated_line = codes "migrated\n"

-- ---- standard input and output, and the port

-- what a command has of them at one time
pub record Channels : Type 0 where
  pub reader : Stream
  pub out : Stream
  pub told : Option History

abbrev pub channels : Stream → Stream → Option History → Channels
channels reader out told = record { reader = reader; out = out; told = told }

-- nothing was read, printed or served
abbrev pub DoesNothing : Channels → Channels → Type 0
DoesNothing before after = after ≡ before

-- the port is as it was
abbrev pub IsUnused : Channels → Channels → Type 0
IsUnused before after = after.told ≡ before.told

-- nothing was read or served
abbrev pub OnlyPrints : Channels → Channels → Type 0
OnlyPrints before after = Unread before.reader after.reader × IsUnused before after

-- ---- offices in files, in which a store with this image was found

module _ {S D : Type 0} (g : Ghosts D) (image : Image) where
  -- the store was not touched, and nothing was read, printed or served
  abbrev pub NothingDone : Channels → Channels → StoreOutcome S D g → Type 0
  NothingDone before after outcome = IsUntouched outcome × DoesNothing before after

  -- the store could not be opened, and nothing was printed
  abbrev pub NoStore : Stream → Stream → StoreOutcome S D g → Fault → Type 0
  NoStore out out_after outcome fault = IsUnopened image outcome fault × IsSilent out out_after

  -- no office was opened, and nothing was printed; a store that was opened is closed as it was found
  abbrev pub NotOpened : Stream → Stream → StoreOutcome S D g → Fault → Type 0
  NotOpened out out_after outcome fault = HasNoOffice g image outcome fault × IsSilent out out_after

  -- a new office was made
  abbrev pub InitDone : Founding → Channels → Channels → StoreOutcome S D g → Type 0
  InitDone founding before after outcome = IsClosedAnd outcome (IsMade g image founding) × DoesNothing before after

  -- no office was made
  abbrev pub InitFails : Founding → StoreOutcome S D g → Fault → Type 0
  InitFails founding outcome fault = MakesNone g image outcome founding fault

  -- the file of an import could not be read, and nothing was printed
  abbrev pub NotRead : Stream → Stream → StoreOutcome S D g → Fault → Type 0
  NotRead out out_after outcome fault =
      ((why : ReadFault) × (fault ≡ fault_of_reading why)) × IsUntouched outcome × IsSilent out out_after

  -- an import that is done: it was one step, whose reply was printed
  abbrev pub ImportDone : Text → Stream → Stream → StoreOutcome S D g → Type 0
  ImportDone source out out_after outcome =
      (reply : Reply) × IsClosedAnd outcome (HasTakenIn g image source reply) × ReplyPrinted reply out out_after

  -- an office was busy, and nothing was printed
  abbrev pub BusyFor : Text → Stream → Stream → StoreOutcome S D g → Fault → Type 0
  BusyFor source out out_after outcome fault =
      IsBusy fault × IsSilent out out_after × IsClosedAnd outcome (WasBusy g image source fault)

  -- an import that ended with a fault: its file was not read; or the office was not opened or was busy; or the import
  -- was refused; or the reply was not printed whole
  pub record ImportFails (source : Text) (out out_after : Stream) (outcome : StoreOutcome S D g) (fault : Fault)
      : Type 0 where
    pub why : NotRead out out_after outcome fault
        ⊎ (NotOpened out out_after outcome fault
        ⊎ (BusyFor source out out_after outcome fault
        ⊎ ((reply : Reply) × IsClosedAnd outcome (HasTakenIn g image source reply)
        × ReplyFails reply out out_after fault)))

  -- a talk that is done: a session that did not break off
  abbrev pub TalkDone : Stream → Stream → Stream → Stream → StoreOutcome S D g → Type 0
  TalkDone reader reader_after out out_after outcome =
      (end : Ended) × EndsWell end × IsClosedAnd outcome (IsTalkedWith g image reader reader_after out out_after end)

  -- a talk that ended with a fault: its session broke off, or the office was not opened
  abbrev pub TalkFails : Stream → Stream → Stream → Stream → StoreOutcome S D g → Fault → Type 0
  TalkFails reader reader_after out out_after outcome fault =
      (Unread reader reader_after × NotOpened out out_after outcome fault)
      ⊎ ((broken : Break) × (fault ≡ Session broken)
      × IsClosedAnd outcome (IsTalkedWith g image reader reader_after out out_after (ended_by broken)))

  -- a server that is done: its port was bound, it has printed that it listens, and has served all connections, which
  -- the port gave and which were left
  abbrev pub ServeDone : ℕ → ℕ → Stream → Stream → Option History → Option History → StoreOutcome S D g → Type 0
  ServeDone number connections out out_after told told_after outcome =
      IsClosedAnd outcome (HasServed g image connections true (after_listening told number) told_after)
      × Listens number out out_after

  -- an office was opened, and its server took no connection
  abbrev pub ServesNobody : Option History → StoreOutcome S D g → Type 0
  ServesNobody told outcome = IsClosedAnd outcome (HasServed g image 0 true told told)

  -- a server that ended with a fault: the office was not opened, and the port is as it was; or the server did not print
  -- that it listens, and took no connection; or the port could not give the next connection
  abbrev pub ServeFails : ℕ → ℕ → Stream → Stream → Option History → Option History → StoreOutcome S D g → Fault
      → Type 0
  ServeFails number connections out out_after told told_after outcome fault =
      (NotOpened out out_after outcome fault × (told_after ≡ told))
      ⊎ ((ServesNobody told_after outcome × ListeningFails number out out_after told told_after fault)
      ⊎ (IsClosedAnd outcome (HasServed g image connections false (after_listening told number) told_after)
      × (fault ≡ Net) × Listens number out out_after))

  -- a check that is done: the tables are those of a sound office, and that was printed
  abbrev pub CheckDone : Stream → Stream → StoreOutcome S D g → Type 0
  CheckDone out out_after outcome =
      IsClosedAnd outcome (WasJudgedAsFound g image None) × JudgmentPrinted None out out_after

  -- a check that ended with a fault: the store could not be opened; or no sound office was found in it, or it could not
  -- be judged; or the office is sound, but that was not printed whole
  abbrev pub CheckFails : Stream → Stream → StoreOutcome S D g → Fault → Type 0
  CheckFails out out_after outcome fault =
      NoStore out out_after outcome fault
      ⊎ ((judged : Option OpenFault) × IsClosedAnd outcome (WasJudgedAsFound g image judged)
      × JudgmentFails judged out out_after fault)

  -- a migration that is done, and that was printed
  abbrev pub MigrateDone : Stream → Stream → StoreOutcome S D g → Type 0
  MigrateDone out out_after outcome = IsClosedAnd outcome (IsBroughtOver g image) × Prints migrated_line out out_after

  -- a migration that ended with a fault: the store could not be opened; or its tables stay as they are; or the
  -- migration was done, but that was not printed whole
  pub record MigrateFails (out out_after : Stream) (outcome : StoreOutcome S D g) (fault : Fault) : Type 0 where
    pub why : NoStore out out_after outcome fault
        ⊎ ((IsClosedAnd outcome (IsNotBroughtOver g image fault) × IsSilent out out_after)
        ⊎ (IsClosedAnd outcome (IsBroughtOver g image) × LineFails migrated_line out out_after fault))

  -- a task that is done
  abbrev pub Does : Task → Channels → Channels → StoreOutcome S D g → Type 0
  Does (Preview country repo path) before after outcome =
      IsUntouched outcome × IsUnused before after
      × PreviewDone country repo path before.reader after.reader before.out after.out
  Does (Init path founding) before after outcome = InitDone founding before after outcome
  Does (Trial founding) before after outcome =
      IsUntouched outcome × IsUnused before after
      × TrialDone founding before.reader after.reader before.out after.out
  Does (Import path source file) before after outcome =
      OnlyPrints before after × ImportDone source before.out after.out outcome
  Does (Talk path) before after outcome =
      IsUnused before after × TalkDone before.reader after.reader before.out after.out outcome
  Does (Serve path number connections) before after outcome =
      Unread before.reader after.reader
      × ServeDone number connections before.out after.out before.told after.told outcome
  Does (Check path) before after outcome = OnlyPrints before after × CheckDone before.out after.out outcome
  Does (Migrate path) before after outcome = OnlyPrints before after × MigrateDone before.out after.out outcome

  -- a task that ended with a fault
  abbrev pub FailsWith : Task → Channels → Channels → StoreOutcome S D g → Fault → Type 0
  FailsWith (Preview country repo path) before after outcome fault =
      IsUntouched outcome × IsUnused before after
      × PreviewFails country repo path before.reader after.reader before.out after.out fault
  FailsWith (Init path founding) before after outcome fault =
      InitFails founding outcome fault × DoesNothing before after
  FailsWith (Trial founding) before after outcome fault =
      IsUntouched outcome × IsUnused before after
      × TrialFails founding before.reader after.reader before.out after.out fault
  FailsWith (Import path source file) before after outcome fault =
      OnlyPrints before after × ImportFails source before.out after.out outcome fault
  FailsWith (Talk path) before after outcome fault =
      IsUnused before after × TalkFails before.reader after.reader before.out after.out outcome fault
  FailsWith (Serve path number connections) before after outcome fault =
      Unread before.reader after.reader
      × ServeFails number connections before.out after.out before.told after.told outcome fault
  FailsWith (Check path) before after outcome fault =
      OnlyPrints before after × CheckFails before.out after.out outcome fault
  FailsWith (Migrate path) before after outcome fault =
      OnlyPrints before after × MigrateFails before.out after.out outcome fault

  -- words whose task is done
  abbrev pub IsDone : List Text → Channels → Channels → StoreOutcome S D g → Type 0
  IsDone words before after outcome =
      (task : Task) × IsTaskOf (subcommand_of program words) task × Does task before after outcome

  -- words whose task ended with that fault
  abbrev pub TaskFails : List Text → Channels → Channels → StoreOutcome S D g → Fault → Type 0
  TaskFails words before after outcome fault =
      (task : Task) × IsTaskOf (subcommand_of program words) task × FailsWith task before after outcome fault

  -- words that led to a fault: they name no task, or its values are refused, or there was no memory to read them, and
  -- nothing was read, printed or served; or their task ended with the fault
  abbrev pub Fails : List Text → Channels → Channels → StoreOutcome S D g → Fault → Type 0
  Fails words before after outcome (Words text) =
      (takes program words ≡ false) × NothingDone before after outcome
  Fails words before after outcome Date =
      IsRefusedIn (subcommand_of program words) tasks.Date × NothingDone before after outcome
  Fails words before after outcome Settings =
      IsRefusedIn (subcommand_of program words) tasks.Settings × NothingDone before after outcome
  Fails words before after outcome Memory =
      NothingDone before after outcome ⊎ TaskFails words before after outcome Memory
  Fails words before after outcome fault = TaskFails words before after outcome fault

-- ---- with standard error

-- the text was written on standard error, which is `err` before and `err_after` after it; or a front of it, before
-- standard error failed
abbrev pub Tells : Stream → Stream → List ℕ → Type 0
Tells err err_after text = Prints text err err_after ⊎ PrintsPart text err err_after

-- the task was done, and nothing was written on standard error; or there was a fault, and its message was written
-- there, as far as standard error took it; this is the exit status
abbrev pub IsPerformed : {S D : Type 0} → (g : Ghosts D) → Image → List Text → Channels → Channels → Stream → Stream
    → StoreOutcome S D g → ℕ → Type 0
IsPerformed g image words before after err err_after outcome status =
    ((status ≡ 0) × IsDone g image words before after outcome × (err_after ≡ err))
    ⊎ ((fault : Fault) × (status ≡ exit_status fault) × Fails g image words before after outcome fault
    × Tells err err_after (message_of fault))
