-- From one run of the program on a store to the next. The commands that the runs carry out, one run after the other, are
-- one list of commands to one machine.
use Rattle.std.specs.Prelude.{◌≡◌, ◌⊎◌, ◌++◌, IsTrue, ℕ, Bool, List, [], ◌∷◌, Option, Some, None}
use Rattle.sqlite.specs.Closing.{IsCopied}
use Rattle.sqlite.specs.Files.{HoldsDatabase, file_state, image_of}
use Rattle.sqlite.specs.Held.{Held}
use Rattle.sqlite.specs.Recovery.{Image}
use Rattle.sqlite.specs.Tree.{Trees}
use Rattle.sqlite_disk.specs.declared.Disk.{Ghosts}
use Rattle.sqlite_disk.specs.declared.Files.{Files}
use Rattle.sqlite_store.specs.declared.store.FileStore.{FileStore}
use Rattle.sqlite_wal.specs.Files.{outcomes}
use Rattle.isad_core.specs.Texts.{Bytes}
use Rattle.office_tables.specs.Versions.{First, Second}
use Rattle.nested_sets.specs.Representation.{RepresentsSpanRows}
use Rattle.office_core.specs.Json.{reply_text}
use Rattle.office_core.specs.MixedRuns.{ToDo}
use Rattle.office_core.specs.Rules.{Reply, state_after}
use Rattle.office_core.specs.SoundOffice.{IsSoundOffice}
use Rattle.office_core.specs.State.{State}
use Rattle.office_core.specs.declared.command.Command.{Command}
use Rattle.office_core.specs.declared.command.Command.TheVariants.{Import}
use Rattle.office_tables.specs.Schema.{schema}
use Rattle.refinement.specs.Representation.{RepresentsState}
use Rattle.office.specs.Adoption.{state_in}
use Rattle.office.specs.InitialSettings.{Founding, IsGood, founded}
use Rattle.office.specs.declared.faults.OpenFault.{OpenFault}
use Rattle.http_desk.specs.Headline.{IsOneRun}
use Rattle.http_desk.specs.Runs.{AllBring, AllHappen, ByHttp, Directly, Replied, Visit}
use Rattle.http_desk.specs.Streams.{Stream}
use Rattle.http_desk.specs.declared.session_end.Ended.{Ended}
use Rattle.program.specs.ClosedFiles.{HaveCleanDisk, HoldState, WasJudgedAsFound}
use Rattle.program.specs.Connections.{Connection, History}
use Rattle.program.specs.OpenedFiles.{HoldsOffice}
use Rattle.program.specs.Stores.{HasServed, HasTakenIn, IsBroughtOver, IsMade, IsNotBroughtOver, IsTalkedWith, WasBusy}
use Rattle.program.specs.declared.faults.Fault.{Fault}

-- The bytes of a store hold an office. It is in the state that the machine reaches from `start` by these commands, one
-- after the other, and that state is sound.
pub record IsAfter (image : Image) (start : State) (commands : List Command) : Type 0 where
  pub tables : Trees
  pub holds : ∥ HoldsDatabase image tables ∥₁
  pub represents : RepresentsState RepresentsSpanRows Second (record { schema = schema Second; trees = tables })
      (state_after start commands)
  pub sound : IsSoundOffice (state_after start commands)

-- ---- one run

-- What the next run finds in these files: the bytes that they hold, or those that a crash between the runs leaves.
abbrev pub IsFoundNext : {D : Type 0} → Ghosts D → Files D → Image → Type 0
IsFoundNext g files next = (next ≡ image_of g files) ⊎ outcomes g files.log files.db next

-- the sessions of connections, one after the other; the last connection is the first of the list
abbrev pub sessions_with : List Connection → List Visit
sessions_with [] = []
sessions_with (it ∷ earlier) = sessions_with earlier ++ ByHttp it.input it.output it.end ∷ []

module _ {D : Type 0} (g : Ghosts D) (image : Image) (files : Files D) where
  -- A run that opened a store with these bytes, and left these files. It imported a file, which was accepted or refused;
  -- or its import found the office busy; or it talked, or served connections; or it judged the tables, because it was a
  -- check or could not open an office; or it was a migration that failed.
  pub data ProgramRun : Type 0 where
    TakesIn : (source : Bytes) (reply : Reply) → HasTakenIn g image source reply files → ProgramRun
    IsBusy : (source : Bytes) (fault : Fault) → WasBusy g image source fault files → ProgramRun
    Talks : (reader reader_after out out_after : Stream) (end : Ended)
        → IsTalkedWith g image reader reader_after out out_after end files → ProgramRun
    Serves : (connections : ℕ) (all : Bool) (told told_after : Option History)
        → HasServed g image connections all told told_after files → ProgramRun
    Judges : (judged : Option OpenFault) → WasJudgedAsFound g image judged files → ProgramRun
    FailsToMigrate : (fault : Fault) → IsNotBroughtOver g image fault files → ProgramRun

module _ {D : Type 0} {g : Ghosts D} {image : Image} {files : Files D} where
  -- its connection when it was closed
  abbrev pub closed_by : ProgramRun g image files → Held (FileStore D g)
  closed_by (TakesIn source reply it) = it.after
  closed_by (IsBusy source fault it) = it.after
  closed_by (Talks reader reader_after out out_after end it) = it.after
  closed_by (Serves connections all told told_after it) = it.after
  closed_by (Judges judged it) = it.after
  closed_by (FailsToMigrate fault it) = it.after

  -- the visits of which the headline speaks: its import is a call, and what it talks with and serves are sessions
  abbrev pub visits_in : ProgramRun g image files → List Visit
  visits_in (TakesIn source reply it) = Directly (ToDo (Import source it.file)) (Some (Replied reply (reply_text reply))) ∷ []
  visits_in (IsBusy source fault it) = Directly (ToDo (Import source it.file)) None ∷ []
  visits_in (Talks reader reader_after out out_after end it) = ByHttp it.input it.output end ∷ []
  visits_in (Serves connections all told told_after it) = sessions_with it.sessions.connections
  visits_in (Judges judged it) = []
  visits_in (FailsToMigrate fault it) = []

-- ---- in one sentence each

-- A list of runs begins with a store that holds an office in a sound state,
abbrev pub BeginsAsFound : Image → State → Type 0
BeginsAsFound image s = HoldsOffice image s → IsSoundOffice s → IsAfter image s []

module _ {D : Type 0} (g : Ghosts D) (image : Image) where
  -- or with a new office, whose settings are within their limits,
  abbrev pub BeginsAsMade : Type 0
  BeginsAsMade =
      (founding : Founding) (files : Files D) (it : IsMade g image founding files) → IsGood founding
      → IsCopied it.office files → (next : Image) → IsFoundNext g files next → IsAfter next (founded founding) []

  -- or with one that was migrated.
  abbrev pub BeginsAsBroughtOver : Type 0
  BeginsAsBroughtOver =
      (files : Files D) (it : IsBroughtOver g image files) → IsCopied it.after files → (next : Image)
      → IsFoundNext g files next → IsAfter next (state_in First (file_state it.found).now.trees) []

  -- A run goes on where the runs before it ended, and its commands follow theirs. The next run finds the store in the
  -- state after all of them. That is said where the run, when it closed the store, copied its log into the file.
  abbrev pub RunGoesOn : Type 0
  RunGoesOn =
      (start : State) (commands : List Command) → IsAfter image start commands
      → (files : Files D) (run : ProgramRun g image files) → IsCopied (closed_by run) files
      → (next : Image) → IsFoundNext g files next
      → (more : List Command)
      × (happen : AllHappen (state_after start commands) (visits_in run) (state_after start (commands ++ more)))
      × AllBring (state_after start commands) (visits_in run) (state_after start (commands ++ more)) happen more
      × IsAfter next start (commands ++ more)

  -- What a run does is a list of visits to the office that its file held, in a sound state: each happens as the machine
  -- answers it, and together they are one run of the machine, which keeps the rules. If no failure of the disk had shut
  -- the office, the file and its log then hold it in the state after them.
  abbrev pub RunMakesVisits : Type 0
  RunMakesVisits =
      (s : State) → HoldsOffice image s → IsSoundOffice s
      → (files : Files D) (run : ProgramRun g image files) → HaveCleanDisk g files
      → (t : State) × (happen : AllHappen s (visits_in run) t) × IsOneRun s (visits_in run) t happen
      × (IsTrue (file_state (closed_by run)).is_open → HoldState g files t)
