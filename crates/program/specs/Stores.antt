-- Offices in files: what a command did with one, and what the files hold after it is closed. A store is found with an
-- image: the bytes that its file and its log held. The system is responsible that these are the files with the given
-- name. What is stated of an office has the premise that its disk has returned what was written. A disk that did so to
-- the end also did so before (`intact`, and the first field of `crash`). `crash` describes what the files may hold if a
-- failure of the disk had shut the office.
use Rattle.std.specs.Prelude.{◌≡◌, ◌⊎◌, ℕ, Bool, false, IsOk, IsTrue, List, Ok, Option, Some}
use Rattle.std.specs.Io.KnownBytes.{Appends, Consumes}
use Rattle.sqlite.specs.Files.{file_state, over_files}
use Rattle.sqlite.specs.Held.{Held}
use Rattle.sqlite.specs.Recovery.{Image}
use Rattle.sqlite.specs.State.{HasCleanDisk, Survives}
use Rattle.sqlite_disk.specs.declared.Disk.{Ghosts}
use Rattle.sqlite_disk.specs.declared.Files.{Files}
use Rattle.sqlite_store.specs.declared.store.FileStore.{FileStore}
use Rattle.isad_core.specs.Texts.{Bytes}
use Rattle.office_tables.specs.Versions.{First, Second}
use Rattle.nested_sets.specs.Representation.{RepresentsSpanRows}
use Rattle.office_core.specs.Rules.{Reply, step}
use Rattle.office_core.specs.SoundOffice.{IsSoundOffice}
use Rattle.office_core.specs.State.{State}
use Rattle.office_core.specs.declared.command.Command.{Command}
use Rattle.office_core.specs.declared.command.Command.TheVariants.{Import}
use Rattle.office_core.specs.declared.done.Done.{Done}
use Rattle.office.specs.InitialSettings.{Founding, founded}
use Rattle.office.specs.Adoption.{HasAdoptCause, state_in}
use Rattle.office.specs.NewOffice.{HasOpenCause}
use Rattle.office.specs.OfficeCall.{MayFind, TakesStep}
use Rattle.office.specs.Migration.{IsMigrated, MayFindMigrated}
use Rattle.office.specs.IdleOffice.{IsAsBefore, IsIn, has_clean_disk, is_shown, is_still_open}
use Rattle.office.specs.declared.faults.OpenFault.{OpenFault}
use Rattle.http_desk.specs.AcceptedMessages.{LeavesOpen}
use Rattle.http_desk.specs.BusyMessages.{WasBusyWith}
use Rattle.http_desk.specs.Session.{Session}
use Rattle.http_desk.specs.Exchanges.{Keeps}
use Rattle.http_desk.specs.Streams.{Stream}
use Rattle.http_desk.specs.declared.session_end.Ended.{Ended}
use Rattle.office_tables.specs.Schema.{no_schema}
use Rattle.program.specs.ClosedFiles.{HasLeft, HaveCleanDisk, HoldState, LeaveOnly, WasJudgedAsFound}
use Rattle.program.specs.Busy.{IsBusyFor}
use Rattle.program.specs.Faults.{fault_of_opening}
use Rattle.program.specs.KeptOffices.{AreTablesAfter, AreTablesOf, IsRecovered}
use Rattle.program.specs.OpenedFiles.{HoldsOffice, IsFound, IsStore}
use Rattle.program.specs.Outcomes.{IsClosedAnd, IsUnopened}
use Rattle.program.specs.Connections.{AreSessions, History, Serves, SessionsLeaveOpen, WereBusyWith}
use Rattle.program.specs.Streams.{AgreesWithCalls}
use Rattle.program.specs.declared.faults.Fault.{Fault}
use Rattle.program.specs.declared.files.StoreOutcome.{StoreOutcome}

module _ {D : Type 0} (g : Ghosts D) (image : Image) where
  -- an office was opened: the one that was found in the image
  abbrev pub IsOpened : Held (FileStore D g) → Type 0
  IsOpened office = HasCleanDisk (file_state office) → IsFound image (file_state office)

  -- it is in this state, which is sound, unless a failure of the disk has shut it
  abbrev is_kept : Held (FileStore D g) → State → Type 0
  is_kept = is_shown (over_files {g = g}) RepresentsSpanRows Second

  -- if that has shut it, a crash finds it in this state, or in that after one of these commands
  abbrev is_recovered : Held (FileStore D g) → List Command → State → Type 0
  is_recovered = IsRecovered (over_files {g = g})

  -- A new office was made, and was in the state in which it begins; its connection was open. These are its files.
  pub record IsMade (founding : Founding) (files : Files D) : Type 0 where
    pub office : Held (FileStore D g)
    pub represents : HasCleanDisk (file_state office)
        → IsIn RepresentsSpanRows Second (founded founding) (file_state office)
    pub kept : HasCleanDisk (file_state office) → IsTrue (file_state office).is_open
    pub left : HasLeft office files

  -- No office was made in a store, for this reason. A crash finds no office, or the new one. These are the files of the
  -- store, which are deleted afterwards.
  pub record IsNotMade (founding : Founding) (fault : Fault) (files : Files D) : Type 0 where
    pub found : Held (FileStore D g)
    pub after : Held (FileStore D g)
    pub is_store : IsStore g image found
    pub why : OpenFault
    pub told : fault ≡ fault_of_opening why
    pub cause : (file_state found).now.schema ≡ no_schema → HasCleanDisk (file_state after)
        → HasOpenCause (file_state found) (file_state after) why
    pub back : HasCleanDisk (file_state after) → IsAsBefore (file_state found) (file_state after)
    pub crash : Survives (file_state found) (file_state after) (AreTablesOf (founded founding))
    pub closed : HasLeft after files

  -- no office was made: the store could not be opened, or no office could be made in it
  abbrev pub MakesNone : {S : Type 0} → StoreOutcome S D g → Founding → Fault → Type 0
  MakesNone outcome founding fault = IsUnopened image outcome fault ⊎ IsClosedAnd outcome (IsNotMade founding fault)

  -- no office was opened: the store could not be opened; or an office could not be opened on its tables, and it was
  -- closed as it was found
  abbrev pub HasNoOffice : {S : Type 0} → StoreOutcome S D g → Fault → Type 0
  HasNoOffice outcome fault = IsUnopened image outcome fault
      ⊎ ((why : OpenFault) × (fault ≡ fault_of_opening why) × IsClosedAnd outcome (WasJudgedAsFound g image (Some why)))

  -- A session with an office that was opened. What was read is its input, what was written is its output, and its end
  -- agrees with how the calls on its reader and writer went. If a failure of the disk has shut the office, a crash
  -- finds it as the session left it, or after the command with which it was busy. These are the office's files.
  pub record IsTalkedWith (reader reader_after out out_after : Stream) (end : Ended) (files : Files D) : Type 0 where
    pub office : Held (FileStore D g)
    pub after : Held (FileStore D g)
    pub opened : IsOpened office
    pub intact : HasCleanDisk (file_state after) → HasCleanDisk (file_state office)
    pub input : Bytes
    pub output : Bytes
    pub read : Consumes reader.bytes reader_after.bytes input
    pub written : Appends out.bytes out_after.bytes output
    pub agrees : AgreesWithCalls reader reader_after out out_after end
    pub session : has_clean_disk (over_files {g = g}) after → (s : State) → is_kept office s
        → (t : State) × is_kept after t
        × Keeps (IsTrue (file_state office).is_open) (IsTrue (file_state after).is_open) (is_recovered office)
        (is_recovered after) s input output end t
    pub closed : HasLeft after files

  -- An office that was opened imported a file in one step, with this reply. After a reply that is not a refusal, its
  -- connection was open, so the tables represented the state after the step. These are its files.
  pub record HasTakenIn (source : Bytes) (reply : Reply) (files : Files D) : Type 0 where
    pub office : Held (FileStore D g)
    pub after : Held (FileStore D g)
    pub opened : IsOpened office
    pub file : Bytes
    pub step : HasCleanDisk (file_state after) → (s : State) → IsSoundOffice s
        → IsIn RepresentsSpanRows Second s (file_state office)
        → TakesStep RepresentsSpanRows Second s (Import source file) reply (file_state after)
    pub kept : HasCleanDisk (file_state after) → IsOk reply → IsTrue (file_state after).is_open
    pub crash : Survives (file_state office) (file_state after)
        (MayFind RepresentsSpanRows Second (Import source file) (file_state office))
    pub closed : HasLeft after files

  -- An office that was opened was busy when it was to import a file: its tables were as before, and this fault has its
  -- cause. These are its files.
  pub record WasBusy (source : Bytes) (fault : Fault) (files : Files D) : Type 0 where
    pub office : Held (FileStore D g)
    pub after : Held (FileStore D g)
    pub opened : IsOpened office
    pub file : Bytes
    pub same : HasCleanDisk (file_state after) → IsAsBefore (file_state office) (file_state after)
    pub cause : HasCleanDisk (file_state after) → (s : State) → IsSoundOffice s
        → IsIn RepresentsSpanRows Second s (file_state office) → IsBusyFor (file_state office) (file_state after) fault
    pub crash : Survives (file_state office) (file_state after)
        (MayFind RepresentsSpanRows Second (Import source file) (file_state office))
    pub closed : HasLeft after files

  -- An office that was opened served this number of connections, one session after the other; or at most this number,
  -- if not all could be taken. They are those that its port gave: `told` is known of it before the first, and
  -- `told_after` after the last. After a failure of the disk, a crash finds the office as the sessions left it, or
  -- after one command with which it was busy. These are its files.
  pub record HasServed (connections : ℕ) (all : Bool) (told told_after : Option History) (files : Files D)
      : Type 0 where
    pub office : Held (FileStore D g)
    pub after : Held (FileStore D g)
    pub opened : IsOpened office
    pub intact : HasCleanDisk (file_state after) → HasCleanDisk (file_state office)
    pub sessions : Serves is_kept (has_clean_disk (over_files {g = g})) (is_still_open (over_files {g = g})) is_recovered
        connections told told_after office after all
    pub closed : HasLeft after files

  -- The tables of a store were those of a sound office of version 1, and then those of an office of version 2 in the
  -- same state, over a connection that was open. These are its files.
  pub record IsBroughtOver (files : Files D) : Type 0 where
    pub found : Held (FileStore D g)
    pub after : Held (FileStore D g)
    pub is_store : IsStore g image found
    pub same : HasCleanDisk (file_state after) → IsMigrated (file_state found).now (file_state after).now
    pub kept : HasCleanDisk (file_state after) → IsTrue (file_state after).is_open
    pub crash : Survives (file_state found) (file_state after) (MayFindMigrated (file_state found))
    pub closed : HasLeft after files

  -- a migration failed for this reason, and left the tables of the store as before; these are its files
  pub record IsNotBroughtOver (fault : Fault) (files : Files D) : Type 0 where
    pub found : Held (FileStore D g)
    pub after : Held (FileStore D g)
    pub is_store : IsStore g image found
    pub why : OpenFault
    pub told : fault ≡ fault_of_opening why
    pub back : HasCleanDisk (file_state after) → IsAsBefore (file_state found) (file_state after)
    pub cause : HasCleanDisk (file_state after) → HasAdoptCause First (file_state found) (file_state after) why
    pub crash : Survives (file_state found) (file_state after) (MayFindMigrated (file_state found))
    pub closed : HasLeft after files

  -- ---- in one sentence each

  abbrev pub WhatWasMadeIsHeld : Type 0
  WhatWasMadeIsHeld =
      (founding : Founding) (files : Files D) → IsMade founding files → HaveCleanDisk g files
      → HoldState g files (founded founding)

  -- after an import that is not refused
  abbrev pub WhatWasTakenInIsHeld : Type 0
  WhatWasTakenInIsHeld =
      (source : Bytes) (done : Done) (files : Files D) (it : HasTakenIn source (Ok done) files) → HaveCleanDisk g files
      → (s : State) → HoldsOffice image s → IsSoundOffice s → HoldState g files (step s (Import source it.file)).0

  -- If the last message of a session was a command that was accepted, or if the office is still open, the files hold it
  -- as the session left it. Otherwise a failure of the disk has shut it. Then a crash leaves only the office as the
  -- session left it, or after the command of its last message, if 503 was answered to that.
  abbrev pub WhatWasSaidIsHeld : Type 0
  WhatWasSaidIsHeld =
      (reader reader_after out out_after : Stream) (end : Ended) (files : Files D)
      (it : IsTalkedWith reader reader_after out out_after end files) → HaveCleanDisk g files
      → (s : State) → HoldsOffice image s → IsSoundOffice s
      → (t : State) × (session : Session s it.input it.output end t)
      × (LeavesOpen (IsTrue (file_state it.office).is_open) session ⊎ IsTrue (file_state it.after).is_open
      → HoldState g files t)
      × ((file_state it.after).is_open ≡ false → LeaveOnly g files (AreTablesAfter (WasBusyWith session) t))

  -- the same for connections; 503 may have been answered to the last message of each
  abbrev pub WhatWasServedIsHeld : Type 0
  WhatWasServedIsHeld =
      (connections : ℕ) (all : Bool) (told told_after : Option History) (files : Files D)
      (it : HasServed connections all told told_after files) → HaveCleanDisk g files
      → (s : State) → HoldsOffice image s → IsSoundOffice s
      → (t : State) × (are : AreSessions it.sessions.connections s t)
      × (SessionsLeaveOpen (IsTrue (file_state it.office).is_open) it.sessions.connections s t are
      ⊎ IsTrue (file_state it.after).is_open → HoldState g files t)
      × ((file_state it.after).is_open ≡ false
      → LeaveOnly g files (AreTablesAfter (WereBusyWith it.sessions.connections s t are) t))

  -- Where no office was made, and a failure of the disk has shut the store, a crash leaves only a store without tables,
  -- or the new office.
  abbrev pub WhatWasNotMadeIsLeft : Type 0
  WhatWasNotMadeIsLeft =
      (founding : Founding) (fault : Fault) (files : Files D) (it : IsNotMade founding fault files)
      → HaveCleanDisk g files → (file_state it.after).is_open ≡ false
      → LeaveOnly g files (λ db. (file_state it.found).may_leave db ⊎ AreTablesOf (founded founding) db)

  abbrev pub WhatWasBroughtOverIsHeld : Type 0
  WhatWasBroughtOverIsHeld =
      (files : Files D) (it : IsBroughtOver files) → HaveCleanDisk g files
      → HoldState g files (state_in First (file_state it.found).now.trees)
