-- The names that several proofs of this crate cite, passed on from one place. Declares nothing.
pub use Rattle.std.proofs.KnownBytes.{Appends-trans, Consumes-kept, Consumes-trans}
pub use Rattle.std.proofs.lemmas.Bool.{both_ways, cases_Bool, cases_lt}
pub use Rattle.std.proofs.lemmas.Result.{IfErr-weaker, IfOk-weaker, on_ok_weaker}
pub use Rattle.std.specs.Io.KnownBytes.{Appends, Consumes, IsAtEnd}
pub use Rattle.std.specs.List.{AllByRecursion, AllZip}
pub use Rattle.std.specs.Prelude.{IsErr, IsErrAnd, IsOk, MatchBool}
pub use Rattle.std.specs.String.{string_bytes}
pub use Rattle.sqlite.specs.Effect.{Database}
pub use Rattle.sqlite.specs.Files.{AreFoundIn, HoldsDatabase, IsClosed, file_state, over_files}
pub use Rattle.sqlite.specs.Held.{Held, state}
pub use Rattle.sqlite.specs.Recovery.{Image}
pub use Rattle.sqlite.specs.Start.{FindsIn}
pub use Rattle.sqlite.specs.State.{HasCleanDisk, IsLive, Opens, Survives}
pub use Rattle.sqlite.specs.Tree.{Trees}
pub use Rattle.sqlite_disk.specs.declared.Disk.{Ghosts}
pub use Rattle.sqlite_disk.specs.declared.Files.{Files}
pub use Rattle.sqlite_store.specs.declared.store.FileStore.{FileStore}
pub use Rattle.clap.specs.Walk.{Row, Text, rows_of}
pub use Rattle.isad_core.specs.Texts.{Bytes}
pub use Rattle.office_tables.proofs.Calls.{early}
pub use Rattle.office_tables.specs.Versions.{Second, Version}
pub use Rattle.nested_sets.specs.Representation.{RepresentsSpanRows}
pub use Rattle.office_core.specs.Rules.{state_after, step}
pub use Rattle.office_core.specs.SoundOffice.{IsSoundOffice}
pub use Rattle.office_core.specs.declared.command.Command.{Command}
pub use Rattle.http_desk.specs.Exchanges.{Keeps, Through}
pub use Rattle.http_desk.specs.Streams.{Stream, calls_of, one_more_call, spent}
pub use Rattle.http_desk.specs.declared.session_end.Ended.{Ended}
pub use Rattle.refinement.specs.Representation.{RepresentsState}
pub use Rattle.office.specs.IdleOffice.{IsAtRest, IsIn, has_clean_disk, is_shown, is_still_open}
pub use Rattle.office.specs.InitialSettings.{AreTaken, Founding, IsTaken, founded, settings_fault}
pub use Rattle.office.specs.declared.faults.OpenFault.{OpenFault}
pub use Rattle.program.specs.ClosedFiles.{ACheckChangesNothing, AreAsFound, AreInTheFile, HasLeft, HaveCleanDisk, Hold}
pub use Rattle.program.specs.ClosedFiles.{HoldState, LeaveOnly, WasJudgedAsFound}
pub use Rattle.program.specs.CommandEffects.{Channels, CheckDone, CheckFails, ComplaintFails, Does, EndsWell, Fails}
pub use Rattle.program.specs.CommandEffects.{FailsWith, ImportDone, ImportFails, InitFails, IsDone, IsPerformed}
pub use Rattle.program.specs.CommandEffects.{JudgmentFails, JudgmentPrinted, LineFails, ListeningFails, Listens}
pub use Rattle.program.specs.CommandEffects.{MigrateFails, NotOpened, OnlyPrints, PreviewFails, ReadsInput, ReadsPart}
pub use Rattle.program.specs.CommandEffects.{ReplyFails, ReplyPrinted, ServeDone, ServeFails, TalkDone, TalkFails}
pub use Rattle.program.specs.CommandEffects.{Talked, Tells, TrialDone, TrialFails, channels, complaint_of, ended_by}
pub use Rattle.program.specs.CommandEffects.{line_feed, preview_result}
pub use Rattle.program.specs.Connections.{AreSessions, Connection, History, IsHeard, SessionsLeaveOpen, StaysFoundOrAny}
pub use Rattle.program.specs.Connections.{WereBusyWith, after_failing, after_leaving, after_listening, after_one}
pub use Rattle.program.specs.KeptOffices.{AreTablesAfter, AreTablesOf, IsAmong, IsRecovered, KeepsCommits}
pub use Rattle.program.specs.OpenedFiles.{AreHeld, HoldsOffice, IsFound, IsInTheStateThatWasLeft}
pub use Rattle.program.specs.Stores.{HasNoOffice, HasServed, HasTakenIn, IsBroughtOver, IsMade, IsNotBroughtOver}
pub use Rattle.program.specs.Stores.{IsNotMade, IsOpened, IsTalkedWith, WasBusy, WhatWasBroughtOverIsHeld}
pub use Rattle.program.specs.Stores.{WhatWasMadeIsHeld, WhatWasNotMadeIsLeft, WhatWasSaidIsHeld, WhatWasServedIsHeld}
pub use Rattle.program.specs.Stores.{WhatWasTakenInIsHeld}
pub use Rattle.program.specs.Streams.{AgreesWithCalls, HaveMade, Prints, PrintsPart}
pub use Rattle.program.specs.Tasks.{AreGiven, AreRefused, AreRefusedFor, IsTaskOf, IsWords, fault_of_settings}
pub use Rattle.program.specs.declared.faults.Fault.{Fault}
pub use Rattle.program.specs.declared.faults.Fault.TheVariants.{Date, File, Memory, Net, NotSound, Refused, Session}
pub use Rattle.program.specs.declared.faults.Fault.TheVariants.{Settings, Words}
