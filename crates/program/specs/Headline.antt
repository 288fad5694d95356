-- What an archivist can be promised about an office over nested sets, in memory and in a file.
use Rattle.std.specs.Prelude.{◌⊎◌, IsTrue, List}
use Rattle.std.specs.List.{AllByRecursion}
use Rattle.sqlite.specs.Files.{file_state, over_files}
use Rattle.sqlite.specs.Held.{Held}
use Rattle.sqlite.specs.Recovery.{Image}
use Rattle.sqlite.specs.State.{HasCleanDisk}
use Rattle.sqlite.specs.Steps.{over_memory}
use Rattle.sqlite_disk.specs.declared.Disk.{Ghosts}
use Rattle.sqlite_disk.specs.declared.Files.{Files}
use Rattle.sqlite_store.specs.declared.store.FileStore.{FileStore}
use Rattle.sqlite_trees.specs.declared.memory.MemStore.{MemStore}
use Rattle.http_desk.specs.Headline.{IsOneRun}
use Rattle.http_desk.specs.Runs.{AllHappen, AreVisits, CallsNameDays, Visit, VisitsLeaveOpen}
use Rattle.nested_sets.specs.Representation.{RepresentsSpanRows}
use Rattle.office.specs.InitialSettings.{Founding, founded}
use Rattle.office.specs.IdleOffice.{has_clean_disk, is_shown, is_still_open}
use Rattle.office_core.specs.SoundOffice.{IsSoundOffice}
use Rattle.office_core.specs.State.{State}
use Rattle.refinement.specs.Representation.{RepresentsState}
use Rattle.office_tables.specs.Versions.{Second}
use Rattle.program.specs.ClosedFiles.{HasLeft, HaveCleanDisk, HoldState}
use Rattle.program.specs.OpenedFiles.{HoldsOffice, IsFound}

-- For a new office in the engine's store in memory, after any sessions, and any calls whose commands name days of the
-- calendar: the machine has carried out the commands among them, from the state in which the office began, and the
-- rules are kept at each point.
abbrev pub TheHeadlineInMemory : Type 0
TheHeadlineInMemory =
    (founding : Founding) (visits : List Visit) (old new : Held MemStore)
    → is_shown over_memory RepresentsSpanRows Second old (founded founding)
    → AreVisits (is_shown over_memory RepresentsSpanRows Second) (has_clean_disk over_memory) (is_still_open over_memory)
    old new visits
    → AllByRecursion CallsNameDays visits
    → (t : State) × is_shown over_memory RepresentsSpanRows Second new t
    × (happen : AllHappen (founded founding) visits t) × IsOneRun (founded founding) visits t happen

module _ {D : Type 0} (g : Ghosts D) where
  -- The same for a new office in the store of files. If the last message or call was a command that was accepted, or if
  -- there was none and the office was open at first, the tables are those of the machine's state. They are so after
  -- anything else, too, unless a failed write had shut the office.
  abbrev pub TheHeadlineOfATrial : Type 0
  TheHeadlineOfATrial =
      (founding : Founding) (visits : List Visit) (old new : Held (FileStore D g))
      → is_shown (over_files {g = g}) RepresentsSpanRows Second old (founded founding)
      → AreVisits (is_shown (over_files {g = g}) RepresentsSpanRows Second) (has_clean_disk (over_files {g = g}))
      (is_still_open (over_files {g = g})) old new visits
      → AllByRecursion CallsNameDays visits
      → (t : State) × is_shown (over_files {g = g}) RepresentsSpanRows Second new t
      × (happen : AllHappen (founded founding) visits t) × IsOneRun (founded founding) visits t happen
      × (VisitsLeaveOpen (IsTrue (file_state old).is_open) (founded founding) visits t happen
      → RepresentsState RepresentsSpanRows Second (file_state new).now t)

module _ {D : Type 0} (g : Ghosts D) (image : Image) where
  -- The same for a sound office that a file held when it was opened, and that is closed again, if the disk has returned
  -- what was written. If the last message or call was a command that was accepted, the file and its log then hold the
  -- office in the machine's state. They also do so after anything else, unless a failure of the disk had shut the
  -- office.
  abbrev pub TheHeadlineInAFile : Type 0
  TheHeadlineInAFile =
      (s : State) (visits : List Visit) (old new : Held (FileStore D g)) (files : Files D)
      → (HasCleanDisk (file_state old) → IsFound image (file_state old)) → HoldsOffice image s → IsSoundOffice s
      → AreVisits (is_shown over_files RepresentsSpanRows Second) (has_clean_disk over_files) (is_still_open over_files)
      old new visits
      → AllByRecursion CallsNameDays visits
      → HasLeft new files → HaveCleanDisk g files
      → (t : State) × (happen : AllHappen s visits t) × IsOneRun s visits t happen
      × (VisitsLeaveOpen (IsTrue (file_state old).is_open) s visits t happen ⊎ IsTrue (file_state new).is_open
      → HoldState g files t)
