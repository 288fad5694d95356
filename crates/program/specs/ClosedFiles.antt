-- What the files of a store hold after it is closed, as long as the disk has returned what was written to them.
use Rattle.std.specs.Prelude.{◌≡◌, ◌⊎◌, IfNone, IfSome, IsTrue, false, Option}
use Rattle.sqlite.specs.Closing.{HoldsAlone}
use Rattle.sqlite.specs.Files.{HoldsDatabase, file_state, image_of}
use Rattle.sqlite.specs.Held.{Held}
use Rattle.sqlite.specs.Recovery.{Image}
use Rattle.sqlite.specs.State.{HasCleanDisk, Survives}
use Rattle.sqlite.specs.Tree.{Trees}
use Rattle.sqlite_disk.specs.declared.Disk.{Ghosts}
use Rattle.sqlite_disk.specs.declared.Files.{Files}
use Rattle.sqlite_store.specs.FileStore as store
use Rattle.sqlite_store.specs.declared.store.FileStore.{FileStore}
use Rattle.sqlite_wal.specs.Files.{outcomes}
use Rattle.sqlite_wal.specs.Reads.{AreClean}
use Rattle.adoption.specs.Verdicts.{IsVerdict}
use Rattle.adoption.specs.declared.verdict.Verdict.TheVariants as verdict
use Rattle.nested_sets.specs.Representation.{RepresentsSpanRows}
use Rattle.office_core.specs.State.{State}
use Rattle.office_tables.specs.Schema.{schema}
use Rattle.refinement.specs.Representation.{RepresentsState}
use Rattle.office_tables.specs.Versions.{Second}
use Rattle.office.specs.Adoption.{HasAdoptCause}
use Rattle.office.specs.declared.faults.OpenFault.{OpenFault}
use Rattle.program.specs.OpenedFiles.{AreHeld, IsStore}

module _ {D : Type 0} (g : Ghosts D) where
  -- the disk has returned what was written to the file and to its log
  abbrev pub HaveCleanDisk : Files D → Type 0
  HaveCleanDisk files = AreClean g files.log files.db

  -- the file holds these tables, with its log and alone, as it reads now and after a crash
  pub record AreInTheFile (files : Files D) (tables : Trees) : Type 0 where
    pub now : HoldsAlone (image_of g files) tables
    pub later : (image : Image) → outcomes g files.log files.db image → HoldsAlone image tables

  -- a crash that leaves the files as they are leaves only such tables
  abbrev pub LeaveOnly : Files D → (Trees → Type 0) → Type 0
  LeaveOnly files Such =
      (last : FileStore D g) × (store.files last ≡ (files.log, files.db)) × ((found : Trees) → store.recovers last found → Such found)

  -- the tables are in the file; or they could not be copied into it, and are those that a crash leaves
  abbrev pub Hold : Files D → Trees → Type 0
  Hold files tables = AreInTheFile files tables ⊎ LeaveOnly files (λ found. found ≡ tables)

  -- the files hold the tables of an office that is in this state
  abbrev pub HoldState : Files D → State → Type 0
  HoldState files s =
      (tables : Trees) × Hold files tables × RepresentsState RepresentsSpanRows Second (record { schema = schema Second; trees = tables }) s

  -- the files hold the tables that were found in them
  abbrev pub AreAsFound : Image → Files D → Type 0
  AreAsFound image files = HaveCleanDisk files → (tables : Trees) × AreHeld image tables × Hold files tables

-- A connection outside a transaction was closed, and these are its files. If it was open, they hold its tables. If a
-- failure of the disk had shut it, they hold what a crash might have left.
pub record HasLeft {D : Type 0} {g : Ghosts D} (conn : Held (FileStore D g)) (files : Files D) : Type 0 where
  pub clean : HaveCleanDisk g files → HasCleanDisk (file_state conn)
  pub settled : HasCleanDisk (file_state conn) → IsTrue (file_state conn).is_open
      → (file_state conn).now ≡ (file_state conn).committed
  pub hold : HaveCleanDisk g files → IsTrue (file_state conn).is_open → Hold g files (file_state conn).now.trees
  pub shut : HaveCleanDisk g files → (file_state conn).is_open ≡ false → LeaveOnly g files (file_state conn).may_leave

module _ {D : Type 0} (g : Ghosts D) (image : Image) where
  -- A store was judged with this result, and closed as it was found. A fault has its cause: the tables are as it says,
  -- or the disk failed or had failed before, or there was not enough memory.
  pub record WasJudgedAsFound (judged : Option OpenFault) (files : Files D) : Type 0 where
    pub found : Held (FileStore D g)
    pub after : Held (FileStore D g)
    pub is_store : IsStore g image found
    pub crash : Survives (file_state found) (file_state after) (λ _. ⊥)
    pub same : HasCleanDisk (file_state after) → IsTrue (file_state after).is_open
        → (file_state after).now ≡ (file_state found).now
    pub sound : HasCleanDisk (file_state after) → IfNone judged (IsVerdict Second (file_state found).now verdict.Sound)
    pub cause : HasCleanDisk (file_state after)
        → IfSome judged (HasAdoptCause Second (file_state found) (file_state after))
    pub left : HasLeft after files
    pub stays : AreAsFound g image files

  -- the tables of whatever database there was before a check, the files hold afterwards
  abbrev pub ACheckChangesNothing : Type 0
  ACheckChangesNothing =
      (judged : Option OpenFault) (files : Files D) → WasJudgedAsFound judged files → HaveCleanDisk g files
      → (tables : Trees) → HoldsDatabase image tables → Hold g files tables
