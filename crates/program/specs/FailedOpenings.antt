-- Why a store could not be opened, and what is left of its files.
use Rattle.std.specs.Prelude.{◌≡◌, ◌≢◌, ⊤}
use Rattle.sqlite.specs.Files.{FailsToOpenFiles, IsCleanLeft, LeavesFiles, image_of}
use Rattle.sqlite.specs.Recovery.{Image}
use Rattle.sqlite.specs.declared.error.Error.{Error}
use Rattle.sqlite.specs.declared.error.Error.TheVariants.{SqliteFailure}
use Rattle.sqlite.specs.declared.error.ErrorCode.TheVariants.{OutOfMemory}
use Rattle.sqlite.specs.declared.file.Leftover.{Leftover}
use Rattle.sqlite_disk.specs.declared.Disk.{Ghosts}
use Rattle.sqlite_disk.specs.declared.Files.{Files}
use Rattle.program.specs.declared.files.FailedOpening.{FailedOpening}
use Rattle.program.specs.declared.files.FailedOpening.TheVariants.{Untried, TooShort, NoFiles, NoStore}
use Rattle.program.specs.declared.files.FileFault.{FileFault}
use Rattle.program.specs.declared.files.FileFault.TheVariants.{Memory, Absent, Unopened}

-- the reason that an error of an opening gives
abbrev pub reason_of_error : Error → FileFault
reason_of_error (SqliteFailure OutOfMemory) = Memory
reason_of_error _ = Unopened

module _ {S D : Type 0} {g : Ghosts D} where
  abbrev pub reason_of : FailedOpening S D g → FileFault
  reason_of (Untried why start) = why
  reason_of (TooShort start) = Unopened
  reason_of (NoFiles why) = why
  reason_of (NoStore why left) = why

module _ {D : Type 0} (g : Ghosts D) (image : Image) where
  -- The files of a store were opened, and held these bytes, but no store was opened on them. As long as the disk has
  -- returned what was written, that has its cause: there was not enough memory, or the disk failed, or the bytes are no
  -- database or too long for one. And a crash then leaves of the files only what the toolchain allows.
  pub record HasNoStore (why : FileFault) (left : Leftover D g) : Type 0 where
    pub files : Files D
    pub found : image_of g files ≡ image
    pub error : Error
    pub told : why ≡ reason_of_error error
    pub cause : IsCleanLeft left → FailsToOpenFiles files left error
    pub leaves : IsCleanLeft left → LeavesFiles files left

  -- A store could not be opened. Nothing tried to open it, or its file was found too short; or the system did not open its
  -- files, and no cause is known; or its files were opened, held these bytes, and no store was opened on them.
  abbrev pub CouldNotOpen : {S : Type 0} → FailedOpening S D g → Type 0
  CouldNotOpen (Untried why start) = why ≢ Unopened
  CouldNotOpen (TooShort start) = ⊤
  CouldNotOpen (NoFiles why) = why ≢ Absent
  CouldNotOpen (NoStore why left) = HasNoStore why left
