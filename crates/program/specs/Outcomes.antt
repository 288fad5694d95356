-- What became of the store of a command: nothing tried to open it, or it could not be opened, or it was opened and is
-- closed again.
use Rattle.std.specs.Prelude.{◌≡◌}
use Rattle.sqlite.specs.Recovery.{Image}
use Rattle.sqlite_disk.specs.declared.Disk.{Ghosts}
use Rattle.sqlite_disk.specs.declared.Files.{Files}
use Rattle.program.specs.FailedOpenings.{CouldNotOpen, reason_of}
use Rattle.program.specs.Faults.{fault_of_file}
use Rattle.program.specs.declared.faults.Fault.{Fault}
use Rattle.program.specs.declared.files.StoreOutcome.{StoreOutcome}
use Rattle.program.specs.declared.files.StoreOutcome.TheVariants.{Untouched, Unopened, Closed}

module _ {S D : Type 0} {g : Ghosts D} where
  -- nothing tried to open the store
  abbrev pub IsUntouched : StoreOutcome S D g → Type 0
  IsUntouched (Untouched start) = Unit {0}
  IsUntouched (Unopened failed) = ⊥
  IsUntouched (Closed files) = ⊥

  -- the store could not be opened, and this is the fault; if its files were opened, they held this image
  abbrev pub IsUnopened : Image → StoreOutcome S D g → Fault → Type 0
  IsUnopened image (Untouched start) fault = ⊥
  IsUnopened image (Unopened failed) fault = (fault ≡ fault_of_file (reason_of failed)) × CouldNotOpen g image failed
  IsUnopened image (Closed files) fault = ⊥

  -- the store was opened and closed, and its files are such
  abbrev pub IsClosedAnd : StoreOutcome S D g → (Files D → Type 0) → Type 0
  IsClosedAnd (Untouched start) Are = ⊥
  IsClosedAnd (Unopened failed) Are = ⊥
  IsClosedAnd (Closed files) Are = Are files
