-- What a file held when it was opened, and the office that was found there.
use Rattle.std.specs.Prelude.{◌≡◌, IsTrue}
use Rattle.sqlite.specs.Effect.{Database}
use Rattle.sqlite.specs.Files.{AreFoundIn, HoldsDatabase, file_state}
use Rattle.sqlite.specs.Held.{Held}
use Rattle.sqlite.specs.Recovery.{Image}
use Rattle.sqlite.specs.State as store
use Rattle.sqlite.specs.State.{HasCleanDisk}
use Rattle.sqlite.specs.Tree.{Trees}
use Rattle.sqlite_disk.specs.declared.Disk.{Ghosts}
use Rattle.sqlite_store.specs.declared.store.FileStore.{FileStore}
use Rattle.adoption.specs.Verdicts.{IsVerdict}
use Rattle.adoption.specs.declared.verdict.Verdict.TheVariants as verdict
use Rattle.office_core.specs.SoundOffice.{IsSoundOffice}
use Rattle.office_core.specs.State.{State}
use Rattle.program.specs.Rows.{StandInOrder}
use Rattle.office_tables.specs.Schema.{schema}
use Rattle.office.specs.Adoption.{state_in}
use Rattle.office.specs.IdleOffice.{IsIn}
use Rattle.refinement.specs.Representation.{RepresentsState}
use Rattle.nested_sets.specs.Representation.{RepresentsSpanRows}
use Rattle.office_tables.specs.Versions.{Second}

-- the file and its log hold these tables; if they hold no database yet, there are none
pub record AreHeld (image : Image) (tables : Trees) : Type 0 where
  pub holds : (others : Trees) → HoldsDatabase image others → tables ≡ others
  pub reads : AreFoundIn image tables

-- the file and its log hold the tables of an office that is in this state
abbrev pub HoldsOffice : Image → State → Type 0
HoldsOffice image s =
    (tables : Trees) × HoldsDatabase image tables × RepresentsState RepresentsSpanRows Second (record { schema = schema Second; trees = tables }) s

-- The file's tables are those of a sound office, and their rows have ascending whole numbers. The connection is open,
-- and has these tables. The office is in the state in which the tables were left. Whoever wrote them, it is in the state
-- that their rows describe, and that state is sound.
pub record IsFound (image : Image) (at : store.State) : Type 0 where
  pub found : Database
  pub held : AreHeld image found.trees
  pub ordered : StandInOrder found
  pub verdict : IsVerdict Second found verdict.Sound
  pub kept : IsTrue at.is_open
  pub same : IsTrue at.is_open → at.now ≡ found
  pub left : (s : State) → HoldsOffice image s → IsIn RepresentsSpanRows Second s at
  pub represents : IsIn RepresentsSpanRows Second (state_in Second found.trees) at
  pub sound : IsTrue at.is_open → IsSoundOffice (state_in Second found.trees)

-- The tables found in a file are in the state that was left there: if the file holds an office in this state, and the
-- tables found are those of a sound office, they represent this state.
abbrev pub IsInTheStateThatWasLeft : Image → State → Database → Type 0
IsInTheStateThatWasLeft image s found =
    HoldsOffice image s → AreHeld image found.trees → IsVerdict Second found verdict.Sound → RepresentsState RepresentsSpanRows Second found s

module _ {D : Type 0} (g : Ghosts D) (image : Image) where
  -- the tables of a store, as it was found: the image holds them, and their rows have ascending whole numbers
  abbrev pub IsStore : Held (FileStore D g) → Type 0
  IsStore found = HasCleanDisk (file_state found)
      → AreHeld image (file_state found).now.trees × StandInOrder (file_state found).now
