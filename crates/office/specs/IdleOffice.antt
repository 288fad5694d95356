-- An office between its commands.
use Rattle.std.specs.Prelude.{◌≡◌, ℕ, false, IsTrue}
use Rattle.sqlite_trees.specs.declared.store.Store as trees
use Rattle.sqlite.specs.Held.{Held, state}
use Rattle.sqlite.specs.State as store
use Rattle.sqlite.specs.State.{HasCleanDisk}
use Rattle.sqlite.specs.Tree.{Trees}
use Rattle.tree_core.specs.Forest.{Forest}
use Rattle.office_tables.specs.Versions.{Version}
use Rattle.office_core.specs.SoundOffice.{IsSoundOffice}
use Rattle.office_core.specs.State.{State}
use Rattle.office_tables.specs.Faults.{IsUnlimited}
use Rattle.office_tables.specs.Schema.{schema}
use Rattle.refinement.specs.Representation.{RepresentsState}

-- No transaction is open; and while the connection is open, it has our tables as they were committed.
pub record IsAtRest (version : Version) (at : store.State) : Type 0 where
  pub ended : at.in_transaction ≡ false
  pub schema_is : IsTrue at.is_open → at.now.schema ≡ schema version
  pub settled : IsTrue at.is_open → at.now ≡ at.committed

-- the connection is an office's, as long as the disk is clean, and sets no limit on the steps of a statement
pub record IsOffice (version : Version) (at : store.State) : Type 0 where
  pub unlimited : IsUnlimited at
  pub rests : HasCleanDisk at → IsAtRest version at

-- the office is in this state, unless a failure of the disk has shut the connection
abbrev pub IsIn : (Trees → Forest ℕ → Type 0) → Version → State → store.State → Type 0
IsIn places version s at = IsTrue at.is_open → RepresentsState places version at.now s

-- the office that has this connection is in this state, which is sound
abbrev pub is_shown : {S : Type 0} → trees.Ghosts S → (Trees → Forest ℕ → Type 0) → Version → Held S → State → Type 0
is_shown g places version office s = IsSoundOffice s × IsIn places version s (state g office)

-- its disk has returned what was written to it
abbrev pub has_clean_disk : {S : Type 0} → trees.Ghosts S → Held S → Type 0
has_clean_disk g office = HasCleanDisk (state g office)

-- no failure of the disk has shut its connection
abbrev pub is_still_open : {S : Type 0} → trees.Ghosts S → Held S → Type 0
is_still_open g office = IsTrue (state g office).is_open

-- no transaction is open, and while the connection is open, the tables are as they were
pub record IsAsBefore (old new : store.State) : Type 0 where
  pub was_open : IsTrue new.is_open → IsTrue old.is_open
  pub now : IsTrue new.is_open → new.now ≡ old.now
  pub committed : IsTrue new.is_open → new.committed ≡ old.committed
  pub ended : new.in_transaction ≡ false
