-- The migration of an office from version 1 to version 2: its result, what a crash may find, and the calls inside it.
use Rattle.std.specs.Prelude.{[], ◌∷◌, Result, IfErr, IsTrue, OnErr, OnOk}
use Rattle.sqlite_trees.specs.declared.store.Store as trees
use Rattle.sqlite.specs.Effect.{Database}
use Rattle.sqlite.specs.Held.{Held, state}
use Rattle.sqlite.specs.State as store
use Rattle.sqlite.specs.State.{HasCleanDisk}
use Rattle.sqlite.specs.Tree.{Trees}
use Rattle.office_tables.specs.Versions.{First, Second}
use Rattle.adoption.specs.Verdicts.{IsVerdict}
use Rattle.adoption.specs.declared.verdict.Verdict.TheVariants as verdict
use Rattle.office_core.specs.SoundOffice.{IsSoundOffice}
use Rattle.office_tables.specs.Schema as tables
use Rattle.office_tables.specs.Schema.{schema}
use Rattle.office_tables.specs.Step.{Continues, InTransaction, IsAborted, OnlyTouches}
use Rattle.adoption.specs.OrderedTables.{StandInOrder}
use Rattle.office.specs.Adoption.{HasAdoptCause, state_in}
use Rattle.office.specs.declared.faults.OpenFault.{OpenFault}
use Rattle.refinement.specs.Representation.{RepresentsState}
use Rattle.nested_sets.specs.Representation.{RepresentsSpanRows}

-- ---- of tables of any origin

-- The tables were a sound office's of version 1, and are now those of one of version 2, in the same state. The table of
-- nested sets has replaced that of links, the office's row has the new version, and no other table has other rows. The
-- state is told of tables whose rows stood in order.
pub record IsMigrated (old new : Database) : Type 0 where
  pub judged : IsVerdict First old verdict.Sound
  pub sound : StandInOrder old → IsSoundOffice (state_in First old.trees)
  pub represents : StandInOrder old → RepresentsState RepresentsSpanRows Second new (state_in First old.trees)
  pub only : OnlyTouches (tables.office.tree ∷ tables.link.tree ∷ []) old new

-- in addition to what it might have found before: all of that
abbrev pub MayFindMigrated : store.State → Trees → Type 0
MayFindMigrated old db = IsMigrated old.now (record { schema = schema Second; trees = db })

-- ---- the calls

module _ {S : Type 0} (g : trees.Ghosts S) (before after : Held S) where
  abbrev old : store.State
  old = state g before

  abbrev new : store.State
  new = state g after

  -- Inside a transaction, the call judges tables of any origin, and brings them to version 2 if they are a sound
  -- office's of version 1. Otherwise the fault says why no office of version 1 can be opened over them.
  pub record MigratesIfSound {X : Type 0} (r : Result X OpenFault) : Type 0 where
    pub same : HasCleanDisk new → IsTrue old.is_open → OnOk r (IsMigrated old.now new.now)
    pub inside : OnOk r (InTransaction Second new)
    pub goes : OnOk r (Continues old new)
    pub aborts : OnErr r (IsAborted old new)
    pub cause : HasCleanDisk new → IsTrue old.is_open → IfErr r (HasAdoptCause First old new)
