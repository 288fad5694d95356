-- The transaction of a command, which is committed if it is accepted, and that of a question, which is rolled back.
use Rattle.std.specs.Prelude.{◌≡◌, ℕ, true, Result, IfErr, IfOk, IsErr, IsOk, IsTrue, OnErr, OnOk}
use Rattle.sqlite_trees.specs.declared.store.Store as trees
use Rattle.sqlite.specs.Held.{Held, state}
use Rattle.sqlite.specs.State as store
use Rattle.sqlite.specs.State.{HasCleanDisk, Survives}
use Rattle.sqlite.specs.Tree.{Trees}
use Rattle.tree_core.specs.Forest.{Forest}
use Rattle.office_tables.specs.Versions.{Version}
use Rattle.office_core.specs.Json.{reply_text}
use Rattle.office_core.specs.Queries.{answer}
use Rattle.office_core.specs.SoundOffice.{IsSoundOffice}
use Rattle.office_core.specs.State.{State}
use Rattle.office_core.specs.declared.command.Command.{Command}
use Rattle.office_core.specs.declared.machine.Reply.{Reply}
use Rattle.office_core.specs.declared.query.Answer.{Answer}
use Rattle.office_core.specs.declared.query.Query.{Query}
use Rattle.office_tables.specs.Faults.{FaultsHaveCause, HasOuterCause}
use Rattle.office_tables.specs.Step.{Goes, IsAborted, OnlyTouches}
use Rattle.office_tables.specs.declared.fault.StoreFault.{StoreFault}
use Rattle.desk_commands.specs.SparedCatalogue.{reading_room_trees, spares_catalogue}
use Rattle.refinement.specs.CommandSteps.{CarriesOutStep}
use Rattle.refinement.specs.Representation.{RepresentsState}
use Rattle.office.specs.IdleOffice.{IsAsBefore, IsIn, IsOffice}
use Rattle.office.specs.OfficeCall.{MayFind, TakesStep}

module _ {S : Type 0} (places : Trees → Forest ℕ → Type 0) (version : Version) (g : trees.Ghosts S) (before after : Held S) where
  abbrev old : store.State
  old = state g before

  abbrev new : store.State
  new = state g after

  -- The call carries out the command's step over the tables of a sound office, and makes the bytes of the reply. It
  -- fails only for want of memory, because of the disk, or outside a transaction. The transaction goes on if the call
  -- succeeds, and is aborted if it fails. A command of the reading room leaves the catalogue as it is.
  pub record Replies (asked : Command) (r : Result Reply StoreFault) : Type 0 where
    pub steps : HasCleanDisk new → (s : State) → IsSoundOffice s → RepresentsState places version old.now s → IfOk r (λ reply. CarriesOutStep places version s asked reply.done new.now)
    pub only : spares_catalogue asked ≡ true → HasCleanDisk new → OnOk r (OnlyTouches reading_room_trees old.now new.now)
    pub bytes : IfOk r (λ reply. reply.json ≡ reply_text reply.done)
    pub goes : OnOk r (Goes old new)
    pub aborts : OnErr r (IsAborted old new)
    pub faults : (s : State) → IsSoundOffice s → RepresentsState places version old.now s → FaultsHaveCause old new r

  -- The call carries out a command in a transaction of its own. An accepted command is committed, and the connection is
  -- open. A refusal and a fault change nothing. A crash finds what was committed before, or the state of the step. A
  -- command of the reading room leaves the catalogue as it is.
  pub record Applies (asked : Command) (r : Result Reply StoreFault) : Type 0 where
    pub office : IsOffice version new
    pub steps : HasCleanDisk new → (s : State) → IsSoundOffice s → IsIn places version s old → IfOk r (λ reply. TakesStep places version s asked reply.done new)
    pub was_open : HasCleanDisk new → IsTrue new.is_open → IsTrue old.is_open
    pub kept : HasCleanDisk new → IfOk r (λ reply. IsOk reply.done → IsTrue new.is_open)
    pub only : spares_catalogue asked ≡ true → HasCleanDisk new → IfOk r (λ reply. IsOk reply.done → OnlyTouches reading_room_trees old.now new.now)
    pub bytes : IfOk r (λ reply. reply.json ≡ reply_text reply.done)
    pub refused : HasCleanDisk new → IfOk r (λ reply. IsErr reply.done → IsAsBefore old new)
    pub busy : HasCleanDisk new → OnErr r (IsAsBefore old new)
    pub faults : HasCleanDisk new → (s : State) → IsSoundOffice s → IsIn places version s old → IfErr r (HasOuterCause old new)
    pub crash : Survives old new (MayFind places version asked old)

  -- The call answers a question in a transaction of its own, and changes nothing.
  pub record Asks (asked : Query) (r : Result Answer StoreFault) : Type 0 where
    pub office : IsOffice version new
    pub answers : HasCleanDisk new → (s : State) → IsSoundOffice s → IsIn places version s old → IfOk r (λ told. told ≡ answer s asked)
    pub same : HasCleanDisk new → IsAsBefore old new
    pub faults : HasCleanDisk new → (s : State) → IsSoundOffice s → IsIn places version s old → IfErr r (HasOuterCause old new)
    pub crash : Survives old new (λ _. ⊥)
