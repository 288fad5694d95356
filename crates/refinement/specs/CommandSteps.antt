-- What a command does inside its transaction.
use Rattle.std.specs.Prelude.{◌≡◌, ℕ, ⊤, IsOk, IfOk, OnOk, OnErr, Result}
use Rattle.sqlite_trees.specs.declared.store.Store as trees
use Rattle.sqlite.specs.Effect.{Database}
use Rattle.sqlite.specs.Held.{Held, state}
use Rattle.sqlite.specs.State as store
use Rattle.sqlite.specs.State.{HasCleanDisk}
use Rattle.sqlite.specs.Tree.{Trees}
use Rattle.tree_core.specs.Forest.{Forest}
use Rattle.office_tables.specs.Versions.{Version}
use Rattle.office_core.specs.Rules.{Reply, step}
use Rattle.office_core.specs.SoundOffice.{IsSoundOffice}
use Rattle.office_core.specs.State.{State}
use Rattle.office_core.specs.declared.command.Command.{Command}
use Rattle.office_tables.specs.Faults.{FaultsHaveCause}
use Rattle.office_tables.specs.Step.{Goes, IsAborted}
use Rattle.office_tables.specs.declared.fault.StoreFault.{StoreFault}
use Rattle.refinement.specs.Representation.{RepresentsState}

-- The reply is that of the step. If the command is accepted, the tables represent the next state. If it is refused, nothing
-- is said of the rows: the caller rolls back what was done.
pub record CarriesOutStep (places : Trees → Forest ℕ → Type 0) (version : Version) (s : State) (asked : Command) (reply : Reply) (now : Database) : Type 0 where
  pub told : reply ≡ (step s asked).1
  pub represents : IsOk reply → RepresentsState places version now (step s asked).0

-- Over the tables of a sound office for which `known` holds, the call carries out the command's step, and it fails only
-- for want of memory, because of the disk, or outside a transaction. The transaction goes on if the call succeeds, and is
-- aborted if it fails.
pub record CarriesOut (places : Trees → Forest ℕ → Type 0) (version : Version) (known : State → Type 0) (asked : Command) (old new : store.State) (r : Result Reply StoreFault) : Type 0 where
  pub steps : HasCleanDisk new → (s : State) → IsSoundOffice s → known s → RepresentsState places version old.now s → IfOk r (λ reply. CarriesOutStep places version s asked reply new.now)
  pub goes : OnOk r (Goes old new)
  pub aborts : OnErr r (IsAborted old new)
  pub faults : (s : State) → IsSoundOffice s → known s → RepresentsState places version old.now s → FaultsHaveCause old new r

-- the same of the tables that a call is lent: what a part of a command does
abbrev pub PerformsKnowing : {S : Type 0} → (Trees → Forest ℕ → Type 0) → Version → trees.Ghosts S → (State → Type 0) → Command → Held S → Held S → Result Reply StoreFault → Type 0
PerformsKnowing places version g known asked before after r = CarriesOut places version known asked (state g before) (state g after) r

-- over the tables of any sound office: a command's contract
abbrev pub Performs : {S : Type 0} → (Trees → Forest ℕ → Type 0) → Version → trees.Ghosts S → Command → Held S → Held S → Result Reply StoreFault → Type 0
Performs places version g asked before after r = PerformsKnowing places version g (λ _. ⊤) asked before after r
