-- What answering a question does inside its transaction, if something is known about the office.
use Rattle.std.specs.Prelude.{◌≡◌, ℕ, IfOk, OnOk, OnErr, Result}
use Rattle.sqlite_trees.specs.declared.store.Store as trees
use Rattle.sqlite.specs.Held.{Held, state}
use Rattle.sqlite.specs.State as store
use Rattle.sqlite.specs.State.{HasCleanDisk}
use Rattle.sqlite.specs.Tree.{Trees}
use Rattle.tree_core.specs.Forest.{Forest}
use Rattle.office_tables.specs.Versions.{Version}
use Rattle.office_core.specs.Queries.{answer}
use Rattle.office_core.specs.SoundOffice.{IsSoundOffice}
use Rattle.office_core.specs.State.{State}
use Rattle.office_core.specs.declared.query.Query.{Query}
use Rattle.office_core.specs.declared.query.Answer.{Answer}
use Rattle.office_tables.specs.Faults.{FaultsHaveCause}
use Rattle.office_tables.specs.Step.{LeavesUnchanged, IsAborted}
use Rattle.office_tables.specs.declared.fault.StoreFault.{StoreFault}
use Rattle.refinement.specs.Representation.{RepresentsState}

-- Over the tables of a sound office about which this much is known, the answer is the one of the rules, and nothing is
-- changed. The call fails only for want of memory, because of the disk, or outside a transaction. The transaction then
-- goes on, or was rolled back.
pub record AnswersKnowing (places : Trees → Forest ℕ → Type 0) (version : Version) (known : State → Type 0) (asked : Query) (old new : store.State) (r : Result Answer StoreFault) : Type 0 where
  pub answers : HasCleanDisk new → (s : State) → IsSoundOffice s → known s → RepresentsState places version old.now s → IfOk r (λ told. told ≡ answer s asked)
  pub looks : OnOk r (LeavesUnchanged old new)
  pub aborts : OnErr r (IsAborted old new)
  pub faults : (s : State) → IsSoundOffice s → known s → RepresentsState places version old.now s → FaultsHaveCause old new r

-- the same of the tables that a call is lent: a public question's contract
abbrev pub RespondsKnowing : {S : Type 0} → (Trees → Forest ℕ → Type 0) → Version → trees.Ghosts S → (State → Type 0) → Query → Held S → Held S → Result Answer StoreFault → Type 0
RespondsKnowing places version g known asked before after r = AnswersKnowing places version known asked (state g before) (state g after) r
