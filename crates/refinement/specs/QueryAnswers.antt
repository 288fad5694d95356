-- What a question does inside its transaction.
use Rattle.std.specs.Prelude.{◌≡◌, ℕ, IfOk, OnOk, OnErr, Result}
use Rattle.sqlite_trees.specs.declared.store.Store as trees
use Rattle.sqlite.specs.Held.{Held, state}
use Rattle.sqlite.specs.State as store
use Rattle.sqlite.specs.State.{HasCleanDisk}
use Rattle.sqlite.specs.Tree.{Trees}
use Rattle.tree_core.specs.Forest.{Forest}
use Rattle.office_tables.specs.Versions.{Version}
use Rattle.office_core.specs.Queries.{answer}
use Rattle.office_core.specs.SoundOffice.{IsSoundOffice}
use Rattle.office_core.specs.State.{State}
use Rattle.office_core.specs.declared.query.Query.{Query}
use Rattle.office_core.specs.declared.query.Answer.{Answer}
use Rattle.office_tables.specs.Faults.{FaultsHaveCause}
use Rattle.office_tables.specs.Step.{LeavesUnchanged, IsAborted}
use Rattle.office_tables.specs.declared.fault.StoreFault.{StoreFault}
use Rattle.refinement.specs.Representation.{RepresentsState}

-- Over the tables of a sound office, the answer is the machine's, and no row is changed. The call fails only for want
-- of memory, because of the disk, or outside a transaction, and the transaction is then aborted.
pub record AnswersQuery (places : Trees → Forest ℕ → Type 0) (version : Version) (asked : Query) (old new : store.State) (r : Result Answer StoreFault) : Type 0 where
  pub answers : HasCleanDisk new → (s : State) → IsSoundOffice s → RepresentsState places version old.now s → IfOk r (λ told. told ≡ answer s asked)
  pub looks : OnOk r (LeavesUnchanged old new)
  pub aborts : OnErr r (IsAborted old new)
  pub faults : (s : State) → IsSoundOffice s → RepresentsState places version old.now s → FaultsHaveCause old new r

-- the same of the tables that a call is lent: a question's contract
abbrev pub Responds : {S : Type 0} → (Trees → Forest ℕ → Type 0) → Version → trees.Ghosts S → Query → Held S → Held S → Result Answer StoreFault → Type 0
Responds places version g asked before after r = AnswersQuery places version asked (state g before) (state g after) r
