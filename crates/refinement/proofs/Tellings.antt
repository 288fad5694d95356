-- A call that reads, and hands on what a later call tells.
use Rattle.std.proofs.Common.{Result, Ok, Err, OnOk, OnErr}
use Rattle.sqlite.specs.Held.{Held, state}
use Rattle.sqlite.specs.State.{State}
use Rattle.sqlite_trees.specs.declared.store.Store as store
use Rattle.refinement.proofs.Common.{Database, IsAborted, LeavesUnchanged, StoreFault, Survives, ⊤}

pub looked_crash : {X E : Type 0} (r : Result X E) (a b : State) → OnOk r (LeavesUnchanged a b)
    → OnErr r (IsAborted a b) → Survives a b (λ _. ⊥)
looked_crash (Ok x) a b looks cut = looks.goes.on.crash
looked_crash (Err e) a b looks cut = cut.crash

module _ {Model : Type 0} (represents : Database → ⊤ → Model → Type 0) {S Y : Type 0} (kept : Model → Type 0) (g : store.Ghosts S) (before mid after : Held S) (r : Result Y StoreFault) where
  abbrev a : State
  a = state g before

  abbrev b : State
  b = state g mid
