-- Calls that read, and what they tell for what calls them.
use Rattle.std.proofs.Common.{Result, Ok, Err, OnErr, OnOk, subst, sym}
use Rattle.std.proofs.lemmas.Result.{IfOk-weaker}
use Rattle.sqlite.specs.State.{State}
use Rattle.sqlite_trees.specs.declared.store.Store as store
use Rattle.office_tables.specs.Calls.{Answers}
use Rattle.public_queries.proofs.Common.{Database, HasCleanDisk, Held, IsAborted, LeavesUnchanged, StoreFault, Survives}
use Rattle.public_queries.proofs.Common.{cut_then, early, excused_then, looks_then, on_err_then, on_ok_then, state}

module _ {S X Stays Model : Type 0} (g : store.Ghosts S) (represents : Database → Stays → Model → Type 0) (kept : Model → Type 0) (before after : Held S) (r : Result X StoreFault) where
  pub tells_as : (may more : Model → Type 0) (told answer : Stays → Model → X → Type 0) → ((m : Model) → more m → may m)
      → ((s : Stays) (m : Model) (x : X) → told s m x → answer s m x)
      → Answers g represents before after r may kept told → Answers g represents before after r more kept answer
  tells_as may more told answer allows means it = record {
    answers = λ clean s m shown. IfOk-weaker r (told s m) (answer s m) (means s m) (it.answers clean s m shown);
    looks = it.looks;
    aborts = it.aborts;
    faults = λ s m shown allowed within. it.faults s m shown (allows m allowed) within;
  }

-- a call that reads, after another that did
module _ {S X Stays Model : Type 0} (g : store.Ghosts S) (represents : Database → Stays → Model → Type 0) (kept : Model → Type 0) (before mid after : Held S) (r : Result X StoreFault) where
  abbrev a : State
  a = state g before

  abbrev b : State
  b = state g mid

  abbrev c : State
  c = state g after

  looked_crash : {E : Type 0} (r : Result X E) → OnOk r (LeavesUnchanged b c) → OnErr r (IsAborted b c)
      → Survives b c (λ _. ⊥)
  looked_crash (Ok x) looks cut = looks.goes.on.crash
  looked_crash (Err e) looks cut = cut.crash

  pub tells_then : (may more : Model → Type 0) (told answer : Stays → Model → X → Type 0) → LeavesUnchanged a b
      → (HasCleanDisk b → (s : Stays) (m : Model) → represents a.now s m → more m → may m)
      → (HasCleanDisk b → (s : Stays) (m : Model) → represents a.now s m → (x : X) → told s m x → answer s m x)
      → Answers g represents mid after r may kept told → Answers g represents before after r more kept answer
  tells_then may more told answer looked allows means last =
      let still = λ (clean : HasCleanDisk c). early (looked_crash r last.looks last.aborts) clean in
      let shown = λ (at_b : HasCleanDisk b) (s : Stays) (m : Model) (it : represents a.now s m). subst (λ (db : Database). represents db s m) (sym (looked.same at_b)) it in
      record {
        answers = λ clean s m it. IfOk-weaker r (told s m) (answer s m) (means (still clean) s m it) (last.answers clean s m (shown (still clean) s m it));
        looks = on_ok_then r (LeavesUnchanged b c) (LeavesUnchanged a c) (λ on. looks_then looked on) last.looks;
        aborts = on_err_then r (IsAborted b c) (IsAborted a c) (λ cut. cut_then looked.goes.on cut) last.aborts;
        faults = λ s m it allowed within. excused_then _ looked.goes.on r last.aborts (λ at_b. last.faults s m (shown at_b s m it) (allows at_b s m it allowed) within);
      }
