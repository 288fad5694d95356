-- A call that reads, and whose last step is another call that reads.
use Rattle.std.proofs.Common.{Result}
use Rattle.std.proofs.lemmas.Result.{IfOk-weaker}
use Rattle.sqlite_trees.specs.declared.store.Store as store
use Rattle.catalogue_store.proofs.Common.{Database, HasCleanDisk, Held, IsAborted, LeavesUnchanged, State, StoreAnswers}
use Rattle.catalogue_store.proofs.Common.{StoreFault, cut_then, early, excused_then, if_ok_by, last_spares, looks_then}
use Rattle.catalogue_store.proofs.Common.{on_err_then, on_ok_then, state}

module _ {S X Stays Part Model Share : Type 0} (g : store.Ghosts S) (represents : Database → Stays → Model → Type 0) (kept may : Model → Type 0) (represents_part : Database → Part → Share → Type 0) (kept_part may_part : Share → Type 0)
    (before mid after : Held S) (r : Result X StoreFault) (answer : Stays → Model → X → Type 0) (answer_part : Part → Share → X → Type 0) where
  abbrev a : State
  a = state g before

  abbrev b : State
  b = state g mid

  abbrev c : State
  c = state g after

  -- what the last step reads represents a share of the model, and its answer is the call's
  pub record Shares (s : Stays) (m : Model) : Type 0 where
    pub part : Part
    pub share : Share
    pub shown : represents_part b.now part share
    pub turn : (x : X) → answer_part part share x → answer s m x
    pub allowed : may m → kept m → may_part share × kept_part share

  pub answers_later : LeavesUnchanged a b
      → ((s : Stays) (m : Model) → represents a.now s m → HasCleanDisk b → Shares s m)
      → StoreAnswers g represents_part mid after r may_part kept_part answer_part
      → StoreAnswers g represents before after r may kept answer
  answers_later looked shares told = record {
    call = record {
      answers = λ clean s m it.
          if_ok_by r (LeavesUnchanged b c) (answer s m)
          (λ last.
          let of = shares s m it (early last.goes.on.crash clean) in
          IfOk-weaker r (answer_part of.part of.share) (answer s m) of.turn (told.answers clean of.part of.share of.shown))
          told.looks;
      looks = on_ok_then r (LeavesUnchanged b c) (LeavesUnchanged a c) (looks_then looked) told.looks;
      aborts = on_err_then r (IsAborted b c) (IsAborted a c) (cut_then looked.goes.on) told.aborts;
      faults = λ s m it allowed within. excused_then _ looked.goes.on r told.aborts (λ before.
          let of = shares s m it before in
          let both = of.allowed allowed within in
          told.faults of.part of.share of.shown both.0 both.1);
    };
    spares = λ clean. last_spares a b c looked r told.aborts clean (told.spares clean);
  }
