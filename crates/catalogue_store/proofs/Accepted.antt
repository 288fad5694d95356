-- A call that reads or writes once it has read that it may.
use Rattle.std.proofs.Common.{◌≡◌, ◌&&◌, ◌∙◌, inl, refl, ℕ, Bool, true, false, List, Ok, Err, Result, sym, subst}
use Rattle.sqlite_trees.specs.declared.store.Store as store
use Rattle.office_tables.proofs.LaterCauses.{next_cause}
use Rattle.office_tables.specs.declared.fault.StoreFault.TheVariants as fault
use Rattle.catalogue_store.proofs.Common.{Database, HasCleanDisk, Held, LeavesUnchanged, OnlyTouches, State}
use Rattle.catalogue_store.proofs.Common.{StoreAnswers, StoreFault, StoreUpdates, cut_after, cut_then, early}
use Rattle.catalogue_store.proofs.Common.{false≢true, goes_then, looked_spares, looks_then, makes_well, same_untouched}
use Rattle.catalogue_store.proofs.Common.{state, still_unlimited, tells_well, ⊤}

pub both_true : (x y : Bool) → (x && y) ≡ true → (x ≡ true) × (y ≡ true)
both_true true y h = (refl, h)
both_true false y h = absurd (false≢true h)

pub not_both : (x y : Bool) → (x && y) ≡ false → x ≡ true → y ≡ true → ⊥
not_both x y none first then = (let all : (x && y) ≡ true = rw (first, then) refl in false≢true (sym none ∙ all))

-- a call that reads, after another
module _ {S Stays Model : Type 0} (g : store.Ghosts S) (represents : Database → Stays → Model → Type 0) (kept : Model → Type 0) (before mid : Held S) (looked : LeavesUnchanged (state g before) (state g mid)) where
  pub tells_after : {X : Type 0} (after : Held S) (r : Result X StoreFault) (told answer : Stays → Model → X → Type 0)
      → (HasCleanDisk (state g mid) → (s : Stays) (m : Model) → represents (state g before).now s m → (x : X) → told s m x → answer s m x)
      → StoreAnswers g represents mid after r (λ _. ⊤) kept told
      → StoreAnswers g represents before after r (λ _. ⊤) kept answer
  tells_after after (Ok x) told answer turn it =
      let a = state g before in
      let b = state g mid in
      let c = state g after in
      let back = early it.looks.goes.on.crash in
      tells_well (looks_then looked it.looks)
      (λ clean s m shown. turn (back clean) s m shown x (it.answers clean s m (subst (λ (db : Database). represents db s m) (sym (looked.same (back clean))) shown)))
  tells_after after (Err e) told answer turn it =
      let a = state g before in
      let b = state g mid in
      let c = state g after in
      record {
        call = record {
          answers = λ clean s m shown. tt;
          looks = tt;
          aborts = cut_then looked.goes.on it.aborts;
          faults = λ s m shown allowed within clean free.
              next_cause a b c looked.goes.on it.aborts clean e (λ cleaner. it.faults s m (subst (λ (db : Database). represents db s m) (sym (looked.same cleaner)) shown) tt within clean (still_unlimited a b looked.goes.on free));
        };
        spares = λ clean. looked_spares looked (early it.aborts.crash clean) e (it.spares clean);
      }

-- a call that writes
module _ {S Stays Model : Type 0} (g : store.Ghosts S) (represents : Database → Stays → Model → Type 0) (kept may : Model → Type 0) (made : Model → Model) (touched : List ℕ) (before mid : Held S) (looked : LeavesUnchanged (state g before) (state g mid)) where
  abbrev a : State
  a = state g before

  abbrev b : State
  b = state g mid

  pub still_shown : HasCleanDisk b → (s : Stays) (m : Model) → represents a.now s m → represents b.now s m
  still_shown clean s m shown = subst (λ (db : Database). represents db s m) (sym (looked.same clean)) shown

  -- it may
  pub makes_after : {X : Type 0} (after : Held S) (r : Result X StoreFault)
      → StoreUpdates g touched represents mid after r may kept made
      → StoreUpdates g touched represents before after r may kept made
  makes_after after (Ok x) it =
      let c = state g after in
      let back = early it.goes.on.crash in
      makes_well (goes_then looked.goes it.goes)
      (λ clean. subst (λ (db : Database). OnlyTouches touched db c.now) (looked.same (back clean)) (it.only clean))
      (λ clean s m shown allowed. it.represents_updated clean s m (still_shown (back clean) s m shown) allowed)
  makes_after after (Err e) it =
      let c = state g after in
      let back = early it.aborts.crash in
      record {
        call = record {
          represents_updated = λ clean s m shown allowed. tt;
          only = λ clean. tt;
          goes = tt;
          aborts = cut_then looked.goes.on it.aborts;
          faults = λ s m shown allowed within clean free.
              next_cause a b c looked.goes.on it.aborts clean e (λ cleaner. it.faults s m (still_shown cleaner s m shown) allowed within clean (still_unlimited a b looked.goes.on free));
        };
        spares = λ clean. looked_spares looked (back clean) e (it.spares clean);
      }

  -- it may not, and blames the schema
  pub makes_refused : {X : Type 0} → (HasCleanDisk b → (s : Stays) (m : Model) → represents a.now s m → may m → ⊥)
      → StoreUpdates {X = X} g touched represents before mid (Err fault.Schema) may kept made
  makes_refused never = record {
    call = record {
      represents_updated = λ clean s m shown allowed. tt;
      only = λ clean. tt;
      goes = tt;
      aborts = cut_after looked.goes.on;
      faults = λ s m shown allowed within clean free. absurd (never clean s m shown allowed);
    };
    spares = λ clean. record { disk = tt; rows = inl (same_untouched touched a.now b.now (looked.same clean)) };
  }
