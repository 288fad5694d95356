-- How a call of a store ends, by how its steps ended.
use Rattle.std.proofs.Common.{◌≡◌, ℕ, List, Ok, Err, Result, IfOk, IfErr, OnErr, OnOk, sym, subst, refl}
use Rattle.sqlite_trees.specs.declared.store.Store as store
use Rattle.office_tables.specs.Calls.{StoreUpdates, StoreAnswers, Updates, Answers}
use Rattle.office_tables.specs.Faults.{HasCause}
use Rattle.office_tables.proofs.Common.{Continues, Database, FaultsHaveCause, Goes, HasCleanDisk, Held, IsAborted}
use Rattle.office_tables.proofs.Common.{IsSame, IsUnlimited, LeavesOr, LeavesUnchanged, OnlyTouches, Spares, State}
use Rattle.office_tables.proofs.Common.{StoreFault, state}
use Rattle.office_tables.proofs.Calls.{early, cut_then, looks_then, on_ok_both}
use Rattle.office_tables.proofs.CallEnds.{excused_then, leaves_last}
use Rattle.office_tables.proofs.Causes.{still_unlimited}
use Rattle.office_tables.proofs.LaterCauses.{next_cause}
use Rattle.office_tables.proofs.Outcomes.{on_ok_by}
use Rattle.office_tables.proofs.Sparing.{untouched, looked_spares, touched_spares}
use Rattle.office_tables.proofs.Touching.{touched_again}

-- ---- all its steps went well

module _ {S X Stays Model : Type 0} {g : store.Ghosts S} {represents : Database → Stays → Model → Type 0} {kept may : Model → Type 0} {before after : Held S} {x : X} where
  pub tells_well : {answer : Stays → Model → X → Type 0} → LeavesUnchanged (state g before) (state g after)
      → (HasCleanDisk (state g after) → (s : Stays) (m : Model) → represents (state g before).now s m → answer s m x)
      → StoreAnswers g represents before after (Ok x) may kept answer
  tells_well looked told = record { call = record { answers = told; looks = looked; aborts = tt; faults = λ s m shown allowed within clean free. tt }; spares = λ clean. tt }

  pub makes_well : {made : Model → Model} {touched : List ℕ} → Goes (state g before) (state g after)
      → (HasCleanDisk (state g after) → OnlyTouches touched (state g before).now (state g after).now)
      → (HasCleanDisk (state g after) → (s : Stays) (m : Model) → represents (state g before).now s m → may m → represents (state g after).now s (made m))
      → StoreUpdates g touched represents before after (Ok x) may kept made
  makes_well went only done = record { call = record { represents_updated = done; only = only; goes = went; aborts = tt; faults = λ s m shown allowed within clean free. tt }; spares = λ clean. tt }

-- ---- a fault that is handed on

module _ {S X Stays Model : Type 0} {g : store.Ghosts S} {represents : Database → Stays → Model → Type 0} {kept may : Model → Type 0} {before after : Held S} {r : Result X StoreFault} where
  -- it ends with a fault
  pub tells_not : {answer : Stays → Model → X → Type 0} {e : StoreFault} → r ≡ Err e → IsAborted (state g before) (state g after)
      → (HasCleanDisk (state g after) → Spares IsSame (state g before) (state g after) e)
      → ((s : Stays) (m : Model) → represents (state g before).now s m → may m → kept m → HasCleanDisk (state g after) → IsUnlimited (state g before) → HasCause (state g before) (state g after) e)
      → StoreAnswers g represents before after r may kept answer
  tells_not {answer = answer} {e = e} is cut spares why =
      subst (λ (r : Result X StoreFault). StoreAnswers g represents before after r may kept answer) (sym is)
      (record { call = record { answers = λ clean s m shown. tt; looks = tt; aborts = cut; faults = λ s m shown may kept clean free. why s m shown may kept clean free }; spares = spares })

  -- it ends so, and may have touched the tables
  pub makes_part : {made : Model → Model} {touched : List ℕ} {e : StoreFault} → r ≡ Err e → IsAborted (state g before) (state g after)
      → (HasCleanDisk (state g after) → Spares (OnlyTouches touched) (state g before) (state g after) e)
      → ((s : Stays) (m : Model) → represents (state g before).now s m → may m → kept m → HasCleanDisk (state g after) → IsUnlimited (state g before) → HasCause (state g before) (state g after) e)
      → StoreUpdates g touched represents before after r may kept made
  makes_part {made = made} {touched = touched} {e = e} is cut spares why =
      subst (λ (r : Result X StoreFault). StoreUpdates g touched represents before after r may kept made) (sym is)
      (record { call = record { represents_updated = λ clean s m shown may. tt; only = λ clean. tt; goes = tt; aborts = cut; faults = λ s m shown may kept clean free. why s m shown may kept clean free }; spares = spares })

  -- it ends so before it touched any
  pub makes_not : {made : Model → Model} {touched : List ℕ} {e : StoreFault} → r ≡ Err e → IsAborted (state g before) (state g after)
      → (HasCleanDisk (state g after) → Spares IsSame (state g before) (state g after) e)
      → ((s : Stays) (m : Model) → represents (state g before).now s m → may m → kept m → HasCleanDisk (state g after) → IsUnlimited (state g before) → HasCause (state g before) (state g after) e)
      → StoreUpdates g touched represents before after r may kept made
  makes_not {made = made} {touched = touched} {e = e} is cut spares why =
      makes_part {made = made} {touched = touched} {e = e} is cut (λ clean. untouched touched (state g before) (state g after) e (spares clean)) why

  -- what it promises of the model alone
  pub as_answers : {answer : Stays → Model → X → Type 0} → StoreAnswers g represents before after r may kept answer
      → Answers g represents before after r may kept answer
  as_answers it = it.call

  pub as_updates : {made : Model → Model} {touched : List ℕ}
      → StoreUpdates g touched represents before after r may kept made
      → Updates g touched represents before after r may kept made
  as_updates it = it.call

-- ---- a later step fails

module _ {S X Stays Model : Type 0} {g : store.Ghosts S} {represents : Database → Stays → Model → Type 0} {kept may : Model → Type 0} {before after : Held S} {b : State} {r : Result X StoreFault} where
  pub tells_cut : {answer : Stays → Model → X → Type 0} {e : StoreFault} → r ≡ Err e → LeavesUnchanged (state g before) b
      → IsAborted b (state g after) → (HasCleanDisk (state g after) → Spares IsSame b (state g after) e) → ((s : Stays) (m : Model) → represents (state g before).now s m → may m → kept m → HasCleanDisk b → HasCleanDisk (state g after) → IsUnlimited b → HasCause b (state g after) e)
      → StoreAnswers g represents before after r may kept answer
  tells_cut {answer = answer} {e = e} is looked cut spares why =
      tells_not is (cut_then looked.goes.on cut) (λ clean. looked_spares looked (early cut.crash clean) e (spares clean)) (λ s m shown allowed within clean free. next_cause (state g before) b (state g after) looked.goes.on cut clean e (λ cleaner. why s m shown allowed within cleaner clean (still_unlimited (state g before) b looked.goes.on free)))

  -- after steps that touched such tables only
  pub makes_cut : {made : Model → Model} {touched : List ℕ} {e : StoreFault} → r ≡ Err e → Continues (state g before) b
      → (HasCleanDisk b → OnlyTouches touched (state g before).now b.now) → IsAborted b (state g after)
      → (HasCleanDisk (state g after) → Spares (OnlyTouches touched) b (state g after) e) → ((s : Stays) (m : Model) → represents (state g before).now s m → may m → kept m → HasCleanDisk b → HasCleanDisk (state g after) → IsUnlimited b → HasCause b (state g after) e)
      → StoreUpdates g touched represents before after r may kept made
  makes_cut {made = made} {touched = touched} {e = e} is on only cut spares why =
      makes_part is (cut_then on cut) (λ clean. let still = early cut.crash clean in touched_spares touched (state g before) b (state g after) on still (only still) e (spares clean)) (λ s m shown allowed within clean free. next_cause (state g before) b (state g after) on cut clean e (λ cleaner. why s m shown allowed within cleaner clean (still_unlimited (state g before) b on free)))

  -- after one look
  pub makes_none : {made : Model → Model} {touched : List ℕ} {e : StoreFault} → r ≡ Err e → LeavesUnchanged (state g before) b
      → IsAborted b (state g after) → (HasCleanDisk (state g after) → Spares IsSame b (state g after) e) → ((s : Stays) (m : Model) → represents (state g before).now s m → may m → kept m → HasCleanDisk b → HasCleanDisk (state g after) → IsUnlimited b → HasCause b (state g after) e)
      → StoreUpdates g touched represents before after r may kept made
  makes_none {made = made} {touched = touched} {e = e} is looked cut spares why =
      makes_not is (cut_then looked.goes.on cut) (λ clean. looked_spares looked (early cut.crash clean) e (spares clean)) (λ s m shown allowed within clean free. next_cause (state g before) b (state g after) looked.goes.on cut clean e (λ cleaner. why s m shown allowed within cleaner clean (still_unlimited (state g before) b looked.goes.on free)))

-- ---- the result of its last step is its own

module _ {S X Stays Model : Type 0} {g : store.Ghosts S} {represents : Database → Stays → Model → Type 0} {kept may : Model → Type 0} {before after : Held S} {b : State} where
  pub tells_last : {r : Result X StoreFault} {answer : Stays → Model → X → Type 0} → LeavesUnchanged (state g before) b
      → OnOk r (LeavesUnchanged b (state g after)) → OnErr r (IsAborted b (state g after))
      → (HasCleanDisk (state g after) → IfErr r (Spares IsSame b (state g after)))
      → (HasCleanDisk b → HasCleanDisk (state g after) → (s : Stays) (m : Model) → represents (state g before).now s m → IfOk r (answer s m))
      → (HasCleanDisk b → (s : Stays) (m : Model) → represents (state g before).now s m → may m → kept m → FaultsHaveCause b (state g after) r)
      → StoreAnswers g represents before after r may kept answer
  tells_last {r = Ok x} looked looks cut spares told why = tells_well (looks_then looked looks) (λ clean. told (early looks.goes.on.crash clean) clean)
  tells_last {r = Err e} looked looks cut spares told why =
      tells_cut refl looked cut spares (λ s m shown allowed within still. why still s m shown allowed within)

  pub makes_last : {r : Result X StoreFault} {made : Model → Model} {touched : List ℕ} → Goes (state g before) b
      → (HasCleanDisk b → OnlyTouches touched (state g before).now b.now)
      → LeavesOr (OnlyTouches touched) b (state g after) r
      → (HasCleanDisk (state g after) → OnOk r (OnlyTouches touched b.now (state g after).now))
      → (HasCleanDisk b → HasCleanDisk (state g after) → (s : Stays) (m : Model) → represents (state g before).now s m → may m → OnOk r (represents (state g after).now s (made m)))
      → (HasCleanDisk b → (s : Stays) (m : Model) → represents (state g before).now s m → may m → kept m → FaultsHaveCause b (state g after) r)
      → StoreUpdates g touched represents before after r may kept made
  makes_last {r = r} {made = made} {touched = touched} went first last only done why =
      let a = state g before in
      let c = state g after in
      let all = leaves_last touched a b c r went first last in
      record {
        call = record {
          represents_updated = λ clean s m shown allowed. on_ok_by r (Goes b c) (represents c.now s (made m)) (λ further. done (early further.on.crash clean) clean s m shown allowed) last.goes;
          only = λ clean. on_ok_both r (Goes b c) (OnlyTouches touched b.now c.now) (OnlyTouches touched a.now c.now) (λ further rest. touched_again touched a.now b.now c.now (first (early further.on.crash clean)) rest) last.goes (only clean);
          goes = all.goes;
          aborts = all.aborts;
          faults = λ s m shown allowed within. excused_then _ went.on r last.aborts (λ at_b. why at_b s m shown allowed within);
        };
        spares = all.spares;
      }
