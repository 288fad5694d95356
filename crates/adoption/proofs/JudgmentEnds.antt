-- How a call ends that judges tables.
use Rattle.std.proofs.Common.{◌≡◌, Ok, Err, Result, sym, subst}
use Rattle.std.specs.Prelude.{IfErr}
use Rattle.sqlite.specs.State.{State}
use Rattle.sqlite_trees.specs.declared.store.Store as store
use Rattle.office_tables.proofs.CallEnds.{excused_then, same_fault}
use Rattle.office_tables.proofs.Causes.{still_unlimited}
use Rattle.office_tables.proofs.LaterCauses.{next_cause}
use Rattle.office_tables.proofs.WriteCauses.{disk_then, last_disk}
use Rattle.office_tables.specs.declared.fault.StoreFault.TheVariants as fault
use Rattle.row_decoding.specs.Examinations.{Examines}
use Rattle.adoption.proofs.Common.{BlamesDisk, Database, HasCause, HasCleanDisk, Held, IfOk, IsAborted, IsErr, IsErrAnd}
use Rattle.adoption.proofs.Common.{IsSame, IsUnlimited, Judges, LeavesUnchanged, Spares, StoreFault, Trees, cut_after}
use Rattle.adoption.proofs.Common.{cut_then, early, state, ⊤}
use Rattle.adoption.proofs.Lookings.{looked_then, looked_well}

-- the result is this fault
abbrev Hands : {X : Type 0} → Result X StoreFault → StoreFault → Type 0
Hands r e = IsErr r × IsErrAnd r (λ f. f ≡ e)

module _ {S X : Type 0} {g : store.Ghosts S} {before after : Held S} {kept : State → Type 0} {answer : State → X → Type 0} where
  -- it answers by what was read
  pub judged : {x : X} → LeavesUnchanged (state g before) (state g after)
      → (HasCleanDisk (state g after) → answer (state g before) x) → Judges g before after (Ok x) kept answer
  judged {x} looked is = record { reads = looked_well (state g before) (state g after) x looked; answers = is; disk = λ clean. tt; faults = λ known clean free. tt }

  -- it passes on the fault of a query
  pub passes_of : {r : Result X StoreFault} (e : StoreFault) → Hands r e → IsAborted (state g before) (state g after)
      → (HasCleanDisk (state g after) → BlamesDisk (state g before) (state g after) e)
      → (kept (state g before) → HasCleanDisk (state g after) → IsUnlimited (state g before) → HasCause (state g before) (state g after) e)
      → Judges g before after r kept answer
  passes_of {r} e handed cut blames why =
      subst (λ (r : Result X StoreFault). Judges g before after r kept answer) (sym (same_fault handed))
      (record { reads = record { crash = cut.crash; looks = tt; aborts = cut }; answers = λ clean. tt; disk = blames; faults = why })

  -- there was no memory for what was read
  pub is_full : {r : Result X StoreFault} {e : StoreFault} → Hands r e → e ≡ fault.Memory
      → LeavesUnchanged (state g before) (state g after) → Judges g before after r kept answer
  is_full {e = e} handed memory looked =
      passes_of e handed (cut_after looked.goes.on) (λ clean. subst (BlamesDisk (state g before) (state g after)) (sym memory) tt)
      (λ known clean free. subst (HasCause (state g before) (state g after)) (sym memory) tt)

  -- it passes on the fault of its first call
  pub passes : {r : Result X StoreFault} {e : StoreFault} {Y : Type 0} {first : State → Type 0} {other : State → Y → Type 0}
      → Hands r e → Judges g before after (Err e) first other → (kept (state g before) → first (state g before))
      → Judges g before after r kept answer
  passes {e = e} handed it learns = passes_of e handed it.reads.aborts it.disk (λ known. it.faults (learns known))

  -- of a later one
  pub passes_later : {r : Result X StoreFault} {e : StoreFault} {mid : Held S} {Y : Type 0} {later : State → Type 0} {other : State → Y → Type 0}
      → Hands r e → LeavesUnchanged (state g before) (state g mid) → Judges g mid after (Err e) later other
      → (HasCleanDisk (state g mid) → kept (state g before) → later (state g mid)) → Judges g before after r kept answer
  passes_later {e = e} {mid = mid} handed looked it learns =
      let a = state g before in
      let b = state g mid in
      let c = state g after in
      passes_of e handed (cut_then looked.goes.on it.reads.aborts) (λ clean. disk_then a b c looked.goes.on (early it.reads.crash clean) e (it.disk clean))
      (λ known clean free. next_cause a b c looked.goes.on it.reads.aborts clean e (λ at_b. it.faults (learns at_b known) clean (still_unlimited a b looked.goes.on free)))

blamed : {X : Type 0} (old new : State) (r : Result X StoreFault) → IfErr r (Spares IsSame old new)
    → IfErr r (BlamesDisk old new)
blamed old new (Ok x) spared = tt
blamed old new (Err e) spared = spared.disk

module _ {S X : Type 0} {g : store.Ghosts S} {mid after : Held S} {r : Result X StoreFault} where
  -- a call ends with it, after a look
  pub judged_last : {before : Held S} {kept later : State → Type 0} {answer other : State → X → Type 0}
      → LeavesUnchanged (state g before) (state g mid) → Judges g mid after r later other
      → (HasCleanDisk (state g mid) → kept (state g before) → later (state g mid))
      → (HasCleanDisk (state g mid) → (x : X) → other (state g mid) x → answer (state g before) x)
      → Judges g before after r kept answer
  judged_last {before} {answer = answer} {other = other} looked it learns is =
      let a = state g before in
      let b = state g mid in
      let c = state g after in
      record {
        reads = looked_then a b c r looked it.reads;
        answers = λ clean. on_ok r (is (early it.reads.crash clean)) (it.answers clean);
        disk = λ clean. last_disk a b c looked.goes.on r it.reads.aborts clean (it.disk clean);
        faults = λ known. excused_then _ looked.goes.on r it.reads.aborts (λ at_b. it.faults (learns at_b known));
      }
    where
      on_ok : (r : Result X StoreFault) → ((x : X) → other (state g mid) x → answer (state g before) x)
          → IfOk r (other (state g mid)) → IfOk r (answer (state g before))
      on_ok (Ok x) is held = is x held
      on_ok (Err e) is held = tt

  -- a call that examines rows judges them
  pub as_judged : {other : Trees → X → Type 0} → Examines g mid after r other
      → Judges g mid after r (λ _. ⊤) (λ s. other s.now.trees)
  as_judged it = record {
    reads = record { crash = it.reads.crash; looks = it.reads.looks; aborts = it.reads.aborts };
    answers = it.answers;
    disk = λ clean. blamed (state g mid) (state g after) r (it.reads.spares clean);
    faults = λ _. it.faults;
  }

-- what is known of tables is known after a look
pub still_known : {old mid : State} (Known : Database → Type 0) → LeavesUnchanged old mid → HasCleanDisk mid
    → Known old.now → Known mid.now
still_known Known looked clean known = subst Known (sym (looked.same clean)) known
