-- How a look-up of one step or several ends, by how its steps ended.
use Rattle.std.proofs.Common.{◌≡◌, Ok, Err, Result, IfOk, IfErr, refl, sym, subst}
use Rattle.sqlite_trees.specs.declared.store.Store as store
use Rattle.office_tables.specs.Faults.{HasCause}
use Rattle.office_tables.specs.TableStatements.{LooksUp}
use Rattle.office_tables.specs.declared.fault.StoreFault.TheVariants as fault
use Rattle.office_tables.proofs.Common.{FaultsHaveCause, HasCleanDisk, Held, IsAborted, IsErr, IsErrAnd, IsSame}
use Rattle.office_tables.proofs.Common.{IsUnlimited, LeavesUnchanged, Reads, Spares, State, StoreFault, state}
use Rattle.office_tables.proofs.CallEnds.{excused_then, read_cut, read_not, read_well, same_fault}
use Rattle.office_tables.proofs.Calls.{cut_after, cut_then, early, looks_then}
use Rattle.office_tables.proofs.Causes.{still_unlimited}
use Rattle.office_tables.proofs.LaterCauses.{next_cause}
use Rattle.office_tables.proofs.Outcomes.{if_ok_by}
use Rattle.office_tables.proofs.Sparing.{looked_spares, spares_full, spares_known}

-- a call that reads in two steps
reads_last : {X : Type 0} (a b c : State) (r : Result X StoreFault) → LeavesUnchanged a b → Reads b c r → Reads a c r
reads_last a b c (Ok x) looked last = read_well a c (looks_then looked last.looks)
reads_last a b c (Err e) looked last = read_cut a b c (Err e) e refl looked last.aborts last.spares

-- this fault is handed on
abbrev pub Hands : {X : Type 0} → Result X StoreFault → StoreFault → Type 0
Hands r e = IsErr r × IsErrAnd r (λ f. f ≡ e)

-- what holds of the fault that is handed on
pub if_handed : {X : Type 0} (r : Result X StoreFault) (e : StoreFault) (P : StoreFault → Type 0) → Hands r e → P e
    → IfErr r P
if_handed r e P handed so = subst (λ (q : Result _ StoreFault). IfErr q P) (sym (same_fault handed)) so

module _ {S X M : Type 0} {g : store.Ghosts S} {holds : State → M → Type 0} {before after : Held S} {orderly kept : M → Type 0} {answer : M → X → Type 0} where
  -- all its steps went well
  pub looks_well : {x : X} → LeavesUnchanged (state g before) (state g after)
      → (HasCleanDisk (state g after) → (m : M) → holds (state g before) m → orderly m → answer m x)
      → LooksUp g holds before after (Ok x) orderly kept answer
  looks_well looked told = record { reads = read_well (state g before) (state g after) looked; answers = told; faults = λ m held k clean free. tt }

  -- it ends with a fault
  pub looks_not : {r : Result X StoreFault} (e : StoreFault) → Hands r e → IsAborted (state g before) (state g after)
      → (HasCleanDisk (state g after) → Spares IsSame (state g before) (state g after) e)
      → ((m : M) → holds (state g before) m → kept m → HasCleanDisk (state g after) → IsUnlimited (state g before) → HasCause (state g before) (state g after) e)
      → LooksUp g holds before after r orderly kept answer
  looks_not {r} e handed cut spares why =
      let is : r ≡ Err e = same_fault handed in
      record {
        reads = read_not (state g before) (state g after) r e is cut spares;
        answers = λ clean m held up. subst (λ (q : Result X StoreFault). IfOk q (answer m)) (sym is) tt;
        faults = λ m held k clean free. subst (λ (q : Result X StoreFault). IfErr q (HasCause (state g before) (state g after))) (sym is) (why m held k clean free);
      }

  -- a step fails after others that went well
  pub looks_cut : {r : Result X StoreFault} {b : State} (e : StoreFault) → Hands r e
      → LeavesUnchanged (state g before) b → IsAborted b (state g after)
      → (HasCleanDisk (state g after) → Spares IsSame b (state g after) e)
      → (HasCleanDisk b → (m : M) → holds (state g before) m → kept m → HasCleanDisk (state g after) → IsUnlimited b → HasCause b (state g after) e)
      → LooksUp g holds before after r orderly kept answer
  looks_cut {r} {b} e handed looked cut spares why =
      looks_not e handed (cut_then looked.goes.on cut) (λ clean. looked_spares looked (early cut.crash clean) e (spares clean))
      (λ m held k clean free. next_cause (state g before) b (state g after) looked.goes.on cut clean e (λ clean_b. why clean_b m held k clean (still_unlimited (state g before) b looked.goes.on free)))

  -- memory runs out after steps that went well
  pub looks_full : {r : Result X StoreFault} → Hands r fault.Memory → LeavesUnchanged (state g before) (state g after)
      → LooksUp g holds before after r orderly kept answer
  looks_full handed looked =
      looks_not fault.Memory handed (cut_after looked.goes.on) (spares_full looked) (λ m held k clean free. tt)

  -- the tables are not ours, which cannot be if they hold what is kept
  pub looks_known : {r : Result X StoreFault} (e : StoreFault) → Hands r e → e ≡ fault.Schema
      → LeavesUnchanged (state g before) (state g after)
      → (HasCleanDisk (state g after) → (m : M) → holds (state g before) m → kept m → ⊥)
      → LooksUp g holds before after r orderly kept answer
  looks_known e handed is looked never =
      looks_not e handed (cut_after looked.goes.on) (λ clean. subst (Spares IsSame (state g before) (state g after)) (sym is) (spares_known looked clean))
      (λ m held k clean free. absurd (never clean m held k))

  -- it finds that the tables are not ours, and says so
  pub looks_ill : LeavesUnchanged (state g before) (state g after)
      → (HasCleanDisk (state g after) → (m : M) → holds (state g before) m → kept m → ⊥)
      → LooksUp g holds before after (Err fault.Schema) orderly kept answer
  looks_ill looked never =
      let own : Hands {X = X} (Err fault.Schema) fault.Schema = (refl, refl) in
      looks_known fault.Schema own refl looked never

  -- it passes on the fault of a look-up, its first step
  pub looks_passed : {Y N : Type 0} {e : StoreFault} {r : Result X StoreFault} {shows : State → N → Type 0} {sorted low : N → Type 0} {found : N → Y → Type 0}
      → Hands r e → LooksUp g shows before after (Err e) sorted low found
      → ((m : M) → holds (state g before) m → kept m → HasCleanDisk (state g after) → IsUnlimited (state g before) → HasCause (state g before) (state g after) e)
      → LooksUp g holds before after r orderly kept answer
  looks_passed {e = e} handed failed why = looks_not e handed failed.reads.aborts failed.reads.spares why

  -- of a look-up after others
  pub looks_passed_later : {Y N : Type 0} {e : StoreFault} {r : Result X StoreFault} {mid : Held S} {shows : State → N → Type 0} {sorted low : N → Type 0} {found : N → Y → Type 0}
      → Hands r e → LeavesUnchanged (state g before) (state g mid)
      → LooksUp g shows mid after (Err e) sorted low found
      → (HasCleanDisk (state g mid) → (m : M) → holds (state g before) m → kept m → HasCleanDisk (state g after) → IsUnlimited (state g mid) → HasCause (state g mid) (state g after) e)
      → LooksUp g holds before after r orderly kept answer
  looks_passed_later {e = e} handed looked failed why = looks_cut e handed looked failed.reads.aborts failed.reads.spares why

  -- the result of its last step is its own
  pub looks_last : {r : Result X StoreFault} {b : State} → LeavesUnchanged (state g before) b
      → Reads b (state g after) r
      → (HasCleanDisk b → HasCleanDisk (state g after) → (m : M) → holds (state g before) m → orderly m → IfOk r (answer m))
      → (HasCleanDisk b → (m : M) → holds (state g before) m → kept m → FaultsHaveCause b (state g after) r)
      → LooksUp g holds before after r orderly kept answer
  looks_last {r} {b} looked last told why = record {
    reads = reads_last (state g before) b (state g after) r looked last;
    answers = λ clean m held up. if_ok_by r (LeavesUnchanged b (state g after)) (answer m) (λ went. told (early went.goes.on.crash clean) clean m held up) last.looks;
    faults = λ m held k. excused_then _ looked.goes.on r last.aborts (λ clean. why clean m held k);
  }
