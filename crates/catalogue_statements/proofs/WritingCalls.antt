-- How a call that writes ends, by how its steps ended.
use Rattle.std.proofs.Common.{◌≡◌, inl, ℕ, List, true, nat_eq, Ok, Err, Result, OnOk, refl, ap, sym, subst, ◌∙◌}
use Rattle.std.specs.Prelude.{IfOk}
use Rattle.sqlite_trees.specs.declared.store.Store as store
use Rattle.office_tables.proofs.LaterCauses.{next_cause}
use Rattle.office_tables.proofs.Outcomes.{if_ok_by}
use Rattle.office_tables.specs.declared.fault.StoreFault.TheVariants as fault
use Rattle.catalogue_statements.specs.CallClauses.{Writes, WritesOnly, WritesOr}
use Rattle.catalogue_statements.proofs.Common.{Database, FaultsHaveCause, Goes, Hands, HasCause, HasCleanDisk, Held}
use Rattle.catalogue_statements.proofs.Common.{IsAborted, IsUnlimited, LeavesOr, LeavesUnchanged, OnlyTouches, Spares}
use Rattle.catalogue_statements.proofs.Common.{State, StoreFault, Trees, cut_after, cut_then, early, excused_then}
use Rattle.catalogue_statements.proofs.Common.{goes_then, leaves_last, left_well, list_all, list_any, looked_spares}
use Rattle.catalogue_statements.proofs.Common.{on_ok_both, on_ok_then, same_fault, same_untouched, state}
use Rattle.catalogue_statements.proofs.Common.{still_unlimited, touched_again, touched_spares, touched_wider}
use Rattle.catalogue_statements.proofs.Common.{wider_last}

-- ---- what a step leaves

-- tables that are named, and more of them
pub leaves_wider : {X : Type 0} (few many : List ℕ) (a b : State) (r : Result X StoreFault)
    → list_all (λ t. list_any (nat_eq t) many) few ≡ true → LeavesOr (OnlyTouches few) a b r
    → LeavesOr (OnlyTouches many) a b r
leaves_wider few many a b r all it =
    record { crash = it.crash; goes = it.goes; aborts = it.aborts; spares = λ clean. wider_last few many a b r all (it.spares clean) }

pub only_wider : {X : Type 0} (few many : List ℕ) (a b : Database) (r : Result X StoreFault)
    → list_all (λ t. list_any (nat_eq t) many) few ≡ true → OnOk r (OnlyTouches few a b) → OnOk r (OnlyTouches many a b)
only_wider few many a b r all only =
    on_ok_then r (OnlyTouches few a b) (OnlyTouches many a b) (touched_wider few many a b all) only

-- a step after a look
leaves_looked : {X : Type 0} (Left : Database → Database → Type 0) (a b c : State) (r : Result X StoreFault)
    → LeavesUnchanged a b → LeavesOr Left b c r → LeavesOr Left a c r
leaves_looked Left a b c (Ok x) looked last =
    let went = goes_then looked.goes last.goes in
    record { crash = went.on.crash; goes = went; aborts = tt; spares = λ clean. tt }
leaves_looked Left a b c (Err e) looked last =
    let cut = cut_then looked.goes.on last.aborts in
    record { crash = cut.crash; goes = tt; aborts = cut; spares = λ clean. looked_spares looked (early last.aborts.crash clean) e (last.spares clean) }

-- ---- a call of which no more is said than which tables it touches

module _ {S X : Type 0} {g : store.Ghosts S} {touched : List ℕ} {before after : Held S} where
  -- all its steps went well
  pub only_well : {x : X} → Goes (state g before) (state g after)
      → (HasCleanDisk (state g after) → OnlyTouches touched (state g before).now (state g after).now)
      → WritesOnly g touched before after (Ok x)
  only_well went only = record { leaves = left_well touched (state g before) (state g after) went; only = only }

  -- it ends with a fault
  pub only_not : {r : Result X StoreFault} (e : StoreFault) → Hands r e → IsAborted (state g before) (state g after)
      → (HasCleanDisk (state g after) → Spares (OnlyTouches touched) (state g before) (state g after) e)
      → WritesOnly g touched before after r
  only_not {r} e handed cut spares =
      subst (λ (q : Result X StoreFault). WritesOnly g touched before after q) (sym (same_fault handed))
      (record { leaves = record { crash = cut.crash; goes = tt; aborts = cut; spares = spares }; only = λ clean. tt })

  -- a step fails after others that went well
  pub only_cut : {r : Result X StoreFault} {b : State} (e : StoreFault) → Hands r e → Goes (state g before) b
      → (HasCleanDisk b → OnlyTouches touched (state g before).now b.now) → IsAborted b (state g after)
      → (HasCleanDisk (state g after) → Spares (OnlyTouches touched) b (state g after) e)
      → WritesOnly g touched before after r
  only_cut {r} {b} e handed went only cut spares =
      only_not e handed (cut_then went.on cut)
      (λ clean. let at_b = early cut.crash clean in touched_spares touched (state g before) b (state g after) went.on at_b (only at_b) e (spares clean))

-- ---- a call of which it is said what it makes of the rows

module _ {S M X : Type 0} {g : store.Ghosts S} {touched : List ℕ} {holds : Trees → M → Type 0} {before after : Held S} {room : Trees → M → Type 0} {made : M → X → Trees → Type 0} where
  -- all its steps went well
  pub writes_well : {Left : Database → Database → Type 0} {x : X} → Goes (state g before) (state g after)
      → (HasCleanDisk (state g after) → OnlyTouches touched (state g before).now (state g after).now)
      → (HasCleanDisk (state g after) → (m : M) → holds (state g before).now.trees m → made m x (state g after).now.trees)
      → WritesOr g touched Left holds before after (Ok x) room made
  writes_well went only makes =
      record { leaves = record { crash = went.on.crash; goes = went; aborts = tt; spares = λ clean. tt }; only = only; makes = makes; faults = λ m held roomy clean free. tt }

  -- it ends with a fault
  pub writes_not : {Left : Database → Database → Type 0} {r : Result X StoreFault} (e : StoreFault) → Hands r e
      → IsAborted (state g before) (state g after)
      → (HasCleanDisk (state g after) → Spares Left (state g before) (state g after) e)
      → ((m : M) → holds (state g before).now.trees m → room (state g before).now.trees m → HasCleanDisk (state g after) → IsUnlimited (state g before) → HasCause (state g before) (state g after) e)
      → WritesOr g touched Left holds before after r room made
  writes_not {Left} {r} e handed cut spares why =
      let is : r ≡ Err e = same_fault handed in
      subst (λ (q : Result X StoreFault). WritesOr g touched Left holds before after q room made) (sym is)
      (record { leaves = record { crash = cut.crash; goes = tt; aborts = cut; spares = spares }; only = λ clean. tt; makes = λ clean m held. tt; faults = why })

  -- a step fails after others that went well
  pub writes_cut : {r : Result X StoreFault} {b : State} (e : StoreFault) → Hands r e → Goes (state g before) b
      → (HasCleanDisk b → OnlyTouches touched (state g before).now b.now) → IsAborted b (state g after)
      → (HasCleanDisk (state g after) → Spares (OnlyTouches touched) b (state g after) e)
      → (HasCleanDisk b → (m : M) → holds (state g before).now.trees m → room (state g before).now.trees m → HasCleanDisk (state g after) → IsUnlimited b → HasCause b (state g after) e)
      → Writes g touched holds before after r room made
  writes_cut {r} {b} e handed went only cut spares why =
      writes_not e handed (cut_then went.on cut)
      (λ clean. let at_b = early cut.crash clean in touched_spares touched (state g before) b (state g after) went.on at_b (only at_b) e (spares clean))
      (λ m held roomy clean free. next_cause (state g before) b (state g after) went.on cut clean e (λ at_b. why at_b m held roomy clean (still_unlimited (state g before) b went.on free)))

  -- its first step that writes fails, after a look
  pub writes_cut_looked : {Left : Database → Database → Type 0} {r : Result X StoreFault} {b : State} (e : StoreFault)
      → Hands r e → LeavesUnchanged (state g before) b → IsAborted b (state g after)
      → (HasCleanDisk (state g after) → Spares Left b (state g after) e)
      → (HasCleanDisk b → (m : M) → holds (state g before).now.trees m → room (state g before).now.trees m → HasCleanDisk (state g after) → IsUnlimited b → HasCause b (state g after) e)
      → WritesOr g touched Left holds before after r room made
  writes_cut_looked {Left} {r} {b} e handed looked cut spares why =
      writes_not e handed (cut_then looked.goes.on cut) (λ clean. looked_spares looked (early cut.crash clean) e (spares clean))
      (λ m held roomy clean free. next_cause (state g before) b (state g after) looked.goes.on cut clean e (λ at_b. why at_b m held roomy clean (still_unlimited (state g before) b looked.goes.on free)))

  -- it finds that the rows are not ours, which cannot be if there is room, after steps that went well
  pub writes_known : {Left : Database → Database → Type 0} → Goes (state g before) (state g after)
      → (HasCleanDisk (state g after) → Left (state g before).now (state g after).now)
      → (HasCleanDisk (state g after) → (m : M) → holds (state g before).now.trees m → room (state g before).now.trees m → ⊥)
      → WritesOr g touched Left holds before after (Err fault.Schema) room made
  writes_known went left never =
      let own : Hands {X = X} (Err fault.Schema) fault.Schema = (refl, refl) in
      writes_not fault.Schema own (cut_after went.on) (λ clean. record { disk = tt; rows = inl (left clean) }) (λ m held roomy clean free. absurd (never clean m held roomy))

  -- the same, where a step says so
  pub writes_unknown : {Left : Database → Database → Type 0} {r : Result X StoreFault} (e : StoreFault) → Hands r e
      → e ≡ fault.Schema → Goes (state g before) (state g after)
      → (HasCleanDisk (state g after) → Left (state g before).now (state g after).now)
      → (HasCleanDisk (state g after) → (m : M) → holds (state g before).now.trees m → room (state g before).now.trees m → ⊥)
      → WritesOr g touched Left holds before after r room made
  writes_unknown {Left} {r} e handed is went left never =
      subst (λ (q : Result X StoreFault). WritesOr g touched Left holds before after q room made) (sym (same_fault handed ∙ ap Err is)) (writes_known went left never)

  -- the result of its last step is its own
  pub writes_last : {r : Result X StoreFault} {b : State} → Goes (state g before) b
      → (HasCleanDisk b → OnlyTouches touched (state g before).now b.now)
      → LeavesOr (OnlyTouches touched) b (state g after) r
      → (HasCleanDisk (state g after) → OnOk r (OnlyTouches touched b.now (state g after).now))
      → (HasCleanDisk b → HasCleanDisk (state g after) → (m : M) → holds (state g before).now.trees m → IfOk r (λ x. made m x (state g after).now.trees))
      → (HasCleanDisk b → (m : M) → holds (state g before).now.trees m → room (state g before).now.trees m → FaultsHaveCause b (state g after) r)
      → Writes g touched holds before after r room made
  writes_last {r} {b} went first last only makes why =
      let a = state g before in
      let c = state g after in
      record {
        leaves = leaves_last touched a b c r went first last;
        only = λ clean. on_ok_both r (Goes b c) (OnlyTouches touched b.now c.now) (OnlyTouches touched a.now c.now) (λ further rest. touched_again touched a.now b.now c.now (first (early further.on.crash clean)) rest) last.goes (only clean);
        makes = λ clean m held. if_ok_by r (Goes b c) (λ x. made m x c.now.trees) (λ further. makes (early further.on.crash clean) clean m held) last.goes;
        faults = λ m held roomy. excused_then _ went.on r last.aborts (λ at_b. why at_b m held roomy);
      }

  -- the same after a look
  pub writes_last_looked : {Left : Database → Database → Type 0} {r : Result X StoreFault} {b : State}
      → LeavesUnchanged (state g before) b → LeavesOr Left b (state g after) r
      → (HasCleanDisk (state g after) → OnOk r (OnlyTouches touched b.now (state g after).now))
      → (HasCleanDisk b → HasCleanDisk (state g after) → (m : M) → holds (state g before).now.trees m → IfOk r (λ x. made m x (state g after).now.trees))
      → (HasCleanDisk b → (m : M) → holds (state g before).now.trees m → room (state g before).now.trees m → FaultsHaveCause b (state g after) r)
      → WritesOr g touched Left holds before after r room made
  writes_last_looked {Left} {r} {b} looked last only makes why =
      let a = state g before in
      let c = state g after in
      record {
        leaves = leaves_looked Left a b c r looked last;
        only = λ clean. on_ok_both r (Goes b c) (OnlyTouches touched b.now c.now) (OnlyTouches touched a.now c.now) (λ further rest. touched_again touched a.now b.now c.now (same_untouched touched a.now b.now (looked.same (early further.on.crash clean))) rest) last.goes (only clean);
        makes = λ clean m held. if_ok_by r (Goes b c) (λ x. made m x c.now.trees) (λ further. makes (early further.on.crash clean) clean m held) last.goes;
        faults = λ m held roomy. excused_then _ looked.goes.on r last.aborts (λ at_b. why at_b m held roomy);
      }
