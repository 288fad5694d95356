-- How a call ends that changes what the tables represent, by how its steps ended.
use Rattle.std.proofs.Common.{inl, ℕ, List, Ok, Err, Result, OnOk, OnErr, IfErr, refl}
use Rattle.sqlite_trees.specs.declared.store.Store as store
use Rattle.office_tables.specs.Calls.{StoreUpdates}
use Rattle.office_tables.specs.declared.fault.StoreFault.TheVariants as fault
use Rattle.catalogue_statements.proofs.Common.{Database, Goes, Hands, HasCause, HasCleanDisk, Held, IsAborted}
use Rattle.catalogue_statements.proofs.Common.{IsUnlimited, LeavesOr, LeavesUnchanged, LooksUp, OnlyTouches, Spares}
use Rattle.catalogue_statements.proofs.Common.{State, StoreFault, cut_after, makes_cut, makes_part, same_fault}
use Rattle.catalogue_statements.proofs.Common.{same_untouched, state, untouched}

-- tables that were only looked at
pub looked_only : (touched : List ℕ) (a b : State) → LeavesUnchanged a b → HasCleanDisk b
    → OnlyTouches touched a.now b.now
looked_only touched a b looked clean = same_untouched touched a.now b.now (looked.same clean)

-- how a step leaves the transaction that touches such tables only, also if it fails
pub leaves_so : {X : Type 0} (touched : List ℕ) (a b : State) (r : Result X StoreFault) → OnOk r (Goes a b)
    → OnErr r (IsAborted a b) → (HasCleanDisk b → IfErr r (Spares (OnlyTouches touched) a b))
    → LeavesOr (OnlyTouches touched) a b r
leaves_so touched a b (Ok x) went cut spares = record { crash = went.on.crash; goes = went; aborts = tt; spares = λ clean. tt }
leaves_so touched a b (Err e) went cut spares = record { crash = cut.crash; goes = tt; aborts = cut; spares = spares }

module _ {S X Stays Model : Type 0} {g : store.Ghosts S} {represents : Database → Stays → Model → Type 0} {kept may : Model → Type 0} {before after : Held S} {made : Model → Model} {touched : List ℕ} where
  -- its first step fails
  pub makes_first : {r : Result X StoreFault} {e : StoreFault} → Hands r e → IsAborted (state g before) (state g after)
      → (HasCleanDisk (state g after) → Spares (OnlyTouches touched) (state g before) (state g after) e)
      → ((s : Stays) (m : Model) → represents (state g before).now s m → may m → kept m → HasCleanDisk (state g after) → IsUnlimited (state g before) → HasCause (state g before) (state g after) e)
      → StoreUpdates g touched represents before after r may kept made
  makes_first {r} {e} handed cut spares why =
      makes_part (same_fault handed) cut spares why

  -- its first step fails, a look-up
  pub makes_passed : {Y N : Type 0} {r : Result X StoreFault} {e : StoreFault} {holds : State → N → Type 0} {sorted low : N → Type 0} {found : N → Y → Type 0}
      → Hands r e → LooksUp g holds before after (Err e) sorted low found
      → ((s : Stays) (m : Model) → represents (state g before).now s m → may m → kept m → HasCleanDisk (state g after) → IsUnlimited (state g before) → HasCause (state g before) (state g after) e)
      → StoreUpdates g touched represents before after r may kept made
  makes_passed {e = e} handed failed why = makes_first handed failed.reads.aborts (λ clean. untouched touched (state g before) (state g after) e (failed.reads.spares clean)) why

  -- a later step fails, after others that touched such tables only
  pub makes_later : {r : Result X StoreFault} {e : StoreFault} (mid : Held S) → Hands r e
      → Goes (state g before) (state g mid)
      → (HasCleanDisk (state g mid) → OnlyTouches touched (state g before).now (state g mid).now)
      → IsAborted (state g mid) (state g after)
      → (HasCleanDisk (state g after) → Spares (OnlyTouches touched) (state g mid) (state g after) e)
      → ((s : Stays) (m : Model) → represents (state g before).now s m → may m → kept m → HasCleanDisk (state g mid) → HasCleanDisk (state g after) → IsUnlimited (state g mid) → HasCause (state g mid) (state g after) e)
      → StoreUpdates g touched represents before after r may kept made
  makes_later {r} {e} mid handed went only cut spares why =
      makes_cut (same_fault handed) went.on only cut spares why

  -- it finds that the tables are not ours, and says so; which cannot be if they represent what is kept
  pub makes_ill : Goes (state g before) (state g after)
      → (HasCleanDisk (state g after) → OnlyTouches touched (state g before).now (state g after).now)
      → (HasCleanDisk (state g after) → (s : Stays) (m : Model) → represents (state g before).now s m → may m → kept m → ⊥)
      → StoreUpdates {X = X} g touched represents before after (Err fault.Schema) may kept made
  makes_ill went only never =
      makes_part refl (cut_after went.on) (λ clean. record { disk = tt; rows = inl (only clean) }) (λ s m shown allowed within clean free. absurd (never clean s m shown allowed within))
