-- A call that reads in several steps, of whatever the tables show.
use Rattle.std.proofs.Common.{◌≡◌, true, false, Result, Ok, Err, IfErr, sym, subst}
use Rattle.sqlite_trees.specs.declared.store.Store as store
use Rattle.office_tables.proofs.CallEnds.{tells_well}
use Rattle.desk_store.proofs.Common.{Answers, Database, HasCleanDisk, Held, IsOk, LeavesUnchanged, State, StoreFault}
use Rattle.desk_store.proofs.Common.{state, ⊤}

module _ {Model : Type 0} (represents : Database → ⊤ → Model → Type 0) where
  -- the same is still shown, and was shown before
  pub shown_on : {a b : State} → LeavesUnchanged a b → HasCleanDisk b → (m : Model) → represents a.now tt m
      → represents b.now tt m
  shown_on looked clean m shown = subst (λ (db : Database). represents db tt m) (sym (looked.same clean)) shown

  pub shown_back : (a b : State) → LeavesUnchanged a b → HasCleanDisk b → (m : Model) → represents b.now tt m
      → represents a.now tt m
  shown_back a b looked clean m shown = subst (λ (db : Database). represents db tt m) (looked.same clean) shown

module _ {Model : Type 0} {represents : Database → ⊤ → Model → Type 0} {S Y : Type 0} {kept may : Model → Type 0} {g : store.Ghosts S} {before after : Held S} {answer : ⊤ → Model → Y → Type 0} where
  -- it ends with what was read
  pub ends_well : LeavesUnchanged (state g before) (state g after) → (y : Y)
      → (HasCleanDisk (state g after) → (m : Model) → represents (state g before).now tt m → answer tt m y)
      → Answers g represents before after (Ok y) may kept answer
  ends_well looked y is = tells_well looked (λ clean beside m shown. is clean m shown)

-- what always succeeds has no fault to excuse
pub never_fails : {X : Type 0} (r : Result X StoreFault) (P : StoreFault → Type 0) → IsOk r → IfErr r P
never_fails (Ok x) P ok = tt
never_fails (Err e) P ok = absurd (let none : false ≡ true = ok in cc)
