-- How a call of one step or several ends, by how its steps ended.
use Rattle.std.proofs.Common.{◌≡◌, ℕ, List, Ok, Err, Result, sym, ap, subst, IfErr, OnErr, OnOk, refl}
use Rattle.sqlite_trees.specs.declared.store.Store as store
use Rattle.office_tables.specs.Calls.{Updates, Answers}
use Rattle.office_tables.specs.Faults.{HasCause}
use Rattle.office_tables.proofs.Common.{BlamesDisk, Continues, Database, FaultsHaveCause, Goes, HasCleanDisk, Held}
use Rattle.office_tables.proofs.Common.{IsAborted, IsErr, IsErrAnd, IsSame, IsUnlimited, Leaves, LeavesMaking, LeavesOr}
use Rattle.office_tables.proofs.Common.{LeavesUnchanged, OnlyTouches, Reads, Spares, State, StoreFault, state}
use Rattle.office_tables.proofs.Causes.{still_unlimited}
use Rattle.office_tables.proofs.LaterCauses.{last_cause, next_cause}
use Rattle.office_tables.proofs.Sparing.{untouched_last, looked_spares, touched_spares}
use Rattle.office_tables.proofs.Calls.{early, continues_then, cut_then, on_err_then, on_ok_then, goes_then}
use Rattle.office_tables.proofs.WriteCauses.{disk_then, last_disk}

-- ---- a fault that is handed on, on tables that show a model

-- a fault that is handed on is the same fault
pub same_fault : {X : Type 0} {r : Result X StoreFault} {e : StoreFault} → IsErr r × IsErrAnd r (λ f. f ≡ e) → r ≡ Err e
same_fault {r = Ok x} h = absurd (cc)
same_fault {r = Err f} h = ap Err h.1

-- its last step fails, after others that succeeded
pub excused_then : {X : Type 0} {a b : State} (c : State) → Continues a b → (r : Result X StoreFault) → OnErr r (IsAborted b c)
    → (HasCleanDisk b → FaultsHaveCause b c r) → FaultsHaveCause a c r
excused_then {a = a} {b = b} c on r cut why clean free =
    last_cause a b c on r cut clean (λ before. why before clean (still_unlimited a b on free))

module _ {S X Stays Model : Type 0} {g : store.Ghosts S} {represents : Database → Stays → Model → Type 0} {kept may : Model → Type 0} {before after : Held S} {x : X} where
  -- all its steps went well
  pub tells_well : {answer : Stays → Model → X → Type 0} → LeavesUnchanged (state g before) (state g after)
      → (HasCleanDisk (state g after) → (s : Stays) (m : Model) → represents (state g before).now s m → answer s m x)
      → Answers g represents before after (Ok x) may kept answer
  tells_well looked told = record { answers = told; looks = looked; aborts = tt; faults = λ s m shown allowed within clean free. tt }

  pub makes_well : {made : Model → Model} {touched : List ℕ} → Goes (state g before) (state g after)
      → (HasCleanDisk (state g after) → OnlyTouches touched (state g before).now (state g after).now)
      → (HasCleanDisk (state g after) → (s : Stays) (m : Model) → represents (state g before).now s m → may m → represents (state g after).now s (made m))
      → Updates g touched represents before after (Ok x) may kept made
  makes_well went only done = record { represents_updated = done; only = only; goes = went; aborts = tt; faults = λ s m shown allowed within clean free. tt }

module _ {S X Stays Model : Type 0} {g : store.Ghosts S} {represents : Database → Stays → Model → Type 0} {kept may : Model → Type 0} {before after : Held S} {r : Result X StoreFault} where
  -- it ends with a fault
  pub tells_not : {answer : Stays → Model → X → Type 0} {e : StoreFault} → r ≡ Err e → IsAborted (state g before) (state g after)
      → ((s : Stays) (m : Model) → represents (state g before).now s m → may m → kept m → HasCleanDisk (state g after) → IsUnlimited (state g before) → HasCause (state g before) (state g after) e)
      → Answers g represents before after r may kept answer
  tells_not {answer = answer} {e = e} is cut why =
      subst (λ (r : Result X StoreFault). Answers g represents before after r may kept answer) (sym is)
      (record { answers = λ clean s m shown. tt; looks = tt; aborts = cut; faults = λ s m shown may kept clean free. why s m shown may kept clean free })

  pub makes_not : {made : Model → Model} {touched : List ℕ} {e : StoreFault} → r ≡ Err e → IsAborted (state g before) (state g after)
      → ((s : Stays) (m : Model) → represents (state g before).now s m → may m → kept m → HasCleanDisk (state g after) → IsUnlimited (state g before) → HasCause (state g before) (state g after) e)
      → Updates g touched represents before after r may kept made
  makes_not {made = made} {touched = touched} {e = e} is cut why =
      subst (λ (r : Result X StoreFault). Updates g touched represents before after r may kept made) (sym is)
      (record { represents_updated = λ clean s m shown may. tt; only = λ clean. tt; goes = tt; aborts = cut; faults = λ s m shown may kept clean free. why s m shown may kept clean free })

-- ---- a call of several steps that writes

-- all of them succeeded
pub left_well : {X : Type 0} (touched : List ℕ) (a b : State) → Goes a b → {x : X}
    → LeavesOr (OnlyTouches touched) a b (Ok x)
left_well touched a b went = record { crash = went.on.crash; goes = went; aborts = tt; spares = λ clean. tt }

-- it ends with a fault
pub left_by : {X : Type 0} (touched : List ℕ) (a b : State) (r : Result X StoreFault) (e : StoreFault) → r ≡ Err e
    → IsAborted a b → (HasCleanDisk b → Spares (OnlyTouches touched) a b e) → LeavesOr (OnlyTouches touched) a b r
left_by {X} touched a b r e is cut spares =
    subst (LeavesOr {X = X} (OnlyTouches touched) a b) (sym is) (record { crash = cut.crash; goes = tt; aborts = cut; spares = spares })

-- one of them failed
pub left_fault : {X : Type 0} (touched : List ℕ) (a b c : State) → Goes a b
    → (HasCleanDisk b → OnlyTouches touched a.now b.now) → (r : Result X StoreFault) (e : StoreFault) → r ≡ Err e
    → IsAborted b c → (HasCleanDisk c → Spares (OnlyTouches touched) b c e)
    → LeavesOr (OnlyTouches touched) a c r
left_fault {X} touched a b c went only r e is aborted spares =
    let cut = cut_then went.on aborted in
    subst (LeavesOr {X = X} (OnlyTouches touched) a c) (sym is)
    (record { crash = cut.crash; goes = tt; aborts = cut; spares = λ clean. let before = early aborted.crash clean in touched_spares touched a b c went.on before (only before) e (spares clean) })

-- ---- a call that makes tables

-- it ends with a fault
pub making_not : {X : Type 0} (a b : State) (r : Result X StoreFault) (e : StoreFault) → r ≡ Err e → IsAborted a b
    → (HasCleanDisk b → BlamesDisk a b e) → (HasCleanDisk b → IsUnlimited a → HasCause a b e) → LeavesMaking a b r
making_not {X} a b r e is cut blames why =
    subst (LeavesMaking {X = X} a b) (sym is) (record { goes = tt; aborts = cut; disk = blames; faults = why })

-- after steps that succeeded
pub making_then : {X : Type 0} (a b c : State) → Continues a b → (r : Result X StoreFault) (e : StoreFault) → r ≡ Err e
    → IsAborted b c → (HasCleanDisk c → BlamesDisk b c e) → (HasCleanDisk c → IsUnlimited b → HasCause b c e)
    → LeavesMaking a c r
making_then a b c on r e is cut blames why =
    making_not a c r e is (cut_then on cut) (λ clean. disk_then a b c on (early cut.crash clean) e (blames clean))
    (λ clean free. next_cause a b c on cut clean e (λ _. why clean (still_unlimited a b on free)))

-- its last step, whose result is the call's
pub making_last : {X : Type 0} (a b c : State) → Continues a b → (r : Result X StoreFault) → OnOk r (Continues b c)
    → OnErr r (IsAborted b c) → (HasCleanDisk c → IfErr r (BlamesDisk b c)) → (HasCleanDisk b → FaultsHaveCause b c r)
    → LeavesMaking a c r
making_last a b c on r goes cut blames why = record {
  goes = on_ok_then r (Continues b c) (Continues a c) (continues_then on) goes;
  aborts = on_err_then r (IsAborted b c) (IsAborted a c) (cut_then on) cut;
  disk = λ clean. last_disk a b c on r cut clean (blames clean);
  faults = excused_then _ on r cut why;
}

-- ---- a call that reads

-- it ends with what was read
pub read_well : {X : Type 0} (a b : State) → LeavesUnchanged a b → {x : X} → Reads a b (Ok x)
read_well a b looked = record { crash = looked.goes.on.crash; looks = looked; aborts = tt; spares = λ clean. tt }

-- it ends with a fault
pub read_not : {X : Type 0} (a b : State) (r : Result X StoreFault) (e : StoreFault) → r ≡ Err e → IsAborted a b
    → (HasCleanDisk b → Spares IsSame a b e) → Reads a b r
read_not a b r e is cut spares =
    subst (Reads a b) (sym is) (record { crash = cut.crash; looks = tt; aborts = cut; spares = spares })

-- after a look
pub read_cut : {X : Type 0} (a b c : State) (r : Result X StoreFault) (e : StoreFault) → r ≡ Err e → LeavesUnchanged a b
    → IsAborted b c → (HasCleanDisk c → Spares IsSame b c e) → Reads a c r
read_cut a b c r e is looked cut spares =
    read_not a c r e is (cut_then looked.goes.on cut) (λ clean. looked_spares looked (early cut.crash clean) e (spares clean))

-- ---- a call that writes

-- its last step leaves the transaction so, after others that went well
pub leaves_last : {X : Type 0} (touched : List ℕ) (a b c : State) (r : Result X StoreFault) → Goes a b
    → (HasCleanDisk b → OnlyTouches touched a.now b.now) → LeavesOr (OnlyTouches touched) b c r
    → LeavesOr (OnlyTouches touched) a c r
leaves_last touched a b c (Ok x) went only last = left_well touched a c (goes_then went last.goes)
leaves_last touched a b c (Err e) went only last =
    left_fault touched a b c went only (Err e) e refl last.aborts last.spares

-- a statement touches no table where it fails
pub leaves_part : {X : Type 0} (touched : List ℕ) (a b : State) (r : Result X StoreFault) → Leaves a b r
    → LeavesOr (OnlyTouches touched) a b r
leaves_part touched a b r it =
    record { crash = it.crash; goes = it.goes; aborts = it.aborts; spares = λ clean. untouched_last touched a b r (it.spares clean) }

-- ---- a call on tables that show a model, of which a later step fails

module _ {S X Stays Model : Type 0} {g : store.Ghosts S} {represents : Database → Stays → Model → Type 0} {kept may : Model → Type 0} {before after : Held S} {b : State} {r : Result X StoreFault} where
  pub tells_cut : {answer : Stays → Model → X → Type 0} {e : StoreFault} → r ≡ Err e → LeavesUnchanged (state g before) b
      → IsAborted b (state g after) → ((s : Stays) (m : Model) → represents (state g before).now s m → may m → kept m → HasCleanDisk b → HasCleanDisk (state g after) → IsUnlimited b → HasCause b (state g after) e) → Answers g represents before after r may kept answer
  tells_cut {answer = answer} {e = e} is looked cut why =
      tells_not is (cut_then looked.goes.on cut) (λ s m shown allowed within clean free. next_cause (state g before) b (state g after) looked.goes.on cut clean e (λ cleaner. why s m shown allowed within cleaner clean (still_unlimited (state g before) b looked.goes.on free)))

  pub makes_cut : {made : Model → Model} {touched : List ℕ} {e : StoreFault} → r ≡ Err e → Continues (state g before) b → IsAborted b (state g after)
      → ((s : Stays) (m : Model) → represents (state g before).now s m → may m → kept m → HasCleanDisk b → HasCleanDisk (state g after) → IsUnlimited b → HasCause b (state g after) e) → Updates g touched represents before after r may kept made
  makes_cut {made = made} {touched = touched} {e = e} is on cut why =
      makes_not is (cut_then on cut) (λ s m shown allowed within clean free. next_cause (state g before) b (state g after) on cut clean e (λ cleaner. why s m shown allowed within cleaner clean (still_unlimited (state g before) b on free)))
