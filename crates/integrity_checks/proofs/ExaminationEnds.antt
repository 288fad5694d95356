-- How a call ends that examines rows.
use Rattle.std.proofs.Common.{◌≡◌, inl, Ok, Err, Result, refl, sym, subst}
use Rattle.std.specs.Prelude.{IfOk}
use Rattle.sqlite_trees.specs.declared.store.Store as store
use Rattle.office_tables.proofs.CallEnds.{excused_then, read_not, same_fault}
use Rattle.office_tables.specs.Faults.{BlamesDisk, HasCause, FaultsHaveCause}
use Rattle.office_tables.specs.Query.{Reads}
use Rattle.office_tables.specs.Step.{LeavesUnchanged}
use Rattle.office_tables.specs.declared.fault.StoreFault.TheVariants as fault
use Rattle.row_decoding.proofs.ReadCalls.{reads_then, reads_well, same_trees}
use Rattle.row_decoding.specs.Examinations.{Examines}
use Rattle.integrity_checks.proofs.Common.{HasCleanDisk, Held, IfErr, IsErr, IsErrAnd, State, StoreFault, Trees}
use Rattle.integrity_checks.proofs.Common.{cut_after, early, state}

module _ {S X : Type 0} {g : store.Ghosts S} {before after : Held S} {answer : Trees → X → Type 0} where
  -- it answers by what was read
  pub examined : {x : X} → LeavesUnchanged (state g before) (state g after)
      → (HasCleanDisk (state g after) → answer (state g before).now.trees x) → Examines g before after (Ok x) answer
  examined {x} looked is = record { reads = reads_well (state g before) (state g after) x looked; answers = is; faults = λ clean free. tt }

  -- there was no memory for what was read
  full : LeavesUnchanged (state g before) (state g after) → (e : StoreFault) → e ≡ fault.Memory
      → Examines g before after (Err e) answer
  full looked e memory = record {
    reads = read_not (state g before) (state g after) (Err e) e refl (cut_after looked.goes.on) (λ clean. record { disk = subst (BlamesDisk (state g before) (state g after)) (sym memory) tt; rows = inl (looked.same clean) });
    answers = λ clean. tt;
    faults = λ clean free. subst (HasCause (state g before) (state g after)) (sym memory) tt;
  }

  pub is_full : {r : Result X StoreFault} → IsErr r × IsErrAnd r (λ f. f ≡ fault.Memory)
      → LeavesUnchanged (state g before) (state g after) → Examines g before after r answer
  is_full {r} handed looked =
      subst (λ (r : Result X StoreFault). Examines g before after r answer) (sym (same_fault handed)) (full looked fault.Memory refl)

  -- it answers by what was read, if there was memory for it
  pub examined_or_full : {r : Result X StoreFault} → LeavesUnchanged (state g before) (state g after)
      → IfErr r (λ e. e ≡ fault.Memory) → (HasCleanDisk (state g after) → IfOk r (answer (state g before).now.trees))
      → Examines g before after r answer
  examined_or_full {r} looked = on r
    where
      on : (r : Result X StoreFault) → IfErr r (λ e. e ≡ fault.Memory)
          → (HasCleanDisk (state g after) → IfOk r (answer (state g before).now.trees))
          → Examines g before after r answer
      on (Ok x) memory is = examined looked is
      on (Err e) memory is = full looked e memory

  -- it passes a fault on
  module _ {r : Result X StoreFault} {e : StoreFault} (handed : IsErr r × IsErrAnd r (λ f. f ≡ e)) where
    -- of a query
    pub passes_of : {Y : Type 0} → Reads {X = Y} (state g before) (state g after) (Err e)
        → FaultsHaveCause {X = Y} (state g before) (state g after) (Err e) → Examines g before after r answer
    passes_of read faults =
        subst (λ (r : Result X StoreFault). Examines g before after r answer) (sym (same_fault handed))
        (record { reads = read_not (state g before) (state g after) (Err e) e refl read.aborts read.spares; answers = λ clean. tt; faults = faults })

    -- of its first call
    pub passes : {Y : Type 0} {other : Trees → Y → Type 0} → Examines g before after (Err e) other
        → Examines g before after r answer
    passes it = passes_of it.reads it.faults

    -- of a later one
    pub passes_later : {mid : Held S} {Y : Type 0} {other : Trees → Y → Type 0}
        → LeavesUnchanged (state g before) (state g mid) → Examines g mid after (Err e) other
        → Examines g before after r answer
    passes_later {mid} {Y} looked it =
        passes_of (reads_then {X = Y} (state g before) (state g mid) (state g after) (Err e) looked it.reads)
        (excused_then {X = Y} _ looked.goes.on (Err e) it.reads.aborts (λ clean. it.faults))

module _ {S Y : Type 0} {g : store.Ghosts S} {mid after : Held S} {r : Result Y StoreFault} {other : Trees → Y → Type 0} where
  -- the disk was clean before it
  pub earlier : Examines g mid after r other → HasCleanDisk (state g after) → HasCleanDisk (state g mid)
  earlier it clean = early it.reads.crash clean

  -- what a call answers after a look, it answers of the tables as they were
  pub still : {old : State} → LeavesUnchanged old (state g mid) → Examines g mid after r other
      → HasCleanDisk (state g after) → IfOk r (other old.now.trees)
  still {old} looked it clean =
      subst (λ (db : Trees). IfOk r (other db)) (same_trees old (state g mid) looked (earlier it clean)) (it.answers clean)

  -- a call ends with it, after a look
  pub examined_last : {before : Held S} {answer : Trees → Y → Type 0} → LeavesUnchanged (state g before) (state g mid)
      → Examines g mid after r other
      → (HasCleanDisk (state g mid) → (y : Y) → other (state g before).now.trees y → answer (state g before).now.trees y)
      → Examines g before after r answer
  examined_last {before} {answer} looked it is = record {
    reads = reads_then (state g before) (state g mid) (state g after) r looked it.reads;
    answers = λ clean. on_ok r (is (earlier it clean)) (still looked it clean);
    faults = excused_then _ looked.goes.on r it.reads.aborts (λ clean. it.faults);
  }
    where
      on_ok : (r : Result Y StoreFault)
          → ((y : Y) → other (state g before).now.trees y → answer (state g before).now.trees y)
          → IfOk r (other (state g before).now.trees) → IfOk r (answer (state g before).now.trees)
      on_ok (Ok y) is held = is y held
      on_ok (Err e) is held = tt
