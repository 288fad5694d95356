-- An office over tables of any origin, against which there is no cause.
use Rattle.std.proofs.Common.{◌≡◌, ◌≤◌, ◌∙◌, ℕ, List, Ok, Err, None, IsTrue, false, inl, inr, arith, ap, refl, sym, subst}
use Rattle.sqlite.specs.Order.{Row}
use Rattle.sqlite.specs.State.{ExecutesIn}
use Rattle.sqlite.specs.State as store
use Rattle.sqlite.specs.declared.error.Error.{Error}
use Rattle.sqlite_trees.specs.declared.store.Store as trees
use Rattle.office_tables.specs.Transactions.{IsStopped}
use Rattle.office_tables.specs.declared.fault.StoreFault.TheVariants as cause
use Rattle.row_completeness.specs.WholePlaces.{RepresentsWhatItDescribes}
use Rattle.adoption.proofs.catalogue.Shown.{catalogue_shown}
use Rattle.adoption.proofs.tables.ShownTables.{sound_are_good, sound_state}
use Rattle.adoption.specs.OrderedTables.{StandInOrder}
use Rattle.adoption.specs.Tables.{RepresentsItsState, SoundTablesRepresentTheirState}
use Rattle.adoption.specs.declared.verdict.Verdict.{Verdict}
use Rattle.adoption.specs.declared.verdict.Verdict.TheVariants as verdict
use Rattle.office.proofs.Common.{BlamesDisk, ConfirmsOpen, Database, Executes, Forest, HasAdoptCause, HasCleanDisk}
use Rattle.office_tables.specs.Faults.{IsUnlimited}
use Rattle.office.specs.IdleOffice.{IsOffice}
use Rattle.office.proofs.Common.{HasOuterCause, Held, Inspects, IsAdopted, IsAsBefore, IsIn, IsLive, IsNotRun}
use Rattle.office.proofs.Common.{IsSoundOffice, IsVerdict, RepresentsState, Shows, StoreFault, Survives, Trees, Version}
use Rattle.office.proofs.Common.{both_ways, cases_Bool, early, encoding, fault_for_verdict, open_fault_of, state}
use Rattle.office.proofs.Common.{state_in, survives_then}

-- no fault is told of a sound office's tables alone
pub none_refused : (v : Verdict) → fault_for_verdict v ≡ None → v ≡ verdict.Sound
none_refused verdict.Sound none = refl
none_refused verdict.NoOffice none = absurd cc
none_refused verdict.OldVersion none = absurd cc
none_refused verdict.NewVersion none = absurd cc
none_refused verdict.OtherTables none = absurd cc
none_refused (verdict.Unsound n) none = absurd cc

-- tables without a cause represent the state that their rows describe
pub sound_shown : (places : Trees → Forest ℕ → Type 0) (version : Version)
    → ((db : Trees) → RepresentsWhatItDescribes places (encoding version) db) → (db : Database)
    → SoundTablesRepresentTheirState places version db
sound_shown places version shows db sound =
    sound_state places version db sound (catalogue_shown version db (sound_are_good version db sound) places shows)

-- they were looked over, and no fault is told of them
module _ {S : Type 0} {g : trees.Ghosts S} {before after : Held S} {version : Version} {told : Verdict} (looked : Inspects g before after version (Ok told)) (none : fault_for_verdict told ≡ None) where
  are_sound : HasCleanDisk (state g after) → IsVerdict version (state g before).now verdict.Sound
  are_sound clean = subst (IsVerdict version (state g before).now) (none_refused told none) (looked.answers clean)

  pub adopted : HasCleanDisk (state g after) → IsAdopted version (state g before) (state g after)
  adopted clean = record { sound = are_sound clean; same = (looked.back clean).now }

  module _ (places : Trees → Forest ℕ → Type 0) (shows : (db : Trees) → RepresentsWhatItDescribes places (encoding version) db) (live : IsLive (state g before)) (clean : HasCleanDisk (state g after)) where
    its_state : IsTrue (state g after).is_open → StandInOrder (state g before).now
        → RepresentsItsState places version (state g before).now
    its_state opened ordered =
        sound_shown places version shows (state g before).now
        (record { schema_is = (are_sound clean).0.schema_is; live = (live ((looked.back clean).was_open opened)).0; ordered = ordered; causeless = (are_sound clean).1 ordered })

    pub adopted_sound : IsTrue (state g after).is_open → StandInOrder (state g before).now
        → IsSoundOffice (state_in version (state g before).now.trees)
    adopted_sound opened ordered = (its_state opened ordered).sound

    pub adopted_shown : StandInOrder (state g before).now
        → IsIn places version (state_in version (state g before).now.trees) (state g after)
    adopted_shown ordered opened =
        subst (λ (db : Database). RepresentsState places version db (state_in version (state g before).now.trees)) (sym ((looked.back clean).now opened)) (its_state opened ordered).represents

-- a fault of the store: the disk is blamed for its own failures only, and the tables are not blamed if they are in
-- order
pub store_cause : (version : Version) (old new : store.State) (f : StoreFault) → BlamesDisk old new f
    → (StandInOrder old.now → HasOuterCause old new f) → HasAdoptCause version old new (open_fault_of f)
store_cause version old new cause.Memory blames why = tt
store_cause version old new cause.Disk blames why = blames
store_cause version old new cause.Schema blames why = λ ordered. absurd (why ordered)

-- a fault of a whole transaction blames the disk for its own failures only
pub outer_blames : (old new : store.State) (f : StoreFault) → HasOuterCause old new f → BlamesDisk old new f
outer_blames old new cause.Memory why = tt
outer_blames old new cause.Disk why = why
outer_blames old new cause.Schema why = tt

-- what was blamed inside the transaction is blamed of the whole call
pub blames_outside : (before old new after : store.State) → before.faults ≤ old.faults → new.faults ≤ after.faults
    → IsTrue old.is_open → (f : StoreFault) → BlamesDisk old new f → BlamesDisk before after f
blames_outside before old new after counts counts_after opened cause.Memory blames = tt
blames_outside before old new after counts counts_after opened cause.Disk blames = elim blames [
  | inl more ↦ inl (omega arith)
  | inr shut ↦ absurd cc
]
blames_outside before old new after counts counts_after opened cause.Schema blames = tt

-- ---- a connection that is found open or not, after the tables were judged

-- a text that could not be prepared is one that was not run
pub not_prepared : (sql : List ℕ) (params : Row) (old new : store.State) (e : Error) → IsNotRun old new sql params e
    → Executes sql params old new (Err e)
unfolding ExecutesIn
not_prepared sql params old new e h = inl h

pub still_before : (a b d : store.State) → IsAsBefore a b → Shows b d b.now b.committed b.in_transaction
    → IsAsBefore a d
still_before a b d same it = record {
  was_open = λ opened. same.was_open it.was_open;
  now = λ opened. it.now_is ∙ same.now it.was_open;
  committed = λ opened. it.committed_is ∙ same.committed it.was_open;
  ended = it.mode ∙ same.ended;
}

pub stopped_before : (a b d : store.State) → IsAsBefore a b → (IsTrue b.is_open → b.now ≡ b.committed) → IsStopped b d
    → IsAsBefore a d
stopped_before a b d same settled (inl still) = still_before a b d same still.0
stopped_before a b d same settled (inr back) = record {
  was_open = λ opened. same.was_open (back.was_open opened);
  now = λ opened. (back.undone opened).0 ∙ sym (settled (back.was_open opened)) ∙ same.now (back.was_open opened);
  committed = λ opened. (back.undone opened).1 ∙ same.committed (back.was_open opened);
  ended = back.autocommit;
}

-- the cause of a fault after a call that committed nothing is one of both together
pub caused_later : (a b d : store.State) → Survives a b (λ _. ⊥) → b.faults ≤ d.faults → HasCleanDisk b
    → (f : StoreFault) → HasOuterCause b d f → HasOuterCause a d f
caused_later a b d crash counts clean cause.Memory why = tt
caused_later a b d crash counts clean cause.Disk (inl more) = inl (omega (arith, more, crash.counts, counts))
caused_later a b d crash counts clean cause.Disk (inr shut) = elim (cases_Bool a.is_open) [
  | inl was ↦ elim (crash.closes clean was) [
    | inl still ↦ absurd (both_ways _ shut still)
    | inr more ↦ inl (omega (arith, more, crash.counts, counts))
  ]
  | inr none ↦ inr none
]
caused_later a b d crash counts clean cause.Schema why = why

apart : (a b d : store.State) → Survives a b (λ _. ⊥) → Survives b d (λ _. ⊥) → Survives a d (λ _. ⊥)
apart a b d first second =
    survives_then a b d (λ _. ⊥) (λ _. ⊥) (λ _. ⊥) (λ _ db none. none) (λ _ db none. none) first second

both_before : (a b d : store.State) → IsAsBefore a b → IsAsBefore b d → IsAsBefore a d
both_before a b d first second = record {
  was_open = λ opened. first.was_open (second.was_open opened);
  now = λ opened. second.now opened ∙ first.now (second.was_open opened);
  committed = λ opened. second.committed opened ∙ first.committed (second.was_open opened);
  ended = second.ended;
}

-- what was read afterwards left all as it was
pub inspected_on : {S : Type 0} {g : trees.Ghosts S} {before mid after : Held S} {version : Version} {told : Verdict} → Inspects g before mid version (Ok told)
    → (HasCleanDisk (state g after) → IsAsBefore (state g mid) (state g after)) → Survives (state g mid) (state g after) (λ _. ⊥)
    → Inspects g before after version (Ok told)
inspected_on {g = g} {before} {mid} {after} judged same crash =
    let a = state g before in
    let b = state g mid in
    let d = state g after in
    record {
      answers = λ clean. judged.answers (early crash clean);
      back = λ clean. both_before a b d (judged.back (early crash clean)) (same clean);
      disk = λ clean. tt;
      faults = λ clean ordered. tt;
      crash = apart a b d judged.crash crash;
    }

-- ---- a connection that is found open after the marks were read

pub open_before : (b d : store.State) → b.in_transaction ≡ false → Shows b d b.now b.committed b.in_transaction → IsAsBefore b d
open_before b d outside it = record {
  was_open = λ opened. it.was_open;
  now = λ opened. it.now_is;
  committed = λ opened. it.committed_is;
  ended = it.mode ∙ outside;
}

pub office_found : (version : Version) (b d : store.State) → IsOffice version b → (HasCleanDisk d → HasCleanDisk b)
    → (HasCleanDisk d → Shows b d b.now b.committed b.in_transaction) → IsUnlimited d → IsOffice version d
office_found version b d office clean_b shows free = record {
  unlimited = free;
  rests = λ clean.
      let it = shows clean in
      let rest = office.rests (clean_b clean) in
      record {
        ended = it.mode ∙ rest.ended;
        schema_is = λ opened. ap (λ (db : Database). db.schema) it.now_is ∙ rest.schema_is it.was_open;
        settled = λ opened. it.now_is ∙ rest.settled it.was_open ∙ sym it.committed_is;
      };
}

module _ {S X : Type 0} {g : trees.Ghosts S} {before mid after : Held S} {version : Version} {told : Verdict} (judged : Inspects g before mid version (Ok told)) where
  -- it is open
  pub found_open : {x : X} → ConfirmsOpen g mid after (Ok x) → Inspects g before after version (Ok told)
  found_open found =
      let a = state g before in
      let b = state g mid in
      let d = state g after in
      record {
        answers = λ clean. judged.answers (early found.crash clean);
        back = λ clean. still_before a b d (judged.back (early found.crash clean)) (found.still_open clean);
        disk = λ clean. tt;
        faults = λ clean ordered. tt;
        crash = apart a b d judged.crash found.crash;
      }

  -- it is shut, or there is no memory to see that
  pub found_shut : {e : StoreFault}
      → (HasCleanDisk (state g mid) → IsTrue (state g mid).is_open → (state g mid).now ≡ (state g mid).committed)
      → ConfirmsOpen g mid after {X = X} (Err e) → Inspects g before after version (Err e)
  found_shut {e} settled found =
      let a = state g before in
      let b = state g mid in
      let d = state g after in
      let why = λ (clean : HasCleanDisk d).
      let at_b = early found.crash clean in
      caused_later a b d judged.crash found.crash.counts at_b e (found.faults clean (judged.back at_b).ended) in
      record {
        answers = λ clean. tt;
        back = λ clean. let at_b = early found.crash clean in stopped_before a b d (judged.back at_b) (settled at_b) (found.stopped clean);
        disk = λ clean. outer_blames a d e (why clean);
        faults = λ clean ordered. why clean;
        crash = apart a b d judged.crash found.crash;
      }
