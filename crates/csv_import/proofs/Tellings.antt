-- A call that reads, and hands on what a later call tells of what the same tables show.
use Rattle.std.proofs.Common.{◌≡◌, Result, Ok, Err, OnOk, OnErr, subst, sym}
use Rattle.sqlite.specs.State.{State}
use Rattle.sqlite_trees.specs.declared.store.Store as store
use Rattle.office_tables.specs.Faults.{HasCause, IsUnlimited}
use Rattle.access.proofs.Passing.{if_ok_then}
use Rattle.csv_import.proofs.Common.{Answers, Database, HasCleanDisk, Held, IsAborted, IsErr, IsErrAnd, LeavesUnchanged}
use Rattle.csv_import.proofs.Common.{StoreFault, Survives, cut_then, early, excused_then, looks_then, on_err_then}
use Rattle.csv_import.proofs.Common.{on_ok_then, same_fault, state, tells_cut, tells_well}

-- it tells what was read
pub tells_so : {S X A B : Type 0} {g : store.Ghosts S} {represents : Database → A → B → Type 0} {kept may : B → Type 0} {before after : Held S} {x : X} {answer : A → B → X → Type 0}
    → LeavesUnchanged (state g before) (state g after)
    → (HasCleanDisk (state g after) → (s : A) (m : B) → represents (state g before).now s m → answer s m x)
    → Answers g represents before after (Ok x) may kept answer
tells_so looked told = tells_well looked told

-- it tells more than its last look told
pub tells_of : {S X Y A B : Type 0} {g : store.Ghosts S} {represents : Database → A → B → Type 0} {kept may other_kept other_may : B → Type 0} {before after : Held S} {x : X} {y : Y} {told : A → B → Y → Type 0} {answer : A → B → X → Type 0}
    → Answers g represents before after (Ok y) other_may other_kept told
    → ((s : A) (m : B) → represents (state g before).now s m → told s m y → answer s m x)
    → Answers g represents before after (Ok x) may kept answer
tells_of last means = tells_well last.looks (λ clean s m shown. means s m shown (last.answers clean s m shown))

-- what a later look tells of what the tables showed before
pub told_later : {S X A B : Type 0} {g : store.Ghosts S} {represents : Database → A → B → Type 0} {kept may : B → Type 0} {a : State} {mid after : Held S} {x : X} {told : A → B → X → Type 0}
    → LeavesUnchanged a (state g mid) → Answers g represents mid after (Ok x) may kept told
    → HasCleanDisk (state g after) → (s : A) (m : B) → represents a.now s m
    → HasCleanDisk (state g mid) × told s m x
told_later {represents = represents} looked last clean s m shown =
    let at_b = early last.looks.goes.on.crash clean in
    (at_b, last.answers clean s m (subst (λ (db : Database). represents db s m) (sym (looked.same at_b)) shown))

-- it looked before, and tells more than its last look told
pub tells_later : {S X Y A B : Type 0} {g : store.Ghosts S} {represents : Database → A → B → Type 0} {kept may other_kept other_may : B → Type 0} {before mid after : Held S} {x : X} {y : Y} {told : A → B → Y → Type 0} {answer : A → B → X → Type 0}
    → LeavesUnchanged (state g before) (state g mid) → Answers g represents mid after (Ok y) other_may other_kept told
    → (HasCleanDisk (state g mid) → (s : A) (m : B) → represents (state g before).now s m → told s m y → answer s m x)
    → Answers g represents before after (Ok x) may kept answer
tells_later looked last means =
    tells_well (looks_then looked last.looks) (λ clean s m shown. (let now = told_later looked last clean s m shown in means now.0 s m shown now.1))

-- it looked first, and passes the fault of a later step on
pub tells_cut_later : {S X A B : Type 0} {g : store.Ghosts S} {represents : Database → A → B → Type 0} {kept may : B → Type 0} {before : Held S} (mid : Held S) {after : Held S} (e : StoreFault) {r : Result X StoreFault} {answer : A → B → X → Type 0}
    → IsErr r × IsErrAnd r (λ f. f ≡ e)
    → LeavesUnchanged (state g before) (state g mid) → IsAborted (state g mid) (state g after)
    → ((s : A) (m : B) → represents (state g before).now s m → may m → kept m → HasCleanDisk (state g mid) → HasCleanDisk (state g after) → IsUnlimited (state g mid) → HasCause (state g mid) (state g after) e)
    → Answers g represents before after r may kept answer
tells_cut_later {g = g} {represents = represents} {kept = kept} {may = may} {before = before} mid {after = after} e {r = r} {answer = answer} handed looked cut why =
    tells_cut (same_fault handed) looked cut why

looked_crash : {X E : Type 0} (r : Result X E) (a b : State) → OnOk r (LeavesUnchanged a b) → OnErr r (IsAborted a b)
    → Survives a b (λ _. ⊥)
looked_crash (Ok x) a b looks cut = looks.goes.on.crash
looked_crash (Err e) a b looks cut = cut.crash

-- what the later call is told of is shown too, and is as it needs it
pub record IsAlso {A B C D : Type 0} (represents : Database → A → B → Type 0) (may kept : B → Type 0) (others : Database → C → D → Type 0) (other_may other_kept : D → Type 0) (beside : A → B → C) (model : A → B → D) (a b : State) : Type 0 where
  pub shown : HasCleanDisk b → (s : A) (m : B) → represents a.now s m → others b.now (beside s m) (model s m)
  pub allowed : HasCleanDisk b → (s : A) (m : B) → represents a.now s m → may m → kept m
      → other_may (model s m) × other_kept (model s m)

module _ {S Y A B C D : Type 0} {g : store.Ghosts S} {represents : Database → A → B → Type 0} {kept : B → Type 0} {others : Database → C → D → Type 0} {other_kept other_may : D → Type 0} {before mid after : Held S} {r : Result Y StoreFault} where
  pub told_last : (beside : A → B → C) (model : A → B → D) {may : B → Type 0} {told : C → D → Y → Type 0} {answer : A → B → Y → Type 0}
      → Answers g others mid after r other_may other_kept told → LeavesUnchanged (state g before) (state g mid)
      → IsAlso represents may kept others other_may other_kept beside model (state g before) (state g mid)
      → (HasCleanDisk (state g mid) → (s : A) (m : B) → represents (state g before).now s m → (y : Y) → told (beside s m) (model s m) y → answer s m y)
      → Answers g represents before after r may kept answer
  told_last beside model {told = told} {answer = answer} last looked also means =
      let a = state g before in
      let b = state g mid in
      let c = state g after in
      let still = λ (clean : HasCleanDisk c). early (looked_crash r b c last.looks last.aborts) clean in
      record {
        answers = λ clean s m shown.
            if_ok_then r (told (beside s m) (model s m)) (answer s m) (means (still clean) s m shown) (last.answers clean (beside s m) (model s m) (also.shown (still clean) s m shown));
        looks = on_ok_then r (LeavesUnchanged b c) (LeavesUnchanged a c) (λ on. looks_then looked on) last.looks;
        aborts = on_err_then r (IsAborted b c) (IsAborted a c) (λ cut. cut_then looked.goes.on cut) last.aborts;
        faults = λ s m shown so sound.
            excused_then _ looked.goes.on r last.aborts (λ at_b. (let fit = also.allowed at_b s m shown so sound in last.faults (beside s m) (model s m) (also.shown at_b s m shown) fit.0 fit.1));
      }

-- the same, where the later call is told of the same tables
pub told_again : {S Y A B : Type 0} {g : store.Ghosts S} {represents : Database → A → B → Type 0} {kept may other_kept other_may : B → Type 0} {before mid after : Held S} {r : Result Y StoreFault} {told answer : A → B → Y → Type 0}
    → Answers g represents mid after r other_may other_kept told → LeavesUnchanged (state g before) (state g mid)
    → (HasCleanDisk (state g mid) → (s : A) (m : B) → represents (state g before).now s m → may m → kept m → other_may m × other_kept m)
    → (HasCleanDisk (state g mid) → (s : A) (m : B) → represents (state g before).now s m → (y : Y) → told s m y → answer s m y)
    → Answers g represents before after r may kept answer
told_again {represents = represents} last looked allowed means =
    told_last (λ s m. s) (λ s m. m) last looked
    (record { shown = λ clean s m shown. subst (λ (db : Database). represents db s m) (sym (looked.same clean)) shown; allowed = allowed })
    means
