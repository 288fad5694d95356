-- What one statement leaves of the caller's transaction, for a text whose meaning is known.
use Rattle.std.proofs.Common.{◌≡◌, ◌⊎◌, inl, inr, ℕ, List, Bool, true, false, IsTrue, Ok, Err, Result, OnOk, OnErr}
use Rattle.std.proofs.Common.{None, refl, sym, ap, arith, subst, subst₂, ◌∙◌, append-nil, if◌then◌else◌}
use Rattle.sqlite.specs.Command.TheVariants.{Delete}
use Rattle.sqlite.specs.Listing.{understood}
use Rattle.sqlite.specs.State.{Shown, FailsToQuery, CommitsBy}
use Rattle.office_tables.specs.Versions.{Version}
use Rattle.office_tables.proofs.Common.{Command, CommitsShowing, Continues, CreateIndex, CreateTable, Error, Executes}
use Rattle.office_tables.proofs.Common.{Goes, GoesOn, HasCleanDisk, InOffice, InTransaction, Insert, IsAborted, IsBack}
use Rattle.office_tables.proofs.Common.{IsPlain, IsStopped, IsUnchanged, LeavesUnchanged, MayCommit, Row, Schema, Shows}
use Rattle.office_tables.proofs.Common.{State, Survives, Trees, Update, command_of, never_commits, schema, statement_of}
use Rattle.office_tables.proofs.Common.{survives_then, survives_weaker}
use Rattle.office_tables.proofs.Errors.{stops, fails, keeps}

pub early : {old new : State} {P : Trees → Type 0} → Survives old new P → HasCleanDisk new → HasCleanDisk old
early s clean = omega (arith, s.clean)

both_open : (a b : State) → IsTrue a.is_open → IsTrue b.is_open → b.is_open ≡ a.is_open
both_open a b p q = q ∙ sym p

-- ---- one step after another

on_then : {a b c : State} → GoesOn a b → GoesOn b c → GoesOn a c
on_then p q = record { opened = q.opened ∙ p.opened; committed = q.committed ∙ p.committed; mode = q.mode ∙ p.mode }

pub back_then : {a b c : State} → GoesOn a b → IsBack b c → IsBack a c
back_then p q = record { was_open = λ h. subst IsTrue p.opened (q.was_open h); now = λ h. q.now h ∙ p.committed; committed = λ h. q.committed h ∙ p.committed; ended = q.ended }

cut_on : {a b c : State} → GoesOn a b → GoesOn b c ⊎ IsBack b c → GoesOn a c ⊎ IsBack a c
cut_on p (inl q) = inl (on_then p q)
cut_on p (inr q) = inr (back_then p q)

crash_then : {a b c : State} → Survives a b (λ _. ⊥) → Survives b c (λ _. ⊥) → Survives a c (λ _. ⊥)
crash_then {a = a} {b = b} {c = c} p q = survives_then a b c (λ _. ⊥) (λ _. ⊥) (λ _. ⊥) (λ _ db none. none) (λ _ db none. none) p q

pub continues_then : {a b c : State} → Continues a b → Continues b c → Continues a c
continues_then p q = record {
  crash = crash_then p.crash q.crash;
  within = λ clean. on_then (p.within (early q.crash clean)) (q.within clean);
}

pub goes_then : {a b c : State} → Goes a b → Goes b c → Goes a c
goes_then p q = record {
  on = continues_then p.on q.on;
  schema = λ clean. q.schema clean ∙ p.schema (early q.on.crash clean);
}

pub cut_then : {a b c : State} → Continues a b → IsAborted b c → IsAborted a c
cut_then p q = record {
  crash = crash_then p.crash q.crash;
  aborts = λ clean. cut_on (p.within (early q.crash clean)) (q.aborts clean);
}

-- a step that succeeded, of a call that then fails
pub cut_after : {a b : State} → Continues a b → IsAborted a b
cut_after p = record { crash = p.crash; aborts = λ clean. inl (p.within clean) }

pub still : (version : Version) (a b : State) → InTransaction version a → Goes a b → InTransaction version b
still version a b inside p clean =
    (p.schema clean ∙ (inside (early p.on.crash clean)).0, (p.on.within clean).mode ∙ (inside (early p.on.crash clean)).1)

pub looks_then : {a b c : State} → LeavesUnchanged a b → LeavesUnchanged b c → LeavesUnchanged a c
looks_then p q = record { goes = goes_then p.goes q.goes; same = λ clean. q.same clean ∙ p.same (early q.goes.on.crash clean) }

-- no step at all
stays : (a : State) → Survives a a (λ _. ⊥)
stays a = record { clean = omega arith; shield = λ h. h; counts = omega arith; limit = refl; closes = λ clean is. inl is; crash = λ clean db h. inl h }

pub goes_nowhere : {a : State} → Goes a a
goes_nowhere {a = a} = record {
  on = record { crash = stays a; within = λ clean. record { opened = refl; committed = refl; mode = refl } };
  schema = λ clean. refl;
}

-- ---- writes

abbrev pub is_write : Command → Bool
is_write (Insert at from) = true
is_write (Update at q) = true
is_write (Delete at q) = true
is_write CreateTable = true
is_write (CreateIndex at) = true
is_write _ = false

pub unchanged_on : (a b : State) → IsTrue a.in_transaction → IsUnchanged a b → GoesOn a b
unchanged_on a b inside same =
    record { opened = both_open a b same.0.was_open same.0.is_open; committed = same.0.committed_is; mode = same.0.mode }

pub stopped : (a b : State) → IsTrue a.in_transaction → IsStopped a b → GoesOn a b ⊎ IsBack a b
stopped a b inside (inl same) = inl (unchanged_on a b inside same)
stopped a b inside (inr back) =
    inr (record { was_open = back.was_open; now = λ h. (back.undone h).0; committed = λ h. (back.undone h).1; ended = back.autocommit })

shown_on : (a b : State) → IsTrue a.in_transaction
    → Shows a b b.now (if a.in_transaction then a.committed else b.now) a.in_transaction → GoesOn a b
shown_on a b inside it = record {
  opened = both_open a b it.was_open it.is_open;
  committed = it.committed_is ∙ ap (λ k. if k then a.committed else b.now) inside;
  mode = it.mode;
}

-- the text means this command, and a transaction is open
pub record Knows (sql : List ℕ) (command : Command) (old : State) : Type 0 where
  pub is : command_of (understood old.now.schema sql) ≡ command
  pub plain : IsPlain (understood old.now.schema sql)
  pub inside : IsTrue old.in_transaction

pub known_in : (schema : Schema) (sql : List ℕ) (command : Command) (old : State) → old.now.schema ≡ schema
    → IsTrue old.in_transaction → command_of (understood schema sql) ≡ command → IsPlain (understood schema sql)
    → Knows sql command old
known_in schema sql command old has inside is plain = record {
  is = ap (λ s. command_of (understood s sql)) has ∙ is;
  plain = subst (λ s. IsPlain (understood s sql)) (sym has) plain;
  inside = inside;
}

pub in_office : (sql : List ℕ) (command : Command) (old : State) → InOffice old
    → ((v : Version) → command_of (understood (schema v) sql) ≡ command)
    → ((v : Version) → IsPlain (understood (schema v) sql))
    → HasCleanDisk old → Knows sql command old
in_office sql command old office is plain clean = let it = office clean in known_in (schema it.0) sql command old it.1 it.2 (is it.0) (plain it.0)

pub office_of : (v : Version) (a : State) → InTransaction v a → InOffice a
office_of v a inside clean = (v, (inside clean).0, (inside clean).1)

module _ (sql : List ℕ) (params : Row) (old new : State) (command : Command) (writes : is_write command ≡ true) (known : HasCleanDisk old → Knows sql command old) where
  commits_as : Knows sql command old → (db : Trees) → CommitsBy sql params old db
      → MayCommit old None command (statement_of sql (understood old.now.schema sql)) params db
  unfolding CommitsBy
  commits_as it db h =
      let known = sym h.1.is in
      let bare = subst IsPlain (sym known) it.plain in
      subst₂ (λ k t. MayCommit old None k t params db) (ap command_of known ∙ it.is) (ap (statement_of sql) known) (rw (bare.0, bare.1, append-nil params) at h.2)

  alone : (k : Command) (text : List ℕ) (db : Trees) → is_write k ≡ true → MayCommit old None k text params db
      → old.in_transaction ≡ false
  alone k text db row (inl end) = elim end.0 [ inl e ↦ absurd (let h = sym row ∙ ap is_write e in cc) | inr e ↦ absurd (let h = sym row ∙ ap is_write e.2 in cc) ]
  alone k text db row (inr write) = write.0

  never : IsTrue old.in_transaction → old.in_transaction ≡ false → ⊥
  never inside none = let e : true ≡ false = sym inside ∙ none in cc

  pub write_crash : Survives old new (CommitsBy sql params old) → Survives old new (λ _. ⊥)
  write_crash s = survives_weaker old new (CommitsBy sql params old) (λ _. ⊥)
      (λ clean db h. let it = known (early s clean) in never it.inside (alone command _ db writes (commits_as it db h))) s

  pub write_cut : (e : Error) → (HasCleanDisk new → Executes sql params old new (Err e))
      → Survives old new (CommitsBy sql params old) → IsAborted old new
  write_cut e runs s = record { crash = write_crash s; aborts = λ clean. stopped old new (known (early s clean)).inside (stops sql params old new e (runs clean)) }

  pub write_continues : (HasCleanDisk new → Shows old new new.now (if old.in_transaction then old.committed else new.now) old.in_transaction)
      → Survives old new (CommitsBy sql params old) → Continues old new
  write_continues done s =
      record { crash = write_crash s; within = λ clean. shown_on old new (known (early s clean)).inside (done clean) }

-- ---- queries

module _ (sql : List ℕ) (params : Row) (old new : State) (command : Command) (known : HasCleanDisk old → Knows sql command old) where
  read_crash : Survives old new (CommitsShowing sql params old) → Survives old new (λ _. ⊥)
  read_crash s = survives_weaker old new _ _ (λ clean db h. never_commits sql params old db (known (early s clean)).plain h) s

  pub read_cut : (e : Error) → (HasCleanDisk new → FailsToQuery sql params old new e)
      → Survives old new (CommitsShowing sql params old) → IsAborted old new
  read_cut e runs s = record { crash = read_crash s; aborts = λ clean. stopped old new (known (early s clean)).inside (fails sql params old new e (runs clean)) }

  pub read_looks : (rows : List Row) → (HasCleanDisk new → Shown sql params old new rows)
      → Survives old new (CommitsShowing sql params old) → LeavesUnchanged old new
  read_looks rows shown s =
      let same = λ (clean : HasCleanDisk new). keeps sql params old new rows (known (early s clean)).plain (shown clean) in
      record {
        goes = record {
          on = record {
            crash = read_crash s;
            within = λ clean. unchanged_on old new (known (early s clean)).inside (same clean);
          };
          schema = λ clean. ap (λ d. d.schema) (same clean).0.now_is;
        };
        same = λ clean. (same clean).0.now_is;
      }

-- ---- the last call of a function, whose result is the function's

pub on_ok_then : {X E : Type 0} (r : Result X E) (P Q : Type 0) → (P → Q) → OnOk r P → OnOk r Q
on_ok_then (Ok x) P Q f p = f p
on_ok_then (Err e) P Q f p = tt

pub on_err_then : {X E : Type 0} (r : Result X E) (P Q : Type 0) → (P → Q) → OnErr r P → OnErr r Q
on_err_then (Ok x) P Q f p = tt
on_err_then (Err e) P Q f p = f p

-- ---- a statement of an office

pub write_went : (sql : List ℕ) (params : Row) (old new : State) (command : Command) (writes : is_write command ≡ true)
    → (HasCleanDisk old → Knows sql command old)
    → (HasCleanDisk new → (v : Version) × (old.now.schema ≡ schema v) × (new.now.schema ≡ schema v) × Shows old new new.now (if old.in_transaction then old.committed else new.now) old.in_transaction)
    → Survives old new (CommitsBy sql params old) → Goes old new
write_went sql params old new command writes known done s = record {
  on = write_continues sql params old new command writes known (λ clean. (done clean).3) s;
  schema = λ clean. let it = done clean in it.2 ∙ sym it.1;
}

pub on_ok_from : {X E : Type 0} (r : Result X E) (P : Type 0) → P → OnOk r P
on_ok_from (Ok x) P p = p
on_ok_from (Err e) P p = tt

-- what was read cannot be taken over
pub cut_looks : {X E : Type 0} (r : Result X E) (a b : State) → LeavesUnchanged a b → OnErr r (IsAborted a b)
cut_looks (Ok x) a b p = tt
cut_looks (Err e) a b p = cut_after p.goes.on

pub on_ok_both : {X E : Type 0} (r : Result X E) (P Q R : Type 0) → (P → Q → R) → OnOk r P → OnOk r Q → OnOk r R
on_ok_both (Ok x) P Q R f p q = f p q
on_ok_both (Err e) P Q R f p q = tt

pub looks_nowhere : {a : State} → LeavesUnchanged a a
looks_nowhere {a = a} = record { goes = goes_nowhere; same = λ clean. refl }
