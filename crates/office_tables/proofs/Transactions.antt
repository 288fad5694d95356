-- What BEGIN, COMMIT and ROLLBACK do, as text.
use Rattle.std.proofs.Common.{◌≡◌, ◌⊎◌, inl, inr, ℕ, List, [], codes, true, false, None, Ok, Err, Result, OnOk, IsTrue}
use Rattle.std.proofs.Common.{lit≤, refl, sym, ap, subst, subst₂, ◌∙◌, append-nil}
use Rattle.sqlite.specs.Listing.{understood}
use Rattle.sqlite.specs.State.{CommitsBy}
use Rattle.sqlite_tied.specs.Compute.{everything}
use Rattle.office_tables.proofs.Common.{Begin, Command, Commit, Committed, Error, Executes, HasOuterCause, IsBack}
use Rattle.office_tables.proofs.Common.{IsMisplaced, IsPlain, IsRolledBack, IsStopped, MayCommit, Rollback, Schema}
use Rattle.office_tables.proofs.Common.{Shows, State, Trees, command_of, fault_of, runs_as, statement_of}
use Rattle.office_tables.proofs.Causes.{failed_outer}
use Rattle.office_tables.proofs.Failures.{IsWhole, fails_as}
use Rattle.office_tables.proofs.Errors.{stops}

abbrev pub begin_text : List ℕ
begin_text = codes "BEGIN"

abbrev pub commit_text : List ℕ
commit_text = codes "COMMIT"

abbrev pub roll_back_text : List ℕ
roll_back_text = codes "ROLLBACK"

-- whatever the schema is
begin_is : (schema : Schema)
    → (command_of (understood schema begin_text) ≡ Begin) × IsPlain (understood schema begin_text)
unfolding understood everything
begin_is schema = (refl, (refl, refl))

commit_is : (schema : Schema)
    → (command_of (understood schema commit_text) ≡ Commit) × IsPlain (understood schema commit_text)
unfolding understood everything
commit_is schema = (refl, (refl, refl))

roll_back_is : (schema : Schema)
    → (command_of (understood schema roll_back_text) ≡ Rollback) × IsPlain (understood schema roll_back_text)
unfolding understood everything
roll_back_is schema = (refl, (refl, refl))

-- a text whose meaning is known commits as its command does
commits_as : (sql : List ℕ) (s : State) (schema : Schema) → s.now.schema ≡ schema → (command : Command)
    → command_of (understood schema sql) ≡ command → IsPlain (understood schema sql)
    → (db : Trees) → CommitsBy sql [] s db → MayCommit s None command (statement_of sql (understood schema sql)) [] db
unfolding CommitsBy
commits_as sql s schema has command is plain db h =
    let known = sym h.1.is ∙ ap (λ s. understood s sql) has in
    let bare = subst IsPlain (sym known) plain in
    subst₂ (λ k t. MayCommit s None k t [] db) (ap command_of known ∙ is) (ap (statement_of sql) known) (rw (bare.0, bare.1, append-nil []) at h.2)

pub begins : (old new : State) (r : Result ℕ Error) → Executes begin_text [] old new r
    → OnOk r (Shows old new old.now old.committed true)
begins old new (Err e) h = tt
begins old new (Ok count) h =
    (runs_as begin_text [] old new old.now.schema refl Begin (begin_is old.now.schema).0 (begin_is old.now.schema).1 count h).1

pub commits : (old new : State) (r : Result ℕ Error) → Executes commit_text [] old new r → OnOk r (Committed old new)
commits old new (Err e) h = tt
commits old new (Ok count) h =
    let it = runs_as commit_text [] old new old.now.schema refl Commit (commit_is old.now.schema).0 (commit_is old.now.schema).1 count h in
    record { was_open = it.1.was_open; is_open = it.1.is_open; now = it.1.now_is; committed = it.1.committed_is; ended = it.1.mode }

-- a transaction begins where none is open
pub began_outside : (old new : State) (r : Result ℕ Error) → Executes begin_text [] old new r
    → OnOk r (old.in_transaction ≡ false)
began_outside old new (Err e) h = tt
began_outside old new (Ok count) h =
    (runs_as begin_text [] old new old.now.schema refl Begin (begin_is old.now.schema).0 (begin_is old.now.schema).1 count h).0

-- what is committed is a transaction that was open
pub committed_inside : (old new : State) (r : Result ℕ Error) → Executes commit_text [] old new r
    → OnOk r (IsTrue old.in_transaction)
committed_inside old new (Err e) h = tt
committed_inside old new (Ok count) h =
    (runs_as commit_text [] old new old.now.schema refl Commit (commit_is old.now.schema).0 (commit_is old.now.schema).1 count h).0

back : (old new : State) → IsRolledBack old new → IsBack old new
back old new it = record { was_open = it.was_open; now = λ h. (it.undone h).0; committed = λ h. (it.undone h).1; ended = it.autocommit }

roll_back_whole : (schema : Schema) → IsWhole 8 0 (understood schema roll_back_text)
unfolding understood everything
roll_back_whole schema = (lit≤ tt, refl, refl)

begin_whole : (schema : Schema) → IsWhole 5 0 (understood schema begin_text)
unfolding understood everything
begin_whole schema = (lit≤ tt, refl, refl)

commit_whole : (schema : Schema) → IsWhole 6 0 (understood schema commit_text)
unfolding understood everything
commit_whole schema = (lit≤ tt, refl, refl)

-- no transaction is begun in another
begins_outside : (old : State) (e : Error) → old.in_transaction ≡ false → IsMisplaced old Begin e → ⊥
begins_outside old e outside (inl (state, inl begin)) = let h = begin.1 in cc
begins_outside old e outside (inl (state, inr end)) = elim end.0 [ inl k ↦ cc | inr k ↦ cc ]
begins_outside old e outside (inr h) = elim h.2 [ inl k ↦ cc | inr k ↦ cc ]

-- a transaction that is open can end
ends_inside : (old : State) (command : Command) (e : Error) → (command ≡ Commit) ⊎ (command ≡ Rollback)
    → IsTrue old.in_transaction → IsMisplaced old command e → ⊥
ends_inside old command e ends inside (inl (state, inl begin)) = let h = begin.0 in elim ends [ inl k ↦ cc | inr k ↦ cc ]
ends_inside old command e ends inside (inl (state, inr end)) = let h = end.1 in cc
ends_inside old command e ends inside (inr h) = elim ends [
  | inl k ↦ elim h.2 [ inl release ↦ cc | inr back ↦ cc ]
  | inr k ↦ elim h.2 [ inl release ↦ cc | inr back ↦ cc ]
]

pub rolls_back : (old new : State) (r : Result ℕ Error) → Executes roll_back_text [] old new r
    → IsTrue old.in_transaction → IsBack old new
rolls_back old new (Ok count) h inside =
    back old new (runs_as roll_back_text [] old new old.now.schema refl Rollback (roll_back_is old.now.schema).0 (roll_back_is old.now.schema).1 count h).1
rolls_back old new (Err e) h inside = elim (fails_as roll_back_text [] old new old.now.schema refl Rollback (roll_back_is old.now.schema).0 (roll_back_is old.now.schema).1 (roll_back_whole old.now.schema) refl e h) [
  | inl refused ↦ absurd (elim refused.why [ inl out ↦ ends_inside old Rollback e (inr refl) inside out | inr write ↦ write.0 ])
  | inr failed ↦ back old new failed.1.3
]

-- a begin outside a transaction fails with the store alone
pub begin_cause : (old new : State) (e : Error) → Executes begin_text [] old new (Err e) → old.in_transaction ≡ false
    → HasOuterCause old new (fault_of e)
begin_cause old new e h outside = elim (fails_as begin_text [] old new old.now.schema refl Begin (begin_is old.now.schema).0 (begin_is old.now.schema).1 (begin_whole old.now.schema) refl e h) [
  | inl refused ↦ absurd (elim refused.why [ inl out ↦ begins_outside old e outside out | inr write ↦ write.0 ])
  | inr failed ↦ failed_outer old new e failed.1
]

-- a commit inside a transaction fails with the store alone
pub commit_cause : (old new : State) (e : Error) → Executes commit_text [] old new (Err e) → IsTrue old.in_transaction
    → HasOuterCause old new (fault_of e)
commit_cause old new e h inside = elim (fails_as commit_text [] old new old.now.schema refl Commit (commit_is old.now.schema).0 (commit_is old.now.schema).1 (commit_whole old.now.schema) refl e h) [
  | inl refused ↦ absurd (elim refused.why [ inl out ↦ ends_inside old Commit e (inl refl) inside out | inr write ↦ write.0 ])
  | inr failed ↦ failed_outer old new e failed.1
]

pub begin_commits : (s : State) (db : Trees) → CommitsBy begin_text [] s db → ⊥
begin_commits s db h = elim (commits_as begin_text s s.now.schema refl Begin (begin_is s.now.schema).0 (begin_is s.now.schema).1 db h) [
  | inl end ↦ elim end.0 [ inl k ↦ cc | inr k ↦ let e = k.2 in cc ]
  | inr write ↦ let e = write.3 in cc
]

pub roll_back_commits : (s : State) (db : Trees) → CommitsBy roll_back_text [] s db → ⊥
roll_back_commits s db h = elim (commits_as roll_back_text s s.now.schema refl Rollback (roll_back_is s.now.schema).0 (roll_back_is s.now.schema).1 db h) [
  | inl end ↦ elim end.0 [ inl k ↦ cc | inr k ↦ let e = k.2 in cc ]
  | inr write ↦ let e = write.3 in cc
]

pub commit_commits : (s : State) (db : Trees) → CommitsBy commit_text [] s db → db ≡ s.now.trees
commit_commits s db h = elim (commits_as commit_text s s.now.schema refl Commit (commit_is s.now.schema).0 (commit_is s.now.schema).1 db h) [
  | inl end ↦ end.1
  | inr write ↦ absurd (let e = write.3 in cc)
]

pub rolls_nothing : (old new : State) (r : Result ℕ Error) → Executes roll_back_text [] old new r
    → old.in_transaction ≡ false → IsStopped old new
rolls_nothing old new (Ok count) h outside =
    absurd (let inside = (runs_as roll_back_text [] old new old.now.schema refl Rollback (roll_back_is old.now.schema).0 (roll_back_is old.now.schema).1 count h).0 in let e : true ≡ false = sym inside ∙ outside in cc)
rolls_nothing old new (Err e) h outside = stops roll_back_text [] old new e h
