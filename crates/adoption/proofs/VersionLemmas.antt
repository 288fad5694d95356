-- What comes of the question for the version.
use Rattle.std.proofs.Common.{◌≡◌, ◌≢◌, ◌⊎◌, ◌≤◌, ◌<◌, ◌&&◌, inl, inr, ℕ, zero, suc, pos, List, [], ◌∷◌, length}
use Rattle.std.proofs.Common.{slice_index_or, Bool, true, false, cond, nat_le, nat_lt, Option, Some, None, unwrap_or}
use Rattle.std.proofs.Common.{IsSome, IsTrue, arith, refl, sym, ap, subst, ◌∙◌}
use Rattle.sqlite.proofs.StateLemmas.{survives_weaker}
use Rattle.sqlite.specs.Command.{Command}
use Rattle.sqlite.specs.Command.TheVariants as command
use Rattle.sqlite.specs.State.{State, Shown, FailsToQuery, IsNotRun, CommitsShowing}
use Rattle.sqlite.specs.declared.error.Error.{Error}
use Rattle.sqlite_schema.specs.declared.program.Program.{Program}
use Rattle.office_tables.proofs.Causes.{failed_cause, failed_outer}
use Rattle.office_tables.proofs.Errors.{fails}
use Rattle.office_tables.specs.declared.fault.StoreFault.TheVariants as fault
use Rattle.adoption.specs.declared.verdict.Verdict.TheVariants as verdict
use Rattle.adoption.proofs.Common.{CannotTell, Database, Fails, First, HasCause, HasCleanDisk, HasOuterCause, Int}
use Rattle.adoption.proofs.Common.{IsAborted, IsNoStatement, IsToldVersion, IsUnchanged, IsUnlimited, IsVersionVerdict}
use Rattle.adoption.proofs.Common.{LeavesUnchanged, RefusesQuery, RefusesToRead, Row, Second, ShowsVersions, Survives}
use Rattle.adoption.proofs.Common.{TellsNoOther, TellsVersion, Trees, Value, Version, and_cases, and_parts, column}
use Rattle.adoption.proofs.Common.{early, fault_of, is_number, leb-false, leb-true, ltb-false, ltb-true, newest}
use Rattle.adoption.proofs.Common.{number_in, stopped, unchanged_on, verdict_of_version, version_number, version_text}
use Rattle.adoption.proofs.Asked.{understood_with}

-- a query that is refused, beside the failures of the store
refused_badly : (k : Command) (p : Program) (names : List (List ℕ)) → k ≡ command.Select p names
    → (db : Database) (e : Error) → RefusesToRead None k db [] e → fault_of e ≡ fault.Schema
refused_badly k p names is db e h = at (subst (λ k. RefusesToRead None k db [] e) is h)
  where
    at : RefusesQuery None db p [] e → fault_of e ≡ fault.Schema
    at (inl h) = ap fault_of h.0
    at (inr (inl h)) = ap fault_of h.0
    at (inr (inr h)) = ap fault_of h.0

module _ (old new : State) where
  pub shown_versions : (rows : List Row) → Shown version_text [] old new rows
      → ShowsVersions old.now rows × IsUnchanged old new
  unfolding Shown
  shown_versions rows h =
      let q = understood_with old.now.schema h.0 h.1.is in
      let it = rw (q.returning, q.formats) at h.2 in
      (record { question = record { asked = h.0; is = h.1.is; source = it.0; from = it.1 }; shown = it.2 }, it.3)

  -- the tables cannot tell, and nothing is changed
  pub record IsRefused (e : Error) : Type 0 where
    pub cannot : CannotTell old.now
    pub same : IsUnchanged old new
    pub badly : fault_of e ≡ fault.Schema

  no_statement : (e : Error) → IsNoStatement old version_text [] e → IsUnchanged old new → IsRefused e
  no_statement e (inl h) same = record { cannot = inl (h.0, h.1); same = same; badly = ap fault_of h.2 }
  no_statement e (inr h) same =
      let q = understood_with old.now.schema h.0 h.1 in
      absurd (elim h.2 [ inl long ↦ long.0 q.whole | inr (inl count) ↦ count.0 (sym (ap length q.names)) | inr (inr clock) ↦ clock.0 q.formats ])

  pub versions_fail : (e : Error) → IsUnlimited old → FailsToQuery version_text [] old new e
      → IsRefused e ⊎ Fails old new ⊥ e
  unfolding FailsToQuery IsNotRun
  versions_fail e free (inl (inl h)) = inl (no_statement e h.0 h.1)
  versions_fail e free (inl (inr failed)) = inr failed
  versions_fail e free (inr h) =
      let q = understood_with old.now.schema h.0 h.1.is in
      let it = rw (q.returning, q.formats) at h.2 in
      let refused = subst (λ limit. RefusesToRead limit h.0.command it.0 [] e) free it.2 in
      inl (record {
        cannot = inr (record { question = record { asked = h.0; is = h.1.is; source = it.0; from = it.1 }; why = e; refused = refused });
        same = it.3;
        badly = refused_badly h.0.command q.program q.columns q.command it.0 e refused;
      })

  -- where the fault is not that of the tables, the store failed
  pub versions_cause : (e : Error) → IsUnlimited old → FailsToQuery version_text [] old new e
      → ¬ (fault_of e ≡ fault.Schema) → HasCause old new (fault_of e)
  versions_cause e free h not = elim (versions_fail e free h) [ inl it ↦ absurd (not it.badly) | inr failed ↦ failed_cause old new e failed ]

  schema_only : (e : Error) → fault_of e ≡ fault.Schema → IsRefused e ⊎ Fails old new ⊥ e → IsRefused e
  schema_only e is (inl it) = it
  schema_only e is (inr failed) = absurd (subst (HasOuterCause old new) is (failed_outer old new e failed))

  pub versions_refused : (e : Error) → IsUnlimited old → FailsToQuery version_text [] old new e
      → fault_of e ≡ fault.Schema → IsRefused e
  versions_refused e free h is = schema_only e is (versions_fail e free h)

  module _ (inside : HasCleanDisk old → IsTrue old.in_transaction) (kept : Survives old new (CommitsShowing version_text [] old)) where
    never : (db : Trees) → CommitsShowing version_text [] old db → ⊥
    unfolding CommitsShowing
    never db h = let q = understood_with old.now.schema h.0 h.1.is in absurd (let some = subst IsSome q.returning h.2 in cc)

    pub versions_crash : Survives old new (λ _. ⊥)
    versions_crash = survives_weaker old new _ _ (λ clean db h. never db h) kept

    pub looks_unchanged : (HasCleanDisk new → IsUnchanged old new) → LeavesUnchanged old new
    looks_unchanged same = record {
      goes = record {
        on = record { crash = versions_crash; within = λ clean. unchanged_on old new (inside (early versions_crash clean)) (same clean) };
        schema = λ clean. ap (λ (d : Database). d.schema) (same clean).0.now_is;
      };
      same = λ clean. (same clean).0.now_is;
    }

    pub cut_by : (e : Error) → (HasCleanDisk new → FailsToQuery version_text [] old new e) → IsAborted old new
    cut_by e failed = record {
      crash = versions_crash;
      aborts = λ clean. stopped old new (inside (early versions_crash clean)) (fails version_text [] old new e (failed clean));
    }

-- ---- what the version makes of the tables

-- versions are numbered from 1 to the newest
numbers_of : (version : Version) → (1 ≤ version_number version) × (version_number version ≤ version_number newest)
numbers_of First = (omega arith, omega arith)
numbers_of Second = (omega arith, omega arith)

version_with : (n : ℕ) → 1 ≤ n → n ≤ version_number newest → (version : Version) × (version_number version ≡ n)
version_with zero first last = absurd (omega (arith, first))
version_with (suc zero) first last = (First, refl)
version_with (suc (suc zero)) first last = (Second, refl)
version_with (suc (suc (suc n))) first last = absurd (omega (arith, last))

module _ (db : Database) (row : Row) (only : ShowsVersions db (row ∷ [])) where
  answers : (cell : Value) → column row 0 ≡ cell → TellsVersion db cell
  answers cell is = record { row = row; only = only; is = is }

  no_other : (version : Version)
      → ((other : Version) → version_number other ≢ version_number version → column row 0 ≡ Int (pos (version_number other)) → ⊥)
      → TellsNoOther version db
  no_other version not = record { cell = column row 0; told = answers (column row 0) refl; not_other = not }

  -- the number that it tells is the version's, or not
  is_told : (n : ℕ) (version : Version) → number_in (column row 0) ≡ Some n → version_number version ≡ n
      → IsToldVersion version db
  is_told n version some is =
      answers (Int (pos (version_number version))) (is_number (column row 0) n some ∙ ap (λ k. Int (pos k)) (sym is))

  is_number_told : (n m : ℕ) → number_in (column row 0) ≡ Some n → column row 0 ≡ Int (pos m) → n ≡ m
  is_number_told n m some is = ap (λ o. unwrap_or o 0) (sym some ∙ ap number_in is)

  number_judged : (version : Version) (n : ℕ) (older newer : Bool)
      → nat_le 1 n && nat_lt n (version_number version) ≡ older
      → nat_lt (version_number version) n && nat_le n (version_number newest) ≡ newer
      → number_in (column row 0) ≡ Some n
      → IsVersionVerdict version db (cond older (Some verdict.OldVersion) (cond newer (Some verdict.NewVersion) None))
  number_judged version n true newer old new some =
      let h = and_parts (nat_le 1 n) (nat_lt n (version_number version)) old in
      let low : n < version_number version = ltb-true n (version_number version) h.1 in
      let first : 1 ≤ n = leb-true 1 n h.0 in
      let last : version_number version ≤ version_number newest = (numbers_of version).1 in
      let older = version_with n first (omega (arith, low, last)) in
      (older.0, subst (λ k. k < version_number version) (sym older.1) low, is_told n older.0 some older.1)
  number_judged version n false true old new some =
      let h = and_parts (nat_lt (version_number version) n) (nat_le n (version_number newest)) new in
      let high : version_number version < n = ltb-true (version_number version) n h.0 in
      let newer = version_with n (omega (arith, high)) (leb-true n (version_number newest) h.1) in
      (newer.0, subst (λ k. version_number version < k) (sym newer.1) high, is_told n newer.0 some newer.1)
  number_judged version n false false old new some = no_other version (λ other apart is.
      let same : n ≡ version_number other = is_number_told n (version_number other) some is in
      let first = (numbers_of other).0 in
      let last = (numbers_of other).1 in
      elim (and_cases (nat_le 1 n) (nat_lt n (version_number version)) old) [
        | inl low ↦ let below : n < 1 = leb-false 1 n low in absurd (omega (arith, below, same, first))
        | inr high ↦ elim (and_cases (nat_lt (version_number version) n) (nat_le n (version_number newest)) new) [
          | inl up ↦
              let above : version_number version ≤ n = ltb-false n (version_number version) high in
              let not_above : n ≤ version_number version = ltb-false (version_number version) n up in
              apart (omega (arith, above, not_above, same))
          | inr beyond ↦ let over : version_number newest < n = leb-false n (version_number newest) beyond in absurd (omega (arith, over, same, last))
        ]
      ])

  pub version_judged : (version : Version)
      → IsVersionVerdict version db (verdict_of_version (version_number version) (number_in (column row 0)))
  version_judged version = at (number_in (column row 0)) refl
    where
      at : (o : Option ℕ) → number_in (column row 0) ≡ o
          → IsVersionVerdict version db (verdict_of_version (version_number version) o)
      at None none = no_other version (λ other apart is. let clash : Some (version_number other) ≡ None = ap number_in (sym is) ∙ none in absurd (cc))
      at (Some n) some = number_judged version n _ _ refl refl some

pub one_row : (rows : List Row) (row : Row) → length rows ≡ 1 → row ≡ slice_index_or rows 0 row → rows ≡ row ∷ []
one_row [] row long first = absurd (cc)
one_row (x ∷ []) row long first = ap (λ r. r ∷ []) (sym first)
one_row (x ∷ y ∷ more) row long first = absurd (cc)
