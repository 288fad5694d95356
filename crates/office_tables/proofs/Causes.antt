-- Why a statement fails on our tables, where the disk is clean and no limit is set.
use Rattle.std.proofs.Common.{◌≡◌, ◌⊎◌, inl, inr, ℕ, zero, suc, ◌<◌, List, [], ◌∷◌, length, get_or, true, false, IsTrue}
use Rattle.std.proofs.Common.{Option, Some, None, IsSome, Any, sym, ap, subst, subst₂, ◌∙◌, append-nil, arith}
use Rattle.sqlite.specs.Listing.{understood}
use Rattle.sqlite.specs.State.{FailsToQuery, IsNotRun}
use Rattle.sqlite.specs.State as state
use Rattle.sqlite_sql.specs.Group.{Aggregate, Overflows, value_over}
use Rattle.sqlite_trees.specs.declared.error.StoreError.TheVariants.{OutOfMemory}
use Rattle.office_tables.specs.Faults.{HasCause}
use Rattle.office_tables.specs.declared.fault.StoreFault.TheVariants as fault
use Rattle.office_tables.proofs.Common.{Broken, Continues, Corrupt, Env, Error, Fails, Full, HasCleanDisk}
use Rattle.office_tables.proofs.Common.{HasOuterCause, Io, IsPlain, IsSourceOf, IsUnlimited, Program, RefusesQuery}
use Rattle.office_tables.proofs.Common.{RefusesToRead, Row, Schema, Select, State, StoreError, StoreFault, Trees}
use Rattle.office_tables.proofs.Common.{Unstorable, command_of, fault_of, reads_listing, store_error}
use Rattle.office_tables.proofs.Counts.{over, count_rows}
use Rattle.office_tables.proofs.Failures.{IsWhole, no_statement}

-- ---- causes

module _ (old new : State) where
  -- no statement is worse off than a whole transaction
  pub inner_cause : (e : StoreFault) → HasOuterCause old new e → HasCause old new e
  inner_cause fault.Memory why = tt
  inner_cause fault.Disk why = why
  inner_cause fault.Schema why = absurd why

  by_cause : (too_big : Type 0) (cause : StoreError) → state.HasCause old new too_big cause
      → HasOuterCause old new (fault_of (store_error cause))
  by_cause too_big OutOfMemory why = tt
  by_cause too_big Io why = inl why
  by_cause too_big Corrupt why = inl why
  by_cause too_big Full why = inl why
  by_cause too_big Broken why = inr why
  by_cause too_big Unstorable why = tt

  -- a failure of the store has its cause
  pub failed_outer : {too_big : Type 0} (e : Error) → Fails old new too_big e → HasOuterCause old new (fault_of e)
  failed_outer {too_big} e failed =
      subst (λ e. HasOuterCause old new (fault_of e)) (sym failed.1) (by_cause too_big failed.0 failed.2)

  pub failed_cause : {too_big : Type 0} (e : Error) → Fails old new too_big e → HasCause old new (fault_of e)
  failed_cause e failed = inner_cause (fault_of e) (failed_outer e failed)

-- while a transaction is open, no statement blames the tables
pub outer_cause : (old new : State) → IsTrue old.in_transaction → (e : StoreFault) → HasCause old new e
    → HasOuterCause old new e
outer_cause old new inside fault.Memory why = tt
outer_cause old new inside fault.Disk why = why
outer_cause old new inside fault.Schema why = absurd (let clash : true ≡ false = sym inside ∙ why in cc)

-- a later step's fault is the whole call's
pub cause_then : (a b c : State) → Continues a b → HasCleanDisk b → (e : StoreFault) → HasCause b c e → HasCause a c e
cause_then a b c p clean fault.Memory h = tt
cause_then a b c p clean fault.Disk (inl more) = inl (omega (arith, more, p.crash.counts))
cause_then a b c p clean fault.Disk (inr shut) = inr (sym (p.within clean).opened ∙ shut)
cause_then a b c p clean fault.Schema h = sym (p.within clean).mode ∙ h

pub still_unlimited : (a b : State) → Continues a b → IsUnlimited a → IsUnlimited b
still_unlimited a b p free = p.crash.limit ∙ free

-- ---- queries

module _ (sql : List ℕ) (params : Row) (old new : State) (schema : Schema) (has : old.now.schema ≡ schema) (q : Program) (names : List (List ℕ)) (is : command_of (understood schema sql) ≡ Select q names)
    (plain : IsPlain (understood schema sql)) (whole : IsWhole (length sql) (length params) (understood schema sql)) (unlisted : reads_listing schema sql ≡ false) where
  read_fails_as : (e : Error) → FailsToQuery sql params old new e
      → RefusesQuery old.step_limit old.now q params e ⊎ Fails old new ⊥ e
  unfolding FailsToQuery IsNotRun
  read_fails_as e (inl (inl refused)) = absurd (no_statement sql params old schema has whole e refused.0)
  read_fails_as e (inl (inr failed)) = inr failed
  read_fails_as e (inr it) =
      let known = sym it.1.is ∙ ap (λ s. understood s sql) has in
      let bare = subst IsPlain (sym known) plain in
      let shown = rw (bare.0, bare.1, append-nil params) at it.2 in
      let db : shown.0 ≡ old.now =
      subst (λ b. IsSourceOf b old.now shown.0) (ap (λ s. reads_listing s sql) has ∙ unlisted) shown.1 in
      inl (subst₂ (λ k d. RefusesToRead old.step_limit k d params e) (ap command_of known ∙ is) db shown.2)

  -- a query that no tables of this schema refuse
  pub read_cause : ((db : Trees) (e : Error) → RefusesQuery None (record { schema = schema; trees = db }) q params e → ⊥)
      → IsUnlimited old → (e : Error) → FailsToQuery sql params old new e → HasCause old new (fault_of e)
  read_cause accepted free e h = elim (read_fails_as e h) [
    | inl refused ↦ absurd (accepted old.now.trees e (subst₂ (λ limit s. RefusesQuery limit (record { schema = s; trees = old.now.trees }) q params e) free has refused))
    | inr failed ↦ failed_cause old new e failed
  ]

-- a query without a limit is refused for its types or a SUM alone
pub none_refuse : {A B C X O : Type 0} → (A × X) ⊎ ((B × O) ⊎ (C × (let none : Option ℕ = None in IsSome none)))
    → (X → ⊥) → (O → ⊥) → ⊥
none_refuse (inl refused) typed sure = typed refused.1
none_refuse (inr (inl over)) typed sure = sure over.1
none_refuse (inr (inr cut)) typed sure = absurd (let limited : false ≡ true = cut.1 in cc)

-- where nothing is summed, nothing overflows
pub sums_nothing : {X : Type 0} (rows : List X) → ⊥ ⊎ Any (λ (_ : X). ⊥) rows → ⊥
sums_nothing rows (inl h) = h
sums_nothing rows (inr h) = h.4

only_counts : (k : ℕ) (a : Aggregate) (group : List Env) → k < 1 → get_or (count_rows ∷ []) k a ≡ a
    → value_over group a ≡ None → ⊥
only_counts zero a group low is none = let counted : value_over group count_rows ≡ None = ap (value_over group) is ∙ none in cc
only_counts (suc k) a group low is none = absurd (omega (arith, low))

-- a count does not overflow
pub counts_always : {X : Type 0} (rows : List X) (all : List Env)
    → Overflows (Some (over count_rows)) all ⊎ Any (λ (_ : X). ⊥) rows → ⊥
counts_always rows all (inl h) = let a = h.2.4 in only_counts a.0 a.1 h.2.1 a.2 a.3 a.4
counts_always rows all (inr h) = h.4
