-- What a query whose rows are taken one by one does, told of the state before it.
use Rattle.std.proofs.Common.{[], ◌≡◌, ◌⊎◌, inl, inr, ℕ, List, true, false, IsTrue, Result, Ok, Err, IfOk, IfErr, sym}
use Rattle.std.proofs.Common.{ap, subst, ◌∙◌, arith}
use Rattle.sqlite.specs.Listing.{understood}
use Rattle.sqlite.specs.State.{IsNotRun, Shown, FailsToQuery, HasCause}
use Rattle.sqlite_trees.specs.declared.error.StoreError.TheVariants.{OutOfMemory}
use Rattle.office_tables.specs.Faults as cause
use Rattle.office_tables.proofs.Common.{Broken, Compiled, Corrupt, Database, Error, Fails, FailsToShow, Full, Gathers}
use Rattle.office_tables.proofs.Common.{GoesOn, HasCleanDisk, Io, IsAborted, IsBack, IsNoStatement, IsOurQuery, IsPlain}
use Rattle.office_tables.proofs.Common.{IsRolledBack, IsSame, IsSourceOf, IsStatement, IsUnchanged, LeavesUnchanged}
use Rattle.office_tables.proofs.Common.{Reads, RefusesToRead, Row, ShowsRows, Spares, State, StopsShort, StoreError}
use Rattle.office_tables.proofs.Common.{StoreFault, Survives, Unstorable, fault_of, reads_listing, timed}
use Rattle.office_tables.proofs.Common.{unchanged_then}
use Rattle.office_tables.proofs.Errors.{fails, keeps}
use Rattle.office_tables.proofs.Calls.{early, unchanged_on, stopped}
use Rattle.office_tables.proofs.Sparing.{query_spares}

module _ (sql : List ℕ) (params : Row) (a b c : State) (plain : IsPlain (understood a.now.schema sql)) (same : IsUnchanged a b) where
  plain_then : IsPlain (understood b.now.schema sql)
  plain_then = subst (λ (d : Database). IsPlain (understood d.schema sql)) (sym same.0.now_is) plain

  statement_from : (k : Compiled) → IsStatement b sql params k → IsStatement a sql params k
  statement_from k s = record { is = subst (λ (d : Database). understood d.schema sql ≡ Ok k) same.0.now_is s.is; whole = s.whole; given = s.given; now = s.now }

  pub shown_from : (rows : List Row) → Shown sql params b c rows → Shown sql params a c rows
  unfolding Shown statement_from
  shown_from rows h =
      let full = timed params h.0.formats h.1.now in
      let none = (subst IsPlain h.1.is plain_then).0 in
      let it = subst (ShowsRows b c sql h.0 full rows) none h.2 in
      (h.0, statement_from h.0 h.1, subst (ShowsRows a c sql h.0 full rows) (sym none) (it.0, subst (λ (d : Database). IsSourceOf (reads_listing d.schema sql) d it.0) same.0.now_is it.1, it.2, unchanged_then a b c same it.3))

  module _ (kept : Survives a b (λ _. ⊥)) where
    cause_from : (too_big : Type 0) (e : StoreError) → HasCause b c too_big e → HasCause a c too_big e
    cause_from too_big OutOfMemory h = h
    cause_from too_big Io h = omega (arith, h, kept.counts)
    cause_from too_big Corrupt h = omega (arith, h, kept.counts)
    cause_from too_big Full h = omega (arith, h, kept.counts)
    cause_from too_big Broken h = absurd (let clash : true ≡ false = sym same.0.is_open ∙ h in cc)
    cause_from too_big Unstorable h = h

    back_from : IsRolledBack b c → IsRolledBack a c
    back_from h = record {
      was_open = λ is. same.0.was_open;
      undone = λ is. ((h.undone is).0 ∙ same.0.committed_is, (h.undone is).1 ∙ same.0.committed_is);
      autocommit = h.autocommit;
      unmarked = h.unmarked;
      counts = record { changes = h.counts.changes ∙ same.1.changes; last_rowid = h.counts.last_rowid ∙ same.1.last_rowid };
    }

    fails_from : (too_big : Type 0) (e : Error) → Fails b c too_big e → Fails a c too_big e
    fails_from too_big e h = (h.0, h.1, cause_from too_big h.0 h.2, back_from h.3, h.4)

    no_statement_from : (e : Error) → IsNoStatement b sql params e → IsNoStatement a sql params e
    no_statement_from e h = subst (λ (d : Database). IsNoStatement (record b { now = d }) sql params e) same.0.now_is h

    pub query_fails_from : (e : Error) → FailsToQuery sql params b c e → FailsToQuery sql params a c e
    unfolding FailsToQuery IsNotRun statement_from
    query_fails_from e (inl (inl h)) = inl (inl (no_statement_from e h.0, unchanged_then a b c same h.1))
    query_fails_from e (inl (inr h)) = inl (inr (fails_from ⊥ e h))
    query_fails_from e (inr h) =
        let full = timed params h.0.formats h.1.now in
        let none = (subst IsPlain h.1.is plain_then).0 in
        let it = subst (FailsToShow b c sql h.0 full e) none h.2 in
        inr (
          h.0,
          statement_from h.0 h.1,
          subst (FailsToShow a c sql h.0 full e) (sym none)
              (it.0, subst (λ (d : Database). IsSourceOf (reads_listing d.schema sql) d it.0) same.0.now_is it.1, subst (λ l. RefusesToRead l h.0.command it.0 full e) kept.limit it.2, unchanged_then a b c same it.3),
        )

-- ---- what a query of ours leaves whose rows are taken one by one

pub our_plain : (sql : List ℕ) (old : State) → IsOurQuery sql old → HasCleanDisk old
    → IsPlain (understood old.now.schema sql)
our_plain sql old ours clean = let it = ours.here clean in subst (λ s. IsPlain (understood s sql)) (sym it.1) it.3.plain

module _ (sql : List ℕ) (old new : State) (ours : IsOurQuery sql old) (crash : Survives old new (λ _. ⊥)) where
  inside : HasCleanDisk new → IsTrue old.in_transaction
  inside clean = (ours.here (early crash clean)).2

  looked : (HasCleanDisk new → IsUnchanged old new) → LeavesUnchanged old new
  looked same = record {
    goes = record {
      on = record { crash = crash; within = λ clean. unchanged_on old new (inside clean) (same clean) };
      schema = λ clean. ap (λ (d : Database). d.schema) (same clean).0.now_is;
    };
    same = λ clean. (same clean).0.now_is;
  }

  short : (e : StoreFault) → (HasCleanDisk new → StopsShort sql [] old new e) → IsAborted old new
  short e stops = record { crash = crash; aborts = λ clean. at clean (stops clean) }
    where
      at : HasCleanDisk new → StopsShort sql [] old new e → GoesOn old new ⊎ IsBack old new
      at clean (inl h) = inl (unchanged_on old new (inside clean) h.1)
      at clean (inr h) = stopped old new (inside clean) (fails sql [] old new h.0 h.2)

  short_spares : (e : StoreFault) → HasCleanDisk new → StopsShort sql [] old new e → Spares IsSame old new e
  short_spares e clean (inl h) = subst (Spares IsSame old new) (sym h.0) (record { disk = tt; rows = inl h.1.0.now_is })
  short_spares e clean (inr h) =
      subst (Spares IsSame old new) (sym h.1) (query_spares sql [] old new (our_plain sql old ours (early crash clean)) h.0 h.2)

  pub gathered_reads : {G : Type 0} (Holds : List Row → G → Type 0) (r : Result G StoreFault)
      → (HasCleanDisk new → IfOk r (Gathers Holds sql [] old new))
      → (HasCleanDisk new → IfErr r (StopsShort sql [] old new)) → Reads old new r
  gathered_reads Holds (Ok all) gathers stops = record {
    crash = crash;
    looks = looked (λ clean. keeps sql [] old new (gathers clean).rows (our_plain sql old ours (early crash clean)) (gathers clean).shown);
    aborts = tt;
    spares = λ clean. tt;
  }
  gathered_reads Holds (Err e) gathers stops =
      record { crash = crash; looks = tt; aborts = short e stops; spares = λ clean. short_spares e clean (stops clean) }

-- why it stopped, where the query is refused for such a cause alone
pub stop_cause : (sql : List ℕ) (old new : State) (e : StoreFault)
    → ((why : Error) → FailsToQuery sql [] old new why → cause.HasCause old new (fault_of why))
    → StopsShort sql [] old new e → cause.HasCause old new e
stop_cause sql old new e why (inl h) = subst (cause.HasCause old new) (sym h.0) tt
stop_cause sql old new e why (inr h) = subst (cause.HasCause old new) (sym h.1) (why h.0 h.2)
