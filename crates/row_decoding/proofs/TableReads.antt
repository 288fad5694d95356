-- What is gathered of the rows of a table, for any query of ours that shows all of them.
use Rattle.std.proofs.Common.{◌≡◌, ◌⊎◌, IsTrue, ℕ, List, [], ◌∷◌, map, Bool, true, not, ◌||◌, Option, Result, Ok, Err}
use Rattle.std.proofs.Common.{IfOk, IfErr, is_none, filter_map, Ordering, refl, sym, ap, ap₂, subst, ◌∙◌}
use Rattle.std.proofs.lemmas.Bool.{both_ways}
use Rattle.std.proofs.lemmas.List.Sorted.{list_any-IsPermutation}
use Rattle.std.specs.List.Sorted.{IsSorted, IsPermutation}
use Rattle.sqlite.specs.Command.TheVariants.{Select}
use Rattle.sqlite.specs.Given.{IsPlain}
use Rattle.sqlite.specs.Held.{Held, state}
use Rattle.sqlite.specs.Listing.{understood}
use Rattle.sqlite.specs.Query.{inner, end, key_cmp}
use Rattle.sqlite.specs.State.{State, HasCleanDisk, Shown, FailsToQuery}
use Rattle.sqlite.specs.Table.{Table}
use Rattle.sqlite.specs.Term.{Term, eval_all}
use Rattle.sqlite.specs.declared.error.Error.{Error}
use Rattle.sqlite_trees.specs.declared.store.Store as store
use Rattle.sqlite_typing.specs.Types.{accepts_program}
use Rattle.sqlite_value.specs.declared.keys.Key.{Key}
use Rattle.office_tables.proofs.Causes.{read_cause, none_refuse, sums_nothing}
use Rattle.office_tables.proofs.Errors.{keeps}
use Rattle.office_tables.proofs.Gatherings.{stop_cause}
use Rattle.office_tables.proofs.Queries.{asking, plain_query}
use Rattle.office_tables.proofs.Rows.{kept_all}
use Rattle.office_tables.proofs.StatementEnds.{answered, caused}
use Rattle.office_tables.proofs.statements.SelectOf.{select_rows}
use Rattle.office_tables.specs.ChangeStatement.{IsOutside}
use Rattle.office_tables.specs.Faults.{fault_of, IsUnlimited, HasCause, FaultsHaveCause}
use Rattle.office_tables.specs.Query.{IsQuery, Reads, FoundInside, Gathers, StopsShort}
use Rattle.office_tables.specs.Schema.{schema}
use Rattle.office_tables.specs.StatementMeaning.{Means}
use Rattle.office_tables.specs.Versions.{Version}
use Rattle.row_decoding.specs.Examinations.{Examines}
use Rattle.row_decoding.specs.declared.decoded_rows.Gathered.{Gathered}
use Rattle.row_decoding.proofs.Common.{AreGathered, IsTable, Row, StoreFault, cons_option, has_unread}

pub same_rows : {A : Type 0} (xs : List A) → xs ≡ map (λ x. x) xs
same_rows [] = refl
same_rows (x ∷ xs) = ap (λ l. x ∷ l) (same_rows xs)

-- what a query with these terms shows of a row
abbrev pub show : List Term → Row → Row
show terms row = eval_all terms ([] ∷ row ∷ [])

-- The query shows these terms of the table's rows, in this order.
module _ (table : Table) (terms : List Term) (order : List (Term × Key)) (names : List (List ℕ)) (sql : List ℕ) (v : Version) (means : Means v sql 0 (Select (asking table [] terms order) names)) where
  pub is_query : IsQuery v sql
  is_query = record { count = 0; command = Select (asking table [] terms order) names; means = means }

  -- the rows of the table, in the order that is asked for
  pub in_table : (comes : Row → Row → Ordering)
      (compares : (a b : Row) → key_cmp 0 (map (λ k. k.1) order) (eval_all (map (λ k. k.0) order) ([] ∷ a ∷ [])) (eval_all (map (λ k. k.0) order) ([] ∷ b ∷ [])) ≡ comes a b)
      (old new : State) → old.now.schema ≡ schema v → (rows : List Row) → Shown sql [] old new rows
      → (ys : List Row) × IsPermutation (old.now.trees table.tree) ys × IsSorted comes ys × (rows ≡ map (show terms) ys)
  in_table comes compares old new has rows shown =
      let there = old.now.trees table.tree in
      let got = select_rows v table sql [] terms order names [] means old new has (λ (r : Row). r) there (same_rows there) (λ _. true) (λ _. refl)
      (show terms) (λ (r : Row). eval_all (map (λ k. k.0) order) ([] ∷ r ∷ [])) (λ _. refl) comes (λ _. refl) compares rows shown in
      (got.0, subst (λ l. IsPermutation l got.0) (kept_all there) got.1.0, got.1.1, got.2)

  -- the connection was open
  pub was_open : (old new : State) → old.now.schema ≡ schema v → (rows : List Row) → Shown sql [] old new rows
      → IsTrue old.is_open
  was_open old new has rows shown =
      (keeps sql [] old new rows (subst (λ s. IsPlain (understood s sql)) (sym has) means.plain) shown).0.was_open

  module _ (typed : accepts_program (schema v) [] (plain_query (inner table.tree end) [] terms order) [] ≡ true) where
    cause : (old new : State) → old.now.schema ≡ schema v → IsUnlimited old → (e : Error)
        → FailsToQuery sql [] old new e → HasCause old new (fault_of e)
    cause old new has free e h =
        read_cause sql [] old new (schema v) has _ _ means.is means.plain means.whole means.unlisted (λ db e r. none_refuse r (λ t. both_ways _ t typed) (sums_nothing _)) free e h

    pub is_excused : {X Y : Type 0} (old new : State) (r : Result X StoreFault)
        → (HasCleanDisk new → IsOutside old r ⊎ ((old.now.schema ≡ schema v) × Y × IfErr r (StopsShort sql [] old new)))
        → FaultsHaveCause old new r
    is_excused old new r ran clean free = caused old new r (ran clean) (λ it. why r it.0 it.2)
      where
        why : {X : Type 0} (r : Result X StoreFault) → old.now.schema ≡ schema v → IfErr r (StopsShort sql [] old new)
            → IfErr r (HasCause old new)
        why (Ok x) has stops = tt
        why (Err e) has stops = stop_cause sql old new e (cause old new has free) stops

    module _ {X Told : Type 0} (told : X → Told) (says reads : Row → Option Told) (comes : Row → Row → Ordering)
        (same : (row : Row) → says (show terms row) ≡ reads row)
        (compares : (a b : Row) → key_cmp 0 (map (λ k. k.1) order) (eval_all (map (λ k. k.0) order) ([] ∷ a ∷ [])) (eval_all (map (λ k. k.0) order) ([] ∷ b ∷ [])) ≡ comes a b) where
      says_shown : (ys : List Row) → filter_map says (map (show terms) ys) ≡ filter_map reads ys
      says_shown [] = refl
      says_shown (y ∷ ys) = ap₂ (λ (o : Option Told) (l : List Told). cons_option o l) (same y) (says_shown ys)

      unread_shown : (ys : List Row) → has_unread says (map (show terms) ys) ≡ has_unread reads ys
      unread_shown [] = refl
      unread_shown (y ∷ ys) = ap₂ (λ (o : Option Told) (b : Bool). is_none o || b) (same y) (unread_shown ys)

      abbrev AreKept : List Row → Gathered X → Type 0
      AreKept rows kept = AreGathered told says rows kept.rows.items kept.are_read

      read_of : (old new : State) → old.now.schema ≡ schema v → (all : Gathered X) → Gathers AreKept sql [] old new all
          → IsTable comes reads table told old.now.trees all
      read_of old new has all it =
          let got = in_table comes compares old new has it.rows it.shown in
          record {
            stored = got.0;
            same = got.1;
            sorted = got.2;
            are = it.holds.are ∙ ap (filter_map says) got.3 ∙ says_shown got.0;
            all = it.holds.all ∙ ap not (ap (has_unread says) got.3 ∙ unread_shown got.0 ∙ sym (list_any-IsPermutation (λ row. is_none (reads row)) (old.now.trees table.tree) got.0 got.1));
          }

      -- what the call promises that makes such a query
      pub examines : {S : Type 0} {g : store.Ghosts S} {before after : Held S} {r : Result (Gathered X) StoreFault}
          → Reads (state g before) (state g after) r
          → (HasCleanDisk (state g after) → FoundInside v (state g before) (Gathers AreKept sql [] (state g before) (state g after)) (StopsShort sql [] (state g before) (state g after)) r)
          → Examines g before after r (IsTable comes reads table told)
      examines {g = g} {before = before} {after = after} {r = r} read ran = record {
        reads = read;
        answers = λ clean. answered (state g before) r _ (ran clean) (λ it. on_ok r it.0 it.1);
        faults = is_excused (state g before) (state g after) r ran;
      }
        where
          on_ok : (r : Result (Gathered X) StoreFault) → (state g before).now.schema ≡ schema v
              → IfOk r (Gathers AreKept sql [] (state g before) (state g after))
              → IfOk r (IsTable comes reads table told (state g before).now.trees)
          on_ok (Ok all) has it = read_of (state g before) (state g after) has all it
          on_ok (Err e) has it = tt
