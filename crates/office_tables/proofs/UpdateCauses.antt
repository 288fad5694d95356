-- Why an UPDATE fails that leaves each row at its number and each key as it is, where the disk is clean and no limit is set.
use Rattle.std.proofs.Common.{◌≡◌, ◌≢◌, inl, inr, ℕ, ℤ, ◌≤◌, List, [], ◌∷◌, length, map, filter, drop, slice_get}
use Rattle.std.proofs.Common.{if◌then◌else◌, Bool, true, false, not, ◌&&◌, ◌||◌, ◌==◌, ltb, Err, Option, Some, None}
use Rattle.std.proofs.Common.{Equal, refl, sym, ap, ap₂, subst, ◌∙◌, nat_lt, arith}
use Rattle.std.proofs.lemmas.Bool.{eqb-true, eq-eqb}
use Rattle.sqlite.specs.Effect.{Answers}
use Rattle.sqlite.specs.Listing.{understood}
use Rattle.sqlite.specs.Order.{value_cmp}
use Rattle.sqlite.specs.Tree.{with_tree}
use Rattle.sqlite_rules.proofs.PlaceLemmas.{null_same, unique_stays, held_stays, twin_of}
use Rattle.sqlite_rules.specs.InPlace.{AgreeAt, Twins, AreTwins}
use Rattle.sqlite_rules.specs.Steps.{is_typed, is_present}
use Rattle.sqlite_rules.specs.declared.error.Refusal.{Refusal}
use Rattle.sqlite_rules.specs.declared.error.Refusal.TheVariants.{Violates}
use Rattle.office_tables.specs.Faults.{HasCause}
use Rattle.office_tables.proofs.Common.{All, AllByRecursion, Applies, AtPlace, BadReference, Check, Database, Datatype}
use Rattle.office_tables.proofs.Common.{Does, Edit, Enforced, Error, Executes, ForeignKey, Given, Has, Int, IsAscending}
use Rattle.office_tables.proofs.Common.{IsLive, IsPermutation, IsPermutation-filter, IsPlain, IsRefused, IsUnlimited}
use Rattle.office_tables.proofs.Common.{Keeps, Mismatch, Mode, NoRowid, NotNull, Obeys, OnRows, PrimaryKey, Program}
use Rattle.office_tables.proofs.Common.{Queried, Refers, RefusesQuery, Rises, Row, Schema, State, Table, TooDeep, Trees}
use Rattle.office_tables.proofs.Common.{Unique, Update, Written, all_from, all_has, and_from, and_parts, are_fresh}
use Rattle.office_tables.proofs.Common.{ascending-filter, cast_row, column, command_of, due, edit_error, edit_of}
use Rattle.office_tables.proofs.Common.{edited, false_from_ne_true, fault_of, guards, has_filtered, has_got, id_in}
use Rattle.office_tables.proofs.Common.{ids_of, int_cmp, is_eq, is_int, left_by, length_permutation, list_all, ltb-true}
use Rattle.office_tables.proofs.Common.{mode_of, one_step, or_cases, or_left, or_right, passes_checks, put_has, put_row}
use Rattle.office_tables.proofs.Common.{references_fit, refers_at, refers_from, rowid, some_has, statement_of, taken_by}
use Rattle.office_tables.proofs.Common.{test_from, test_has, works}
use Rattle.office_tables.proofs.Causes.{failed_cause}
use Rattle.office_tables.proofs.NumberedKeys.{firm, firm_unique, unique_from_firm}
use Rattle.office_tables.proofs.Failures.{IsWhole, fails_as}
use Rattle.office_tables.proofs.Refusals.{same_error, edit_refused, never_misplaced}
use Rattle.office_tables.proofs.Rows.{by_key, by_key_total, same_key, removed, eq_from, had, has_map, map_has, compared}
use Rattle.office_tables.proofs.Sorted.{once, none_like, none_from, fewer}
use Rattle.office_tables.proofs.Steps.{plain, went, same_value}
use Rattle.office_tables.proofs.Updates.{left_is, put_are, changes_rows}

-- ---- why an UPDATE is refused, whatever the schema is

pub data IsUpdateRefusal (limit : Option ℕ) (mode : Mode) (params : Row) (schema : Schema) (table : Table) (q : Program) (db : Trees) (e : Error) : Type 0 where
  -- the values do not type, or the limit on steps is reached
  by_query : RefusesQuery limit (record { schema = schema; trees = db }) q params e
      → IsUpdateRefusal limit mode params schema table q db e
  -- a rule of the table
  by_rule : (rows : List Row) → Answers (record { schema = schema; trees = db }) q params rows → (why : Refusal)
      → IsRefused schema mode.keys db (edit_of db table (ids_of rows) Given 1 rows) why → e ≡ edit_error why
      → IsUpdateRefusal limit mode params schema table q db e
  -- a foreign key, once the rows are changed
  by_parent : (rows : List Row) → Answers (record { schema = schema; trees = db }) q params rows → (after : Trees)
      → Applies schema mode.keys db (edit_of db table (ids_of rows) Given 1 rows) after
      → (Refers (due mode) schema after → ⊥) → IsUpdateRefusal limit mode params schema table q db e

-- no action of a foreign key is set off, whatever rows are changed
abbrev pub IsIdle : Schema → Mode → Table → Trees → Type 0
IsIdle schema mode table db =
    (rows : List Row) → works schema mode.keys 0 table.tree (taken_by db (edit_of db table (ids_of rows) Given 1 rows)) (edit_of db table (ids_of rows) Given 1 rows).news ≡ []

module _ (schema : Schema) (at : ℕ) (any : Table) (is : slice_get schema.tables at ≡ Some (plain any)) where
  pub update_refused : (limit : Option ℕ) (mode : Mode) (params : Row) (text : List ℕ) (q : Program) (before : Database) (e : Error)
      → before.schema ≡ schema → IsIdle schema mode (plain any) before.trees
      → Does limit mode params before text None (Update at q) (Err (Some e))
      → IsUpdateRefusal limit mode params schema (plain any) q before.trees e
  update_refused limit mode params text q before e has idle h =
      let does = subst (λ s. Does limit mode params (record before { schema = s }) text None (Update at q) (Err (Some e))) has h in
      let on = subst (λ o. AtPlace (λ t. OnRows (record { limit = limit; keys = mode.keys; schema = schema; table = t; params = params }) mode None (Update at q) before.trees) o (Err (Some e))) is does in
      go on
    where
      queried : (stop : Option Error)
          → Queried limit (record { schema = schema; trees = before.trees }) q params (Err stop) → stop ≡ Some e
          → IsUpdateRefusal limit mode params schema (plain any) q before.trees e
      queried None h f = absurd h
      queried (Some x) h f = let same : x ≡ e = cc in by_query (rw same at h)

      go : OnRows (record { limit = limit; keys = mode.keys; schema = schema; table = plain any; params = params }) mode None (Update at q) before.trees (Err (Some e))
          → IsUpdateRefusal limit mode params schema (plain any) q before.trees e
      go (inl (stop, inl (s, refused, p), o)) = queried s refused (sym (same_error p) ∙ sym (same_error o))
      go (inl (stop, inr (rows, given, inl (s, wrote, p)), o)) =
          let it = edit_refused schema mode before.trees (edit_of before.trees (plain any) (ids_of rows) Given 1 rows) e (idle rows) s wrote (sym (same_error p) ∙ sym (same_error o)) in
          by_rule rows given it.0 it.1 it.2
      go (inl (stop, inr (rows, given, inr (next, wrote, last)), o)) = absurd (let k = last in cc)
      go (inr (w, updated, inl (stop, tested, o))) =
          let given = went updated in
          let written = went given.2 in
          let edit = edit_of before.trees (plain any) (ids_of given.0) Given 1 given.0 in
          let trees : written.0 ≡ w.trees = sym (ap (λ (it : Written). it.trees) (same_value written.2)) in
          by_parent given.0 given.1 w.trees (subst (Applies schema mode.keys before.trees edit) trees (one_step schema mode.keys before.trees written.0 edit (idle given.0) written.1)) tested.0
      go (inr (w, updated, inr (defect, tested, inl shown))) = absurd (let k = shown.1 in cc)
      go (inr (w, updated, inr (defect, tested, inr last))) = absurd (let k = last.2 in cc)

-- ---- the cause

-- the rows that the query answers break no rule, and leave no row without its parent
pub record Accepts (schema : Schema) (table : Table) (db : Trees) (rows : List Row) : Type 0 where
  pub rules : (why : Refusal) → IsRefused schema Enforced db (edit_of db table (ids_of rows) Given 1 rows) why
      → why ≡ NoRowid
  pub keys : (after : Trees) → Applies schema Enforced db (edit_of db table (ids_of rows) Given 1 rows) after
      → Refers All schema after

module _ (sql : List ℕ) (params : Row) (old new : State) (schema : Schema) (has : old.now.schema ≡ schema) (at : ℕ) (any : Table) (there : slice_get schema.tables at ≡ Some (plain any)) (q : Program)
    (is : command_of (understood schema sql) ≡ Update at q) (bare : IsPlain (understood schema sql)) (whole : IsWhole (length sql) (length params) (understood schema sql)) where
  pub update_cause : IsUnlimited old → IsLive old → IsIdle schema (mode_of old) (plain any) old.now.trees
      → ((e : Error) → RefusesQuery None (record { schema = schema; trees = old.now.trees }) q params e → ⊥)
      → (Obeys schema old.now.trees → (rows : List Row) → Answers (record { schema = schema; trees = old.now.trees }) q params rows → Accepts schema (plain any) old.now.trees rows)
      → (e : Error) → Executes sql params old new (Err e) → HasCause old new (fault_of e)
  update_cause free live idle typed accepts e h = elim (fails_as sql params old new schema has (Update at q) is bare whole refl e h) [
    | inr failed ↦ failed_cause old new e failed.1
    | inl refused ↦ elim refused.why [
      | inl misplaced ↦ absurd (never_misplaced old (Update at q) e refl misplaced)
      | inr does ↦
          let obeys : Obeys schema old.now.trees =
          subst (λ s. Obeys s old.now.trees) has (live refused.same.0.was_open).0.obeys in
          why obeys (update_refused schema at any there old.step_limit (mode_of old) params (statement_of sql (understood schema sql)) q old.now e has idle does.1)
    ]
  ]
    where
      ruled : (r : Refusal) → r ≡ NoRowid → e ≡ edit_error r → HasCause old new (fault_of e)
      ruled r is named = subst (λ x. HasCause old new (fault_of x)) (sym (named ∙ ap edit_error is)) tt

      why : Obeys schema old.now.trees
          → IsUpdateRefusal old.step_limit (mode_of old) params schema (plain any) q old.now.trees e
          → HasCause old new (fault_of e)
      why obeys (by_query refused) =
          absurd (typed e (subst (λ limit. RefusesQuery limit (record { schema = schema; trees = old.now.trees }) q params e) free refused))
      why obeys (by_rule rows given r refused named) = ruled r ((accepts obeys rows given).rules r refused) named
      why obeys (by_parent rows given after applied strays) =
          absurd (strays ((accepts obeys rows given).keys after applied))

-- ---- what an update in place keeps

-- so the tables have a tree each, in the order of the trees
abbrev pub rise : List Table → Bool
rise [] = true
rise (t ∷ tables) = list_all (λ u. ltb t.tree u.tree) tables && rise tables

pub apart_from : (tables : List Table) → rise tables ≡ true → IsAscending (λ a b. a.tree ≡ b.tree → ⊥) tables
apart_from [] h = tt
apart_from (t ∷ tables) h =
    let k = and_parts (list_all (λ u. ltb t.tree u.tree) tables) (rise tables) h in
    (all_from (λ u. t.tree ≡ u.tree → ⊥) tables (λ u there e. omega (arith, ltb-true t.tree u.tree (test_has (λ u. ltb t.tree u.tree) tables u k.0 there), e)), apart_from tables k.1)

-- the columns that are kept have each UNIQUE of the table that could refuse a row, and each of its references
abbrev pub spares : (ℕ → Bool) → Schema → Table → Bool
spares kept schema table = list_all (λ i. not (guards i table) || list_all kept i.columns) (firm schema).indexes && list_all (λ ref. list_all kept ref.columns) table.references

-- what is computed of the schema
pub record KeepsTable (kept : ℕ → Bool) (schema : Schema) (at : ℕ) (table : Table) : Type 0 where
  pub listed : slice_get schema.tables at ≡ Some table
  pub apart : rise schema.tables ≡ true
  pub spared : spares kept schema table ≡ true
  pub fits : (references_fit schema table true true && references_fit (firm schema) table true true) ≡ true

fits_any : (a b x y : Bool) → ((not true || x) && (not true || y)) ≡ true → ((not a || x) && (not b || y)) ≡ true
fits_any a b x y h = let k = and_parts x y h in and_from _ _ (or_right (not a) x k.0) (or_right (not b) y k.1)

module _ (kept : ℕ → Bool) (schema : Schema) (at : ℕ) (table : Table) (it : KeepsTable kept schema at table) where
  listed : Has schema.tables table
  listed = has_got schema.tables at table it.listed

  kept_at : (a b : Row) → ((p : ℕ) → kept p ≡ true → column a p ≡ column b p) → (places : List ℕ)
      → list_all kept places ≡ true → AgreeAt places a b
  kept_at a b same places all =
      all_from (λ p. column a p ≡ column b p) places (λ p h. same p (test_has kept places p all h))

  twins : (a b : Row) → rowid a ≡ rowid b → ((p : ℕ) → kept p ≡ true → column a p ≡ column b p)
      → Twins (firm schema) table a b
  twins a b id same =
      let parts = and_parts _ _ it.spared in
      record {
        id = id;
        keys = record {
          unique = all_from (λ i. guards i table ≡ true → AgreeAt i.columns a b) (firm schema).indexes (λ i h guarded.
              kept_at a b same i.columns (elim (or_cases _ _ (test_has (λ i. not (guards i table) || list_all kept i.columns) (firm schema).indexes i parts.0 h)) [
                | inl none ↦ absurd (let k = sym none ∙ ap not guarded in cc)
                | inr all ↦ all
              ]));
          refers = all_from (λ ref. AgreeAt ref.columns a b) table.references (λ ref h. kept_at a b same ref.columns (test_has (λ ref. list_all kept ref.columns) table.references ref parts.1 h));
        };
      }

  -- records whose rows are changed, and not their numbers nor the columns that are kept
  module _ {A : Type 0} (row : A → Row) (key : A → ℤ) (keyed : (x : A) → rowid (row x) ≡ Int (key x)) (keep : A → Bool) (change : A → A) (same_id : (x : A) → key (change x) ≡ key x)
      (alike : (x : A) (p : ℕ) → kept p ≡ true → column (row x) p ≡ column (row (change x)) p) (xs : List A) where
    abbrev changed : A → A
    changed x = if keep x then change x else x

    twin : (x : A) → Twins (firm schema) table (row x) (row (changed x))
    twin x = elim (keep x) as (λ b. Twins (firm schema) table (row x) (row (if b then change x else x))) [
      | true ↦ twins (row x) (row (change x)) (keyed x ∙ ap Int (sym (same_id x)) ∙ sym (keyed (change x))) (alike x)
      | false ↦ twins (row x) (row x) refl (λ _ _. refl)
    ]

    are_twins : (old new : Trees) → old table.tree ≡ map row xs → new table.tree ≡ map row (map changed xs)
        → AreTwins (firm schema) table old new
    are_twins old new was now = record {
      before = λ r h.
          let outer = map_has row (map changed xs) r (subst (λ l. Has l r) now h) in
          let inner = map_has changed xs outer.0 outer.1 in
          let is : row (changed inner.0) ≡ r = sym (outer.2 ∙ ap row inner.2) in
          (row inner.0, subst (λ l. Has l (row inner.0)) (sym was) (has_map row xs inner.0 inner.1), subst (Twins (firm schema) table (row inner.0)) is (twin inner.0));
      after = λ o h.
          let from = map_has row xs o (subst (λ l. Has l o) was h) in
          let there : Has (new table.tree) (row (changed from.0)) =
          subst (λ l. Has l (row (changed from.0))) (sym now) (has_map row (map changed xs) (changed from.0) (has_map changed xs from.0 from.1)) in
          (row (changed from.0), there, subst (λ o. Twins (firm schema) table o (row (changed from.0))) (sym from.2) (twin from.0));
      keys = (and_parts _ _ (and_parts _ _ it.fits).1).1;
    }

    unique_kept : (db : Trees) → db table.tree ≡ map row xs → Keeps Unique schema db
        → Keeps Unique schema (with_tree db table.tree (map row (map changed xs)))
    unique_kept db was keeps =
        let new = with_tree db table.tree (map row (map changed xs)) in
        unique_from_firm schema new (unique_stays (firm schema) db new table listed (apart_from schema.tables it.apart) (λ t _ other. elsewhere t.tree other) (are_twins db new was here) (firm_unique schema db keeps))
      where
        here : with_tree db table.tree (map row (map changed xs)) table.tree ≡ map row (map changed xs)
        here = rw (eq-eqb table.tree table.tree refl) refl

        elsewhere : (tree : ℕ) → tree ≢ table.tree → with_tree db table.tree (map row (map changed xs)) tree ≡ db tree
        elsewhere tree other = let none = false_from_ne_true (tree == table.tree) (λ h. other (eqb-true tree table.tree h)) in rw none refl

    -- each row that had its parents has them still
    refers_kept : (old new : Trees) → old table.tree ≡ map row xs → new table.tree ≡ map row (map changed xs)
        → AllByRecursion (λ t. t.tree ≢ table.tree → new t.tree ≡ old t.tree) schema.tables
        → Refers All schema old → Refers All schema new
    refers_kept old new was now others refers =
        let apart = apart_from schema.tables it.apart in
        let rest = λ (t : Table) (h : Has schema.tables t). all_has (λ t. t.tree ≢ table.tree → new t.tree ≡ old t.tree) schema.tables t others h in
        let all = are_twins old new was now in
        refers_from All schema new (λ t ref r here known is there.
        let mine = twin_of (firm schema) old new table listed apart rest all t r here there in
        let same = all_has (λ ref. AgreeAt ref.columns mine.0 r) t.references ref mine.3 known in
        elim (or_cases _ _ (refers_at All schema old t mine.0 ref refers here mine.1 known is)) [
          | inl none ↦ or_left _ _ (null_same ref.columns mine.0 r same ∙ none)
          | inr held ↦ or_right _ _ (held_stays (firm schema) old new table listed apart rest all t ref mine.0 r here known same _ refl held)
        ])

    module _ (up : Rises (by_key row key keyed) xs) (ys : List A) (perm : IsPermutation (filter keep xs) ys) where
      few : (v : A) → length (filter (λ z. is_eq (int_cmp (key v) (key z))) ys) ≤ 1
      few v =
          let found = λ (z : A). is_eq (int_cmp (key v) (key z)) in
          rw (length_permutation _ _ (IsPermutation-filter found (filter keep xs) ys perm)) (once (by_key row key keyed) (by_key_total row key keyed) v (filter keep xs) (ascending-filter _ keep xs up))

      tied : (a y : A) → is_eq (value_cmp (rowid (row a)) (rowid (row (change y)))) ≡ true
          → int_cmp (key a) (key y) ≡ Equal
      tied a y h = eq_from _ (ap is_eq (sym (compared row key keyed a (change y) ∙ ap (int_cmp (key a)) (same_id y))) ∙ h)

      fresh_from : (zs : List A) → ((v : A) → length (filter (λ z. is_eq (int_cmp (key v) (key z))) zs) ≤ 1)
          → (rows : List Row)
          → ((z : A) (r : Row) → Has zs z → Has rows r → is_eq (value_cmp (rowid r) (rowid (row (change z)))) ≡ true → ⊥)
          → are_fresh rows (map (λ x. row (change x)) zs) ≡ true
      fresh_from [] once_each rows apart = refl
      fresh_from (z ∷ zs) once_each rows apart =
          let n = row (change z) in
          and_from _ _ (ap not (false_from_ne_true _ (λ taken. let r = some_has (λ r. is_eq (value_cmp (rowid r) (rowid n))) rows taken in apart z r.0 (inl refl) r.1 r.2)))
          (fresh_from zs (λ v. fewer (by_key row key keyed) (by_key_total row key keyed) v z zs (once_each v)) (put_row n rows) (λ w r h there tie. elim (put_has n rows r there) [
            | inl e ↦
                let same : int_cmp (key z) (key w) ≡ Equal =
                ap (λ k. int_cmp k (key w)) (sym (same_id z))
                ∙ tied (change z) w (subst (λ r. is_eq (value_cmp (rowid r) (rowid (row (change w)))) ≡ true) e tie) in
                let none = none_from (by_key row key keyed) (by_key_total row key keyed) (λ w. is_eq (int_cmp (key z) (key w))) zs (none_like (by_key row key keyed) (by_key_total row key keyed) z zs (once_each z)) in
                let clash : true ≡ false =
                sym (ap is_eq same) ∙ all_has (λ w. is_eq (int_cmp (key z) (key w)) ≡ false) zs w none h in
                cc
            | inr old ↦ apart w r (inr h) old tie
          ]))

      -- the numbers of the rows that are put back are free
      fresh : are_fresh (map row (filter (λ x. not (keep x)) xs)) (map (λ x. row (change x)) ys) ≡ true
      fresh = fresh_from ys few (map row (filter (λ x. not (keep x)) xs)) (λ z r h there tie.
          let from = map_has row (filter (λ x. not (keep x)) xs) r there in
          let x = has_filtered (λ x. not (keep x)) xs from.0 from.1 in
          let y = has_filtered keep xs z (had (filter keep xs) ys perm z h) in
          let same : from.0 ≡ z =
          same_key row key keyed xs from.0 z up x.0 y.0 (tied from.0 z (subst (λ r. is_eq (value_cmp (rowid r) (rowid (row (change z)))) ≡ true) from.2 tie)) in
          let clash : false ≡ true = sym (ap not (ap keep same ∙ y.1)) ∙ x.1 in
          cc)

      module _ (typed : (x : A) → is_typed table (row (change x)) ≡ true) (present : (x : A) → is_present table (row (change x)) ≡ true) (checked : (x : A) → passes_checks table (row (change x)) ≡ true)
          (db : Trees) (stored : db table.tree ≡ map row xs) (source : A → Row) (named : (x : A) → id_in (rowid (source x)) ≡ key x) (rows : List Row) (shown : rows ≡ map source ys)
          (casts : (x : A) → Has ys x → cast_row table (drop 1 (source x)) ≡ row (change x)) where
        abbrev edit : Edit
        edit = edit_of db table (ids_of rows) Given 1 rows

        news : edit.news ≡ map (λ x. row (change x)) ys
        news = put_are table row key keyed db xs stored up keep ys perm source named rows shown change same_id casts

        free : are_fresh (left_by db edit) edit.news ≡ true
        free = ap₂ are_fresh (left_is table row key keyed db xs stored up keep ys perm source named rows shown ∙ removed row key keyed xs up keep ys perm) news ∙ fresh

        now : edited db edit ≡ map row (map changed xs)
        now = changes_rows table row key keyed db xs stored up keep ys perm source named rows shown change same_id casts free

        all_new : (p : Row → Bool) → ((x : A) → p (row (change x)) ≡ true) → list_all p edit.news ≡ true
        all_new p each = ap (list_all p) news ∙ test_from p (map (λ x. row (change x)) ys) (λ r h. let from = map_has (λ x. row (change x)) ys r h in ap p from.2 ∙ each from.0)

        clash : {b : Bool} → b ≡ true → b ≡ false → ⊥
        clash is not_so = let k : true ≡ false = sym is ∙ not_so in cc

        -- the rules of the table hold of the rows as they are changed
        pub accepts : Obeys schema db → Accepts schema table db rows
        accepts obeys = record { rules = rules; keys = λ after applied. refers_kept db after stored (applied.rows ∙ now) applied.tables (obeys.rules ForeignKey) }
          where
            rules : (why : Refusal) → IsRefused schema Enforced db edit why → why ≡ NoRowid
            rules (Violates Datatype) h = absurd (clash (all_new (is_typed table) typed) h)
            rules (Violates NotNull) h = absurd (clash (all_new (is_present table) present) h)
            rules (Violates Check) h = absurd (clash (all_new (passes_checks table) checked) h)
            rules (Violates PrimaryKey) h = absurd (clash free h)
            rules (Violates Unique) h =
                absurd (h (subst (λ l. Keeps Unique schema (with_tree db table.tree l)) (sym now) (unique_kept db stored (obeys.rules Unique))))
            rules (Violates ForeignKey) h = absurd h
            rules Mismatch h = absurd (clash (all_new (λ r. is_int (rowid r)) (λ x. ap is_int (keyed (change x)))) h)
            rules NoRowid h = refl
            rules BadReference h = absurd (clash (fits_any (nat_lt 0 (length edit.news)) (nat_lt 0 (length edit.gone)) _ _ (and_parts _ _ it.fits).0) h)
            rules TooDeep h = absurd h
