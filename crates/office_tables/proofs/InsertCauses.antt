-- Why the INSERT of one row fails, where its table takes the row: for want of memory, or of the disk.
use Rattle.std.proofs.Common.{◌≡◌, ◌≢◌, ◌⊎◌, inl, inr, IsSome, ℕ, ◌/◌, List, [], ◌∷◌, length, slice_get, Bool, true}
use Rattle.std.proofs.Common.{false, not, ◌&&◌, ◌||◌, eqb, Err, Option, Some, None, refl, sym, ap, subst, ◌∙◌}
use Rattle.std.proofs.Common.{true≢false}
use Rattle.std.proofs.lemmas.Bool.{both_ways, eq-eqb}
use Rattle.std.proofs.lemmas.Cmp.{tied_itself}
use Rattle.sqlite.specs.Listing.{understood}
use Rattle.sqlite.specs.Source.TheVariants.{Values}
use Rattle.sqlite_rules.specs.Keys.{are_unique}
use Rattle.sqlite_rules.specs.declared.error.Refusal.{Refusal}
use Rattle.sqlite_rules.specs.declared.error.Refusal.TheVariants.{Violates}
use Rattle.sqlite_schema.specs.declared.schema.Index.{Index}
use Rattle.sqlite_sql.specs.Ops.{binary}
use Rattle.sqlite_trees.specs.Tree.{with_tree}
use Rattle.office_tables.specs.Faults.{HasCause}
use Rattle.office_tables.specs.Versions.{Version, First, Second}
use Rattle.office_tables.proofs.Common.{All, BadReference, Check, Chosen, Datatype, Enforced, Error, Executes}
use Rattle.office_tables.proofs.Common.{ForeignKey, Has, Insert, IsAscending, IsLive, IsPlain, IsRefused, IsUnlimited}
use Rattle.office_tables.proofs.Common.{Mismatch, NoRowid, NotNull, Obeys, ParentKey, PrimaryKey, Reference, Refers}
use Rattle.office_tables.proofs.Common.{RefusesSource, Row, Schema, State, Table, Term, TooDeep, Trees, Turns, Unique}
use Rattle.office_tables.proofs.Common.{Value, agree, all_from, all_has, and_from, and_parts, are_fresh, cases_eq}
use Rattle.office_tables.proofs.Common.{clashes, command_of, differ, edit_error, edit_of, false_from_ne_true, fault_of}
use Rattle.office_tables.proofs.Common.{guards, has_got, has_parent, int_is, is_held, is_int, is_key_of, is_ne}
use Rattle.office_tables.proofs.Common.{is_taken, list_all, list_any, mode_of, ne_eqb, not-true, not_from_false}
use Rattle.office_tables.proofs.Common.{or_cases, or_left, or_right, origin, parent_is_table, parent_key, passes}
use Rattle.office_tables.proofs.Common.{put_all, put_all_adds, put_all_keeps, put_has, put_row, refers_at, refers_from}
use Rattle.office_tables.proofs.Common.{rowid, schema, some_from, some_has, statement_of, test_from, test_has}
use Rattle.office_tables.proofs.Common.{unique_kept, value_cmp_total, value_rows}
use Rattle.office_tables.proofs.Causes.{failed_cause}
use Rattle.office_tables.proofs.Failures.{IsWhole, fails_as}
use Rattle.office_tables.proofs.NumberedKeys.{is_numbered, never_clashes}
use Rattle.office_tables.proofs.Refusals.{IsInsertRefusal, by_source, by_rule, by_key, insert_refused, never_misplaced}
use Rattle.office_tables.proofs.Steps.{plain}
use Rattle.office_tables.proofs.Tests.{flag}

-- values without a limit are refused for their types alone
pub values_typed : {A B X : Type 0} → (A × X) ⊎ (B × (let none : Option ℕ = None in IsSome none)) → (X → ⊥) → ⊥
values_typed (inl refused) typed = typed refused.1
values_typed (inr cut) typed = absurd (let limited : false ≡ true = cut.1 in cc)

-- ---- no two tables of ours have one tree

abbrev are_apart : List Table → Bool
are_apart [] = true
are_apart (t ∷ tables) = not (list_any (λ (u : Table). eqb t.tree u.tree) tables) && are_apart tables

apart_from : (tables : List Table) → are_apart tables ≡ true → IsAscending (λ (a b : Table). a.tree ≡ b.tree → ⊥) tables
apart_from [] h = tt
apart_from (t ∷ tables) h =
    let parts = and_parts _ _ h in (
      all_from _ tables (λ u there same. both_ways _ (not-true _ parts.0) (some_from (λ (u : Table). eqb t.tree u.tree) tables u there (eq-eqb t.tree u.tree same))),
      apart_from tables parts.1,
    )

pub tables_apart : (v : Version) → IsAscending (λ (a b : Table). a.tree ≡ b.tree → ⊥) (schema v).tables
tables_apart First = apart_from (schema First).tables refl
tables_apart Second = apart_from (schema Second).tables refl

-- ---- a row that its table takes

pub record IsWelcome (schema : Schema) (db : Trees) (table : Table) (row : Row) : Type 0 where
  pub keyed : is_int (rowid row) ≡ true
  pub free : is_taken (db table.tree) row ≡ false
  pub typed : passes Datatype schema db table row ≡ true
  pub present : passes NotNull schema db table row ≡ true
  pub checked : passes Check schema db table row ≡ true
  -- no row has its key in a unique index, but for one that holds the number of the row
  pub alone : list_all (λ i. is_numbered i || not (guards i table && list_any (λ r. agree i.order i.columns r i.columns row) (db table.tree))) schema.indexes ≡ true
  -- what it refers to is there
  pub referred : list_all (is_key_of schema) table.references ≡ true
  pub parents : list_all (has_parent schema.tables db row) table.references ≡ true

differs_not : (v : Value) → is_int v ≡ true → differ v v ≡ true → ⊥
unfolding binary
differs_not v whole h =
    let same : differ v v ≡ false = rw (int_is v whole) (flag _ ∙ ap is_ne (tied_itself value_cmp_total _)) in
    both_ways _ same h

module _ (schema : Schema) (apart : IsAscending (λ (a b : Table). a.tree ≡ b.tree → ⊥) schema.tables) (table : Table) (listed : Has schema.tables table)
    (db after : Trees) (row : Row) (welcome : IsWelcome schema db table row)
    (rows : after table.tree ≡ put_row row (db table.tree)) (others : (t : Table) → Has schema.tables t → t.tree ≢ table.tree → after t.tree ≡ db t.tree) where
  fresh : are_fresh (db table.tree) (row ∷ []) ≡ true
  fresh = and_from _ _ (ap not welcome.free) refl

  turns : Turns schema db after table (db table.tree) [] (row ∷ [])
  turns = record {
    apart = apart;
    listed = listed;
    others = others;
    from = λ r h. elim (put_has row (db table.tree) r (subst (λ l. Has l r) rows h)) [ inl is ↦ inl (inl is) | inr was ↦ inr was ];
    stays = λ r h. subst (λ l. Has l r) (sym rows) (put_all_keeps (row ∷ []) (db table.tree) r fresh h);
    added = λ r h. subst (λ l. Has l r) (sym rows) (put_all_adds (row ∷ []) (db table.tree) r fresh h);
    was = λ r h. h;
    split = λ r h. inl h;
  }

  no_clash : (i : Index) → Has schema.indexes i → guards i table ≡ true
      → clashes i.order i.columns (after table.tree) row ≡ true → ⊥
  no_clash i known on clash = elim (or_cases _ _ (test_has _ schema.indexes i welcome.alone known)) [
    | inl numbered ↦ never_clashes i (after table.tree) row numbered clash
    | inr lone ↦
        let other = some_has _ (after table.tree) clash in
        let parts = and_parts _ _ other.2 in
        elim (put_has row (db table.tree) other.0 (subst (λ l. Has l other.0) rows other.1)) [
          | inl is ↦ differs_not (rowid row) welcome.keyed (subst (λ r. differ (rowid r) (rowid row) ≡ true) is parts.1)
          | inr was ↦ both_ways _ (not-true _ lone) (and_from _ _ on (some_from (λ r. agree i.order i.columns r i.columns row) (db table.tree) other.0 was parts.0))
        ]
  ]

  unique : are_unique schema.indexes after table (row ∷ []) ≡ true
  unique = test_from _ schema.indexes (λ i known. not_from_false _ (false_from_ne_true _ (λ both.
      let parts = and_parts _ _ both in
      elim (or_cases _ _ parts.1) [ inl clash ↦ no_clash i known parts.0 clash | inr none ↦ absurd (true≢false (sym none)) ])))

  kept : (t : Table) → Has schema.tables t → (x : Row) → Has (db t.tree) x → Has (after t.tree) x
  kept t known x h = elim (cases_eq t.tree table.tree) [
    | inl same ↦ subst (λ n. Has (after n) x) (sym same) (turns.stays x (subst (λ n. Has (db n) x) same h))
    | inr other ↦ subst (λ l. Has l x) (sym (others t known other)) h
  ]

  held_still : (r : Row) (ref : Reference) (key : Option ParentKey) → parent_key schema.tables ref ≡ key
      → is_held db ref.columns r key ≡ true → is_held after ref.columns r key ≡ true
  held_still r ref None is h = h
  held_still r ref (Some key) is h =
      let parent = some_has _ (db key.0) h in
      let t = parent_is_table schema.tables ref key is in
      some_from _ (after key.0) parent.0 (subst (λ n. Has (after n) parent.0) t.2 (kept t.0 t.1 parent.0 (subst (λ n. Has (db n) parent.0) (sym t.2) parent.1))) parent.2

  still : (r : Row) (ref : Reference) → has_parent schema.tables db r ref ≡ true
      → has_parent schema.tables after r ref ≡ true
  still r ref h = elim (or_cases _ _ h) [
    | inl null ↦ or_left _ _ null
    | inr held ↦ or_right _ _ (held_still r ref (parent_key schema.tables ref) refl held)
  ]

  -- each row has its parents still
  refers : Refers All schema db → Refers All schema after
  refers holds = refers_from All schema after (λ t ref r known of is there. elim (origin schema db after table (db table.tree) [] (row ∷ []) turns t r known there) [
    | inl new ↦
        let at : Has table.references ref = subst (λ (t : Table). Has t.references ref) new.0 of in
        elim new.1 [ inl same ↦ subst (λ r. has_parent schema.tables after r ref ≡ true) (sym same) (still row ref (test_has _ table.references ref welcome.parents at)) | inr none ↦ absurd none ]
    | inr before ↦ still r ref (refers_at All schema db t r ref holds known before of refl)
  ])

-- ---- an INSERT of such a row

module _ (schema : Schema) (apart : IsAscending (λ (a b : Table). a.tree ≡ b.tree → ⊥) schema.tables) (at : ℕ) (any : Table) (is : slice_get schema.tables at ≡ Some (plain any))
    (db : Trees) (obeys : Obeys schema db) (row : Row) (welcome : IsWelcome schema db (plain any) row) where
  listed : Has schema.tables (plain any)
  listed = has_got schema.tables at (plain any) is

  put : Trees
  put = with_tree db any.tree (put_row row (db any.tree))

  put_there : put any.tree ≡ put_row row (db any.tree)
  unfolding put
  put_there = rw (eq-eqb any.tree any.tree refl) refl

  put_apart : (t : Table) → Has schema.tables t → t.tree ≢ any.tree → put t.tree ≡ db t.tree
  unfolding put
  put_apart t known other = rw (ne_eqb t.tree any.tree other) refl

  one_refused : (why : Refusal)
      → IsRefused schema Enforced db (record { table = plain any; gone = []; news = row ∷ [] }) why → why ≡ NoRowid
  unfolding put
  one_refused (Violates Datatype) h = absurd (both_ways _ h (and_from _ _ welcome.typed refl))
  one_refused (Violates NotNull) h = absurd (both_ways _ h (and_from _ _ welcome.present refl))
  one_refused (Violates Check) h = absurd (both_ways _ h (and_from _ _ welcome.checked refl))
  one_refused (Violates PrimaryKey) h = absurd (both_ways _ h (and_from _ _ (ap not welcome.free) refl))
  one_refused (Violates Unique) h =
      absurd (h (unique_kept schema db put (plain any) _ _ _ (turns schema apart (plain any) listed db put row welcome put_there put_apart)
      (unique schema apart (plain any) listed db put row welcome put_there put_apart) (obeys.rules Unique)))
  one_refused (Violates ForeignKey) h = absurd h
  one_refused Mismatch h = absurd (both_ways _ h (and_from _ _ welcome.keyed refl))
  one_refused NoRowid h = refl
  one_refused BadReference h = absurd (both_ways _ h (and_from _ _ welcome.referred refl))
  one_refused TooDeep h = absurd h

  not_refused : (news : List Row) → news ≡ row ∷ [] → (why : Refusal)
      → IsRefused schema Enforced db (record { table = plain any; gone = []; news = news }) why → why ≡ NoRowid
  not_refused news are why h =
      one_refused why (subst (λ news. IsRefused schema Enforced db (record { table = plain any; gone = []; news = news }) why) are h)

module _ (v : Version) (at : ℕ) (any : Table) (is : slice_get (schema v).tables at ≡ Some (plain any)) (sql : List ℕ) (params : Row) (old new : State) (has : old.now.schema ≡ schema v)
    (terms : List Term) (width : ℕ) (is_command : command_of (understood (schema v) sql) ≡ Insert at (Values terms width)) (bare : IsPlain (understood (schema v) sql))
    (whole : IsWhole (length sql) (length params) (understood (schema v) sql)) (live : IsLive old) (free : IsUnlimited old) (accepted : (e : Error) → RefusesSource None (record { schema = schema v; trees = old.now.trees }) params (Values terms width) e → ⊥)
    (row : Row) (news : (edit_of old.now.trees (plain any) [] Chosen 0 (value_rows params width (length terms / width) terms)).news ≡ row ∷ []) (welcome : IsWelcome (schema v) old.now.trees (plain any) row) where
  refused_cause : Obeys (schema v) old.now.trees → (e : Error)
      → IsInsertRefusal old.step_limit (mode_of old) params (schema v) (plain any) (Values terms width) old.now.trees e
      → HasCause old new (fault_of e)
  refused_cause obeys e (by_source refused) =
      absurd (accepted e (subst (λ limit. RefusesSource limit (record { schema = schema v; trees = old.now.trees }) params (Values terms width) e) free refused))
  refused_cause obeys e (by_rule rows given why h names) =
      let news_are = subst (λ rows. (edit_of old.now.trees (plain any) [] Chosen 0 rows).news ≡ row ∷ []) (sym given.1) news in
      let no_number = not_refused (schema v) (tables_apart v) at any is old.now.trees obeys row welcome _ news_are why h in
      subst (λ e. HasCause old new (fault_of e)) (sym (names ∙ ap edit_error no_number)) tt
  refused_cause obeys e (by_key rows after given applies stray names) =
      let news_are = subst (λ rows. (edit_of old.now.trees (plain any) [] Chosen 0 rows).news ≡ row ∷ []) (sym given.1) news in
      let put : after any.tree ≡ put_row row (old.now.trees any.tree) =
      applies.rows ∙ ap (λ news. put_all (old.now.trees any.tree) news) news_are in
      absurd (stray (refers (schema v) (tables_apart v) (plain any) (has_got (schema v).tables at (plain any) is) old.now.trees after row welcome put (λ t known. all_has (λ (t : Table). t.tree ≢ any.tree → after t.tree ≡ old.now.trees t.tree) (schema v).tables t applies.tables known) (obeys.rules ForeignKey)))

  -- an INSERT of a row that its table takes fails for want of memory or of the disk
  pub insert_cause : (e : Error) → Executes sql params old new (Err e) → HasCause old new (fault_of e)
  insert_cause e h = elim (fails_as sql params old new (schema v) has (Insert at (Values terms width)) is_command bare whole refl e h) [
    | inl refused ↦ elim refused.why [
      | inl misplaced ↦ absurd (never_misplaced old (Insert at (Values terms width)) e refl misplaced)
      | inr does ↦
          let sound = (live refused.same.0.was_open).0 in
          let obeys = subst (λ s. Obeys s old.now.trees) has sound.obeys in
          refused_cause obeys e (insert_refused (schema v) at any is old.step_limit (mode_of old) params (statement_of sql (understood (schema v) sql)) (Values terms width) old.now e has does.1)
    ]
    | inr failed ↦ failed_cause old new e failed.1
  ]
