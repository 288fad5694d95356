-- The statements that write the row of a unit: what their texts mean, what they leave, and why they fail.
use Rattle.std.proofs.Common.{◌≡◌, ℕ, zero, suc, ℤ, pos, List, [], ◌∷◌, map, drop, codes, Bool, true, false}
use Rattle.std.proofs.Common.{if◌then◌else◌, ltb, Option, Some, None, Result, OnOk, IfErr, nat_eq, refl, sym, ap, ◌∙◌}
use Rattle.std.proofs.Common.{arith}
use Rattle.sqlite.specs.Listing.{understood}
use Rattle.sqlite.specs.Source.TheVariants.{Values}
use Rattle.sqlite.specs.declared.types.Value.{Value}
use Rattle.sqlite_rules.specs.Steps.{is_typed}
use Rattle.sqlite_schema.specs.Names.{same_name}
use Rattle.sqlite_tied.specs.Compute.{everything}
use Rattle.sqlite_value.specs.Keys.{joined, first_key}
use Rattle.isad_core.specs.declared.values.Values.{«Values» as Description}
use Rattle.catalogue_core.specs.Units.{Unit as Described}
use Rattle.office_tables.proofs.UpdateCauses.{KeepsTable}
use Rattle.office_tables.specs.Flags.{flag}
use Rattle.office_tables.specs.Schema as tables
use Rattle.catalogue_statements.proofs.Common.{Binary, Chosen, Command, Compare, Eq, First, HasCause, HasRows, Holds}
use Rattle.catalogue_statements.proofs.Common.{Insert, Int, IsLive, IsUnlimited, IsWelcome, Means, Null, OnlyTouches}
use Rattle.catalogue_statements.proofs.Common.{PutsRow, Ran, Rises, Row, Second, State, StoreFault, Term, Text, Trees}
use Rattle.catalogue_statements.proofs.Common.{Update, Version, accepts_program, agree, any_mapped, both, by_number}
use Rattle.catalogue_statements.proofs.Common.{cast_int, cast_maybe, cast_null, cast_row, cells_of_unit, choosing, col}
use Rattle.catalogue_statements.proofs.Common.{column, edit_of, end, eval_all, has_id, id_in, inner, insert_faults}
use Rattle.catalogue_statements.proofs.Common.{insert_puts, is_from, le_refl, list_any, lit, ltb-true, number_welcome}
use Rattle.catalogue_statements.proofs.Common.{only, op2, or_null, plain, plain_query, same_bytes, same_number, schema}
use Rattle.catalogue_statements.proofs.Common.{unit, update_faults, update_leaves, update_only, value_rows}

-- ---- a new unit

abbrev pub insert_unit_text : List ℕ
insert_unit_text = codes "INSERT INTO unit (id, source, legacy, level, draft, until) VALUES (?1, ?2, ?3, ?4, ?5, NULL)"

abbrev pub insert_unit_terms : List Term
insert_unit_terms = col 0 0 ∷ lit Null ∷ col 0 1 ∷ col 0 2 ∷ col 0 3 ∷ lit Null ∷ col 0 4 ∷ []

abbrev pub insert_unit_command : Command
insert_unit_command = Insert 8 (Values insert_unit_terms 7)

pub insert_unit_means : (v : Version) → Means v insert_unit_text 5 insert_unit_command
unfolding understood everything
insert_unit_means v = record { is = refl; plain = (refl, refl); whole = (le_refl _, refl, refl); unlisted = refl }

same_origin : (a b : Described)
    → agree plain (2 ∷ 3 ∷ []) (cells_of_unit a) (2 ∷ 3 ∷ []) (cells_of_unit b) ≡ is_from b.source b.legacy a
unfolding first_key
same_origin a b = both (same_bytes a.source b.source) (same_bytes a.legacy b.legacy)

unit_welcome : (u : Described) (xs : List Described) (v : Version) (db : Trees) → u.until ≡ None
    → db tables.unit.tree ≡ map cells_of_unit xs → list_any (has_id u.id) xs ≡ false
    → list_any (is_from u.source u.legacy) xs ≡ false
    → IsWelcome (schema v) db unit (cells_of_unit u)
unit_welcome u xs v db none_until stored none other =
    let apart : list_any (λ r. agree plain (2 ∷ 3 ∷ []) r (2 ∷ 3 ∷ []) (cells_of_unit u)) (db tables.unit.tree) ≡ false =
    ap (list_any (λ r. agree plain (2 ∷ 3 ∷ []) r (2 ∷ 3 ∷ []) (cells_of_unit u))) stored ∙ any_mapped cells_of_unit _ (is_from u.source u.legacy) (λ a. same_origin a u) xs ∙ other in
    number_welcome v unit cells_of_unit (λ x. x.id) (λ _. refl) u xs db stored none (rw apart refl) (record { typed = rw none_until refl; present = refl; checked = refl; referred = refl; parents = refl })

module _ (old new : State) (u : Described) (none_until : u.until ≡ None) (v : Version) (has : old.now.schema ≡ schema v) where
  abbrev params : Row
  params = Int (pos u.id) ∷ Text u.source ∷ Text u.legacy ∷ Text u.values.level ∷ Int (flag u.draft) ∷ []

  news : (edit_of old.now.trees unit [] Chosen 0 (value_rows params 7 1 insert_unit_terms)).news ≡ cells_of_unit u ∷ []
  news = rw (none_until, cast_int (pos u.id), cast_null, cast_int (flag u.draft)) refl

  pub insert_unit_puts : (r : Result Unit StoreFault) → Ran insert_unit_text params old new r
      → OnOk r (PutsRow tables.unit.tree (cells_of_unit u) old.now new.now)
  insert_unit_puts = insert_puts v 8 unit refl insert_unit_text insert_unit_terms 7 params (insert_unit_means v) old new has (cells_of_unit u) news

  pub insert_unit_faults : (xs : List Described) → Holds unit cells_of_unit old xs → list_any (has_id u.id) xs ≡ false
      → list_any (is_from u.source u.legacy) xs ≡ false → IsUnlimited old → IsLive old
      → (r : Result Unit StoreFault) → Ran insert_unit_text params old new r → IfErr r (HasCause old new)
  insert_unit_faults xs stored none other =
      insert_faults v 8 unit refl insert_unit_text insert_unit_terms 7 params (insert_unit_means v) old new has (cells_of_unit u) news refl (unit_welcome u xs v old.now.trees none_until stored none other)

-- ---- a unit that is changed

-- the number, the source and the number there
abbrev kept_of_unit : ℕ → Bool
kept_of_unit p = ltb p 4

unit_kept : (v : Version) → KeepsTable kept_of_unit (schema v) 8 unit
unfolding joined same_name
unit_kept First = record { listed = refl; apart = refl; spared = refl; fits = refl }
unit_kept Second = record { listed = refl; apart = refl; spared = refl; fits = refl }

unit_alike : (a b : Described) → a.id ≡ b.id → a.source ≡ b.source → a.legacy ≡ b.legacy → (p : ℕ) → ltb p 4 ≡ true
    → column (cells_of_unit a) p ≡ column (cells_of_unit b) p
unit_alike a b id source legacy zero h = ap (λ n. Int (pos n)) id
unit_alike a b id source legacy (suc zero) h = refl
unit_alike a b id source legacy (suc (suc zero)) h = ap Text source
unit_alike a b id source legacy (suc (suc (suc zero))) h = ap Text legacy
unit_alike a b id source legacy (suc (suc (suc (suc p)))) h = absurd (omega (arith, ltb-true _ _ h))

unit_typed : (u : Described) → is_typed unit (cells_of_unit u) ≡ true
unit_typed u = by_closure u.until
  where
    by_closure : (until : Option ℤ)
        → is_typed unit (Int (pos u.id) ∷ Null ∷ Text u.source ∷ Text u.legacy ∷ Text u.values.level ∷ or_null Int until ∷ Int (flag u.draft) ∷ []) ≡ true
    by_closure None = refl
    by_closure (Some n) = refl

abbrev pub with_its_number : List Term
with_its_number = op2 (Compare Eq Binary) (col 1 0) (col 0 0) ∷ []

-- an UPDATE of the unit with this number, of other columns than those of its keys
module _ (old new : State) (id : ℕ) (v : Version) (has : old.now.schema ≡ schema v) (sql : List ℕ) (project : List Term) (value : Value) (means : Means v sql 2 (Update 8 (choosing unit with_its_number project)))
    (source : Described → Row) (represents : (x : Described) → eval_all project ((Int (pos id) ∷ value ∷ []) ∷ cells_of_unit x ∷ []) ≡ source x) (numbered : (x : Described) → column (source x) 0 ≡ Int (pos x.id))
    (changed : Described → Described) (same_id : (x : Described) → (changed x).id ≡ x.id) (same_source : (x : Described) → (changed x).source ≡ x.source) (same_legacy : (x : Described) → (changed x).legacy ≡ x.legacy)
    (casts : (x : Described) → cast_row unit (drop 1 (source x)) ≡ cells_of_unit (changed x)) (xs : List Described) (stored : Holds unit cells_of_unit old xs) (up : Rises by_number xs)
    (r : Result Unit StoreFault) (ran : Ran sql (Int (pos id) ∷ value ∷ []) old new r) where
  set_leaves : OnOk r (HasRows tables.unit.tree (map cells_of_unit (map (λ (x : Described). if nat_eq id x.id then changed x else x) xs)) old.now new.now)
  set_leaves =
      update_leaves v 8 unit refl sql with_its_number project (Int (pos id) ∷ value ∷ []) means old new has cells_of_unit (λ x. pos x.id) (λ _. refl) xs stored up
      (λ x. nat_eq id x.id) (λ u. only (same_number u.id id)) source represents (λ x. ap id_in (numbered x)) changed (λ x. ap pos (same_id x)) (λ x _ _. casts x) r ran

  set_faults : accepts_program (schema v) [] (plain_query (inner tables.unit.tree end) with_its_number project []) (Int (pos id) ∷ value ∷ []) ≡ true
      → IsUnlimited old → IsLive old → IfErr r (HasCause old new)
  set_faults accepted free live =
      update_faults v 8 unit refl sql with_its_number project (Int (pos id) ∷ value ∷ []) means old new has cells_of_unit (λ x. pos x.id) (λ _. refl) xs stored up
      (λ x. nat_eq id x.id) (λ u. only (same_number u.id id)) source represents (λ x. ap id_in (numbered x)) changed (λ x. ap pos (same_id x)) (λ x _ _. casts x)
      kept_of_unit (unit_kept v) (λ x. unit_alike x (changed x) (sym (same_id x)) (sym (same_source x)) (sym (same_legacy x)))
      (λ x. unit_typed (changed x)) (λ _. refl) (λ _. refl) accepted free live r ran

-- ---- its level

abbrev pub set_level_text : List ℕ
set_level_text = codes "UPDATE unit SET level = ?2 WHERE id = ?1"

abbrev set_level_columns : List Term
set_level_columns = col 1 0 ∷ col 1 0 ∷ lit Null ∷ col 1 2 ∷ col 1 3 ∷ col 0 1 ∷ col 1 5 ∷ col 1 6 ∷ []

abbrev pub set_level_command : Command
set_level_command = Update 8 (choosing unit with_its_number set_level_columns)

pub set_level_means : (v : Version) → Means v set_level_text 2 set_level_command
unfolding understood everything
set_level_means v = record { is = refl; plain = (refl, refl); whole = (le_refl _, refl, refl); unlisted = refl }

module _ (old new : State) (id : ℕ) (values : Description) (v : Version) (has : old.now.schema ≡ schema v) (xs : List Described) (stored : Holds unit cells_of_unit old xs) (up : Rises by_number xs)
    (r : Result Unit StoreFault) (ran : Ran set_level_text (Int (pos id) ∷ Text values.level ∷ []) old new r) where
  abbrev source_of_level : Described → Row
  source_of_level x = Int (pos x.id) ∷ Int (pos x.id) ∷ Null ∷ Text x.source ∷ Text x.legacy ∷ Text values.level ∷ or_null Int x.until ∷ Int (flag x.draft) ∷ []

  pub set_level_leaves : OnOk r (HasRows tables.unit.tree (map cells_of_unit (map (λ (x : Described). if nat_eq id x.id then record x { values = values } else x) xs)) old.now new.now)
  set_level_leaves =
      set_leaves old new id v has set_level_text set_level_columns (Text values.level) (set_level_means v) source_of_level (λ _. refl) (λ _. refl) (λ (x : Described). record x { values = values }) (λ _. refl) (λ _. refl) (λ _. refl)
      (λ x. rw (cast_int (pos x.id), cast_null, cast_int (flag x.draft), cast_maybe x.until) refl) xs stored up r ran

  pub set_level_faults : IsUnlimited old → IsLive old → IfErr r (HasCause old new)
  set_level_faults =
      set_faults old new id v has set_level_text set_level_columns (Text values.level) (set_level_means v) source_of_level (λ _. refl) (λ _. refl) (λ (x : Described). record x { values = values }) (λ _. refl) (λ _. refl) (λ _. refl)
      (λ x. rw (cast_int (pos x.id), cast_null, cast_int (flag x.draft), cast_maybe x.until) refl) xs stored up r ran refl

-- ---- its status

abbrev pub set_draft_text : List ℕ
set_draft_text = codes "UPDATE unit SET draft = ?2 WHERE id = ?1"

abbrev set_draft_columns : List Term
set_draft_columns = col 1 0 ∷ col 1 0 ∷ lit Null ∷ col 1 2 ∷ col 1 3 ∷ col 1 4 ∷ col 1 5 ∷ col 0 1 ∷ []

abbrev pub set_draft_command : Command
set_draft_command = Update 8 (choosing unit with_its_number set_draft_columns)

pub set_draft_means : (v : Version) → Means v set_draft_text 2 set_draft_command
unfolding understood everything
set_draft_means v = record { is = refl; plain = (refl, refl); whole = (le_refl _, refl, refl); unlisted = refl }

module _ (old new : State) (id : ℕ) (draft : Bool) (v : Version) (has : old.now.schema ≡ schema v) (xs : List Described) (stored : Holds unit cells_of_unit old xs) (up : Rises by_number xs)
    (r : Result Unit StoreFault) (ran : Ran set_draft_text (Int (pos id) ∷ Int (flag draft) ∷ []) old new r) where
  abbrev source_of_draft : Described → Row
  source_of_draft x = Int (pos x.id) ∷ Int (pos x.id) ∷ Null ∷ Text x.source ∷ Text x.legacy ∷ Text x.values.level ∷ or_null Int x.until ∷ Int (flag draft) ∷ []

  pub set_draft_leaves : OnOk r (HasRows tables.unit.tree (map cells_of_unit (map (λ (x : Described). if nat_eq id x.id then record x { draft = draft } else x) xs)) old.now new.now)
  set_draft_leaves =
      set_leaves old new id v has set_draft_text set_draft_columns (Int (flag draft)) (set_draft_means v) source_of_draft (λ _. refl) (λ _. refl) (λ (x : Described). record x { draft = draft }) (λ _. refl) (λ _. refl) (λ _. refl)
      (λ x. rw (cast_int (pos x.id), cast_null, cast_int (flag draft), cast_maybe x.until) refl) xs stored up r ran

  pub set_draft_faults : IsUnlimited old → IsLive old → IfErr r (HasCause old new)
  set_draft_faults =
      set_faults old new id v has set_draft_text set_draft_columns (Int (flag draft)) (set_draft_means v) source_of_draft (λ _. refl) (λ _. refl) (λ (x : Described). record x { draft = draft }) (λ _. refl) (λ _. refl) (λ _. refl)
      (λ x. rw (cast_int (pos x.id), cast_null, cast_int (flag draft), cast_maybe x.until) refl) xs stored up r ran refl

-- ---- its closure

abbrev pub set_until_text : List ℕ
set_until_text = codes "UPDATE unit SET until = ?2 WHERE id = ?1"

abbrev set_until_columns : List Term
set_until_columns = col 1 0 ∷ col 1 0 ∷ lit Null ∷ col 1 2 ∷ col 1 3 ∷ col 1 4 ∷ col 0 1 ∷ col 1 6 ∷ []

abbrev pub set_until_command : Command
set_until_command = Update 8 (choosing unit with_its_number set_until_columns)

pub set_until_means : (v : Version) → Means v set_until_text 2 set_until_command
unfolding understood everything
set_until_means v = record { is = refl; plain = (refl, refl); whole = (le_refl _, refl, refl); unlisted = refl }

until_accepted : (v : Version) (id : ℕ) (until : Option ℤ)
    → accepts_program (schema v) [] (plain_query (inner tables.unit.tree end) with_its_number set_until_columns []) (Int (pos id) ∷ or_null Int until ∷ []) ≡ true
until_accepted First id None = refl
until_accepted First id (Some n) = refl
until_accepted Second id None = refl
until_accepted Second id (Some n) = refl

module _ (old new : State) (id : ℕ) (until : Option ℤ) (v : Version) (has : old.now.schema ≡ schema v) (xs : List Described) (stored : Holds unit cells_of_unit old xs) (up : Rises by_number xs)
    (r : Result Unit StoreFault) (ran : Ran set_until_text (Int (pos id) ∷ or_null Int until ∷ []) old new r) where
  abbrev source_of_until : Described → Row
  source_of_until x = Int (pos x.id) ∷ Int (pos x.id) ∷ Null ∷ Text x.source ∷ Text x.legacy ∷ Text x.values.level ∷ or_null Int until ∷ Int (flag x.draft) ∷ []

  pub set_until_leaves : OnOk r (HasRows tables.unit.tree (map cells_of_unit (map (λ (x : Described). if nat_eq id x.id then record x { until = until } else x) xs)) old.now new.now)
  set_until_leaves =
      set_leaves old new id v has set_until_text set_until_columns (or_null Int until) (set_until_means v) source_of_until (λ _. refl) (λ _. refl) (λ (x : Described). record x { until = until }) (λ _. refl) (λ _. refl) (λ _. refl)
      (λ x. rw (cast_int (pos x.id), cast_null, cast_int (flag x.draft), cast_maybe until) refl) xs stored up r ran

  pub set_until_faults : IsUnlimited old → IsLive old → IfErr r (HasCause old new)
  set_until_faults =
      set_faults old new id v has set_until_text set_until_columns (or_null Int until) (set_until_means v) source_of_until (λ _. refl) (λ _. refl) (λ (x : Described). record x { until = until }) (λ _. refl) (λ _. refl) (λ _. refl)
      (λ x. rw (cast_int (pos x.id), cast_null, cast_int (flag x.draft), cast_maybe until) refl) xs stored up r ran (until_accepted v id until)

-- ---- no other table is touched, whatever units there are

module _ (old new : State) (id : ℕ) (v : Version) (has : old.now.schema ≡ schema v) (r : Result Unit StoreFault) where
  pub set_level_only : (values : Description) → Ran set_level_text (Int (pos id) ∷ Text values.level ∷ []) old new r
      → OnOk r (OnlyTouches (unit.tree ∷ []) old.now new.now)
  set_level_only values ran =
      update_only v 8 unit refl set_level_text _ (Int (pos id) ∷ Text values.level ∷ []) old new has (set_level_means v) r ran

  pub set_draft_only : (draft : Bool) → Ran set_draft_text (Int (pos id) ∷ Int (flag draft) ∷ []) old new r
      → OnOk r (OnlyTouches (unit.tree ∷ []) old.now new.now)
  set_draft_only draft ran =
      update_only v 8 unit refl set_draft_text _ (Int (pos id) ∷ Int (flag draft) ∷ []) old new has (set_draft_means v) r ran

  pub set_until_only : (until : Option ℤ) → Ran set_until_text (Int (pos id) ∷ or_null Int until ∷ []) old new r
      → OnOk r (OnlyTouches (unit.tree ∷ []) old.now new.now)
  set_until_only until ran =
      update_only v 8 unit refl set_until_text _ (Int (pos id) ∷ or_null Int until ∷ []) old new has (set_until_means v) r ran
