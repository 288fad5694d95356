-- The statements on the rows of runs and of their lines: what their texts mean, what they leave or tell, and why they fail.
use Rattle.std.proofs.Common.{◌≡◌, ◌≤◌, ◌<◌, ◌^◌, ℕ, ℤ, pos, List, [], ◌∷◌, length, map, filter, codes, false, ◌&&◌}
use Rattle.std.proofs.Common.{Result, OnOk, IfOk, IfErr, nat_eq, refl, sym, subst, arith}
use Rattle.std.specs.declared.cmp.Ordering.{Ordering}
use Rattle.sqlite.specs.Listing.{understood}
use Rattle.sqlite_tied.specs.Compute.{everything}
use Rattle.sqlite_value.specs.Keys.{first_key}
use Rattle.office_tables.specs.Schema as tables
use Rattle.desk_store.proofs.Common.{AreCounted, Binary, Chosen, Command, Compare, ContainerOrder, Eq, Finds}
use Rattle.desk_store.proofs.Common.{FindsFirst, HasCause, HasNumbered, Holds, IfOk-weaker, Insert, Int, IsLive}
use Rattle.desk_store.proofs.Common.{IsPermutation, IsUnlimited, IsWelcome, Key, Means, Misses, Null, PutsRow, Ran, Row}
use Rattle.desk_store.proofs.Common.{RunLineRow, RunRow, Select, State, StoreFault, Term, Trees, Values, Version, agree}
use Rattle.desk_store.proofs.Common.{all_of, ascending, asking, both, by_two_ints, cast_int, cast_null, col, edit_of}
use Rattle.desk_store.proofs.Common.{insert_faults, insert_puts, int_cmp, last_faults, last_finds, last_of, le_refl}
use Rattle.desk_store.proofs.Common.{list_any, lit, most_runs, next_rowid, next_welcome, none_agrees, number_welcome}
use Rattle.desk_store.proofs.Common.{only, op2, ordering_then, plain, run, run_cells, run_line, run_line_cells}
use Rattle.desk_store.proofs.Common.{same_number, schema, select_faults, select_finds, told_permuted, value_rows, ⊤}

-- ---- the last run

abbrev pub last_run_text : List ℕ
last_run_text = codes "SELECT id FROM run ORDER BY id DESC LIMIT 1"

abbrev pub last_run_command : Command
last_run_command = Select (last_of run) (codes "id" ∷ [])

pub last_run_means : (v : Version) → Means v last_run_text 0 last_run_command
unfolding understood everything
last_run_means v = record { is = refl; plain = (refl, refl); whole = (le_refl _, refl, refl); unlisted = refl }

module _ (old new : State) (v : Version) (has : old.now.schema ≡ schema v) (xs : List RunRow) (stored : Holds run run_cells old xs) (counted : AreCounted (λ (x : RunRow). x.id) xs) (r : Result ℕ StoreFault) where
  pub last_run_finds : IfOk r (FindsFirst last_run_text [] old new) → IfOk r (λ n. n ≡ length xs)
  last_run_finds = last_finds (λ (x : RunRow). x.id) v run last_run_text (codes "id" ∷ []) (last_run_means v) old new has run_cells (λ _. refl) xs stored counted r

  pub last_run_faults : length xs ≤ most_runs → IsUnlimited old
      → IfErr r (Misses (λ n. Int (pos n) ∷ []) (λ n. n < 2 ^ 32) last_run_text [] old new) → IfErr r (HasCause old new)
  last_run_faults few free =
      last_faults (λ (x : RunRow). x.id) v run last_run_text (codes "id" ∷ []) (last_run_means v) old new has run_cells (λ _. refl) xs stored counted refl (omega (arith, few)) free r

-- ---- a new run

abbrev pub insert_run_text : List ℕ
insert_run_text = codes "INSERT INTO run (id, day) VALUES (?1, ?2)"

abbrev insert_run_terms : List Term
insert_run_terms = col 0 0 ∷ lit Null ∷ col 0 1 ∷ []

abbrev pub insert_run_command : Command
insert_run_command = Insert 4 (Values insert_run_terms 3)

pub insert_run_means : (v : Version) → Means v insert_run_text 2 insert_run_command
unfolding understood everything
insert_run_means v = record { is = refl; plain = (refl, refl); whole = (le_refl _, refl, refl); unlisted = refl }

run_welcome : (x : RunRow) (xs : List RunRow) (v : Version) (db : Trees) → db tables.run.tree ≡ map run_cells xs
    → list_any (λ (y : RunRow). nat_eq x.id y.id) xs ≡ false → IsWelcome (schema v) db run (run_cells x)
run_welcome x xs v db stored none = number_welcome v run run_cells (λ y. y.id) (λ _. refl) x xs db stored none refl
    (record { typed = refl; present = refl; checked = refl; referred = refl; parents = refl })

module _ (old new : State) (x : RunRow) (v : Version) (has : old.now.schema ≡ schema v) where
  abbrev run_params : Row
  run_params = Int (pos x.id) ∷ Int x.day ∷ []

  run_news : (edit_of old.now.trees run [] Chosen 0 (value_rows run_params 3 1 insert_run_terms)).news ≡ run_cells x ∷ []
  run_news = rw (cast_int (pos x.id), cast_null, cast_int x.day) refl

  pub insert_run_puts : (r : Result Unit StoreFault) → Ran insert_run_text run_params old new r
      → OnOk r (PutsRow tables.run.tree (run_cells x) old.now new.now)
  insert_run_puts = insert_puts v 4 run refl insert_run_text insert_run_terms 3 run_params (insert_run_means v) old new has (run_cells x) run_news

  pub insert_run_faults : (xs : List RunRow) → Holds run run_cells old xs
      → list_any (λ (y : RunRow). nat_eq x.id y.id) xs ≡ false → IsUnlimited old → IsLive old
      → (r : Result Unit StoreFault) → Ran insert_run_text run_params old new r → IfErr r (HasCause old new)
  insert_run_faults xs stored none =
      insert_faults v 4 run refl insert_run_text insert_run_terms 3 run_params (insert_run_means v) old new has (run_cells x) run_news refl (run_welcome x xs v old.now.trees stored none)

-- ---- a new line

abbrev pub insert_line_text : List ℕ
insert_line_text = codes "INSERT INTO run_line (run, container, order_no, ticket) VALUES (?1, ?2, ?3, ?4)"

abbrev insert_line_terms : List Term
insert_line_terms = lit Null ∷ col 0 0 ∷ col 0 1 ∷ col 0 2 ∷ col 0 3 ∷ []

abbrev pub insert_line_command : Command
insert_line_command = Insert 5 (Values insert_line_terms 5)

pub insert_line_means : (v : Version) → Means v insert_line_text 4 insert_line_command
unfolding understood everything
insert_line_means v = record { is = refl; plain = (refl, refl); whole = (le_refl _, refl, refl); unlisted = refl }

same_line : (a b : ℤ × RunLineRow)
    → agree plain (1 ∷ 2 ∷ []) (run_line_cells a) (1 ∷ 2 ∷ []) (run_line_cells b) ≡ (nat_eq b.1.run a.1.run && nat_eq b.1.container a.1.container)
unfolding first_key
same_line a b = both (same_number a.1.run b.1.run) (same_number a.1.container b.1.container)

module _ (old new : State) (l : RunLineRow) (v : Version) (has : old.now.schema ≡ schema v) where
  abbrev params : Row
  params = Int (pos l.run) ∷ Int (pos l.container) ∷ Int (pos l.order_no) ∷ Int (pos l.ticket) ∷ []

  abbrev added : ℤ × RunLineRow
  added = (next_rowid (old.now.trees tables.run_line.tree), l)

  news : (edit_of old.now.trees run_line [] Chosen 0 (value_rows params 5 1 insert_line_terms)).news ≡ run_line_cells added ∷ []
  news = rw (cast_null, cast_int (pos l.run), cast_int (pos l.container), cast_int (pos l.order_no), cast_int (pos l.ticket)) refl

  pub insert_line_puts : (r : Result Unit StoreFault) → Ran insert_line_text params old new r
      → OnOk r (PutsRow tables.run_line.tree (run_line_cells added) old.now new.now)
  insert_line_puts = insert_puts v 5 run_line refl insert_line_text insert_line_terms 5 params (insert_line_means v) old new has (run_line_cells added) news

  module _ (ls : List RunLineRow) (at : HasNumbered run_line_cells (old.now.trees tables.run_line.tree) ls) (none : list_any (λ (x : RunLineRow). nat_eq l.run x.run && nat_eq l.container x.container) ls ≡ false) where
    welcome : IsWelcome (schema v) old.now.trees run_line (run_line_cells added)
    welcome =
        let apart : list_any (λ r. agree plain (1 ∷ 2 ∷ []) r (1 ∷ 2 ∷ []) (run_line_cells added)) (old.now.trees run_line.tree) ≡ false =
        none_agrees run_line_cells (old.now.trees run_line.tree) ls at (1 ∷ 2 ∷ []) (run_line_cells added) (λ (x : RunLineRow). nat_eq l.run x.run && nat_eq l.container x.container) (λ x. same_line x added) none in
        next_welcome v run_line run_line_cells (λ (l : RunLineRow). Int (pos l.run) ∷ Int (pos l.container) ∷ Int (pos l.order_no) ∷ Int (pos l.ticket) ∷ []) (λ _. refl) l ls old.now.trees at (rw apart refl)
        (record { typed = refl; present = refl; checked = refl; referred = refl; parents = refl })

    pub insert_line_faults : IsUnlimited old → IsLive old → (r : Result Unit StoreFault)
        → Ran insert_line_text params old new r → IfErr r (HasCause old new)
    insert_line_faults = insert_faults v 5 run_line refl insert_line_text insert_line_terms 5 params (insert_line_means v) old new has (run_line_cells added) news refl welcome

-- ---- the lines of a run

abbrev pub lines_with_text : List ℕ
lines_with_text = codes "SELECT container, order_no, ticket FROM run_line WHERE run = ?1 ORDER BY run, container"

abbrev of_run : List Term
of_run = op2 (Compare Eq Binary) (col 1 1) (col 0 0) ∷ []

abbrev line_columns : List Term
line_columns = col 1 2 ∷ col 1 3 ∷ col 1 4 ∷ []

abbrev line_names : List (List ℕ)
line_names = codes "container" ∷ codes "order_no" ∷ codes "ticket" ∷ []

abbrev in_order : List (Term × Key)
in_order = (col 1 1, ascending Binary) ∷ (col 1 2, ascending Binary) ∷ []

abbrev pub lines_with_command : Command
lines_with_command = Select (asking run_line of_run line_columns in_order) line_names

pub lines_with_means : (v : Version) → Means v lines_with_text 1 lines_with_command
unfolding understood everything
lines_with_means v = record { is = refl; plain = (refl, refl); whole = (le_refl _, refl, refl); unlisted = refl }

abbrev pub taken_line : RunLineRow → ContainerOrder
taken_line l = record { container = l.container; order = l.order_no; ticket = l.ticket }

abbrev pub taken_cells : ContainerOrder → Row
taken_cells l = Int (pos l.container) ∷ Int (pos l.order) ∷ Int (pos l.ticket) ∷ []

abbrev by_run : ℤ × RunLineRow → ℤ × RunLineRow → Ordering
by_run a b = ordering_then (int_cmp (pos a.1.run) (pos b.1.run)) (int_cmp (pos a.1.container) (pos b.1.container))

module _ (old new : State) (n : ℕ) (v : Version) (has : old.now.schema ≡ schema v) (ls : List RunLineRow) (at : HasNumbered run_line_cells (old.now.trees tables.run_line.tree) ls) {X : Type 0} (items : X → List ContainerOrder) (r : Result X StoreFault) where
  pub lines_with_finds : IfOk r (λ found. Finds taken_cells lines_with_text (Int (pos n) ∷ []) old new (items found))
      → IfOk r (λ found. IsPermutation (map taken_line (filter (λ (l : RunLineRow). nat_eq n l.run) ls)) (items found))
  lines_with_finds found =
      IfOk-weaker r _ _ (λ all it. subst (IsPermutation (map taken_line (filter (λ (l : RunLineRow). nat_eq n l.run) ls))) (sym it.2)
      (told_permuted run_line_cells taken_line (old.now.trees tables.run_line.tree) ls at (λ (l : RunLineRow). nat_eq n l.run) it.0 it.1.0))
      (select_finds v run_line lines_with_text of_run line_columns in_order line_names (Int (pos n) ∷ []) (lines_with_means v) old new has run_line_cells at.numbered at.are
      (λ (x : ℤ × RunLineRow). nat_eq n x.1.run) (λ x. only (same_number x.1.run n)) (λ x. taken_cells (taken_line x.1)) (λ (x : ℤ × RunLineRow). Int (pos x.1.run) ∷ Int (pos x.1.container) ∷ []) (λ _. refl)
      by_run (λ _. refl) (λ a b. by_two_ints (pos a.1.run) (pos b.1.run) (pos a.1.container) (pos b.1.container)) taken_cells items (λ (x : ℤ × RunLineRow). taken_line x.1) (λ _. refl) r found)

  pub lines_with_faults : IsUnlimited old
      → IfErr r (Misses taken_cells (λ _. ⊤) lines_with_text (Int (pos n) ∷ []) old new) → IfErr r (HasCause old new)
  lines_with_faults free =
      select_faults v run_line lines_with_text of_run line_columns in_order line_names (Int (pos n) ∷ []) (lines_with_means v) old new has run_line_cells at.numbered at.are
      (λ (x : ℤ × RunLineRow). nat_eq n x.1.run) (λ x. only (same_number x.1.run n)) (λ x. taken_cells (taken_line x.1)) (λ (x : ℤ × RunLineRow). Int (pos x.1.run) ∷ Int (pos x.1.container) ∷ []) (λ _. refl)
      by_run (λ _. refl) (λ a b. by_two_ints (pos a.1.run) (pos b.1.run) (pos a.1.container) (pos b.1.container)) taken_cells items (λ (x : ℤ × RunLineRow). taken_line x.1) (λ _. refl) (λ _. ⊤) refl free (all_of (λ _. ⊤) (λ _. tt) at.numbered) r
