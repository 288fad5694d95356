-- The statements on the orders that wait: what their texts mean, what they tell, and why they fail.
use Rattle.std.proofs.Common.{◌≡◌, ◌≤◌, ◌<◌, ◌^◌, ℕ, pos, List, [], ◌∷◌, length, map, filter, take, codes, true, false}
use Rattle.std.proofs.Common.{Bool, cond, ◌||◌, Result, IfOk, IfErr, refl, sym, ap, ◌∙◌, arith}
use Rattle.std.proofs.lemmas.List.Sums.{length-filter}
use Rattle.sqlite.proofs.Callers.{reads_as}
use Rattle.sqlite.specs.Listing.{understood}
use Rattle.sqlite.specs.Query.{inner, end}
use Rattle.sqlite_schema.specs.declared.program.Program.{Program}
use Rattle.sqlite_tied.specs.Compute.{everything}
use Rattle.office_tables.proofs.Limits.{limited_query, first_answers}
use Rattle.office_tables.proofs.RowReads.{all_caused}
use Rattle.office_tables.proofs.statements.CountOf.{counting, count_finds, count_faults}
use Rattle.desk_store.specs.declared.orders.WaitingOrder.{WaitingOrder}
use Rattle.desk_store.proofs.Common.{Binary, Command, Compare, Eq, Finds, FindsFirst, HasCause, Holds, IfOk-weaker, Int}
use Rattle.desk_store.proofs.Common.{IsOrdered, IsUnlimited, Means, Misses, Null, OrderRow, Row, Select, Shown, State}
use Rattle.desk_store.proofs.Common.{StoreFault, Term, Version, all_of, asking, both, by_one_int, col, count_by}
use Rattle.desk_store.proofs.Common.{le_refl, list_any, lit, lt-ltb, map-map, most_orders, nat_lt, none_refuse, op2}
use Rattle.desk_store.proofs.Common.{order_cells, orders, read_cause, same_number, schema, select_faults, select_finds}
use Rattle.desk_store.proofs.Common.{slice_get, sums_nothing, waits_for, ⊤}
use Rattle.desk_store.proofs.CardRows.{by_order, in_order}

-- it waits, and for this container
abbrev for_the_container : List Term
for_the_container = op2 (Compare Eq Binary) (col 1 5) (lit (Int (pos 1))) ∷ op2 (Compare Eq Binary) (col 1 3) (col 0 0) ∷ []

-- ---- those that wait for a container

abbrev pub waiting_of : OrderRow → WaitingOrder
waiting_of o = record { order = o.id; ticket = o.ticket }

abbrev pub waiting_cells : WaitingOrder → Row
waiting_cells o = Int (pos o.order) ∷ Int (pos o.ticket) ∷ []

abbrev waiting_columns : List Term
waiting_columns = col 1 0 ∷ col 1 2 ∷ []

abbrev waiting_names : List (List ℕ)
waiting_names = codes "id" ∷ codes "ticket" ∷ []

abbrev pub waiting_text : List ℕ
waiting_text = codes "SELECT id, ticket FROM orders WHERE state = 1 AND container = ?1 ORDER BY id"

abbrev pub waiting_command : Command
waiting_command = Select (asking orders for_the_container waiting_columns in_order) waiting_names

pub waiting_means : (v : Version) → Means v waiting_text 1 waiting_command
unfolding understood everything
waiting_means v = record { is = refl; plain = (refl, refl); whole = (le_refl _, refl, refl); unlisted = refl }

module _ (old new : State) (c : ℕ) (v : Version) (has : old.now.schema ≡ schema v) (xs : List OrderRow) (stored : Holds orders order_cells old xs) {X : Type 0} (items : X → List WaitingOrder) (r : Result X StoreFault) where
  pub waiting_finds : IfOk r (λ found. Finds waiting_cells waiting_text (Int (pos c) ∷ []) old new (items found))
      → IfOk r (λ found. (ys : List OrderRow) × IsOrdered by_order (filter (waits_for c) xs) ys × (items found ≡ map waiting_of ys))
  waiting_finds =
      select_finds v orders waiting_text for_the_container waiting_columns in_order waiting_names (Int (pos c) ∷ []) (waiting_means v) old new has order_cells xs stored
      (waits_for c) (λ o. both (same_number o.state 1) (same_number o.container c)) (λ o. waiting_cells (waiting_of o)) (λ (o : OrderRow). Int (pos o.id) ∷ []) (λ _. refl) by_order (λ _. refl) (λ a b. by_one_int (pos a.id) (pos b.id))
      waiting_cells items waiting_of (λ _. refl) r

  pub waiting_faults : IsUnlimited old → IfErr r (Misses waiting_cells (λ _. ⊤) waiting_text (Int (pos c) ∷ []) old new)
      → IfErr r (HasCause old new)
  waiting_faults free =
      select_faults v orders waiting_text for_the_container waiting_columns in_order waiting_names (Int (pos c) ∷ []) (waiting_means v) old new has order_cells xs stored
      (waits_for c) (λ o. both (same_number o.state 1) (same_number o.container c)) (λ o. waiting_cells (waiting_of o)) (λ (o : OrderRow). Int (pos o.id) ∷ []) (λ _. refl) by_order (λ _. refl) (λ a b. by_one_int (pos a.id) (pos b.id))
      waiting_cells items waiting_of (λ _. refl) (λ _. ⊤) refl free (all_of (λ _. ⊤) (λ _. tt) xs) r

-- ---- the first that waits for a container

abbrev pub first_text : List ℕ
first_text = codes "SELECT id, ticket FROM orders WHERE state = 1 AND container = ?1 ORDER BY id LIMIT 1"

abbrev first_program : Program
first_program = record { lets = []; body = limited_query (inner orders.tree end) for_the_container waiting_columns in_order 1 }

abbrev pub first_command : Command
first_command = Select first_program waiting_names

pub first_means : (v : Version) → Means v first_text 1 first_command
unfolding understood everything
first_means v = record { is = refl; plain = (refl, refl); whole = (le_refl _, refl, refl); unlisted = refl }

module _ (old new : State) (c : ℕ) (v : Version) (has : old.now.schema ≡ schema v) (xs : List OrderRow) (stored : Holds orders order_cells old xs) {X : Type 0} (items : X → List WaitingOrder) (r : Result X StoreFault) where
  first_rows : (rows : List Row) → Shown first_text (Int (pos c) ∷ []) old new rows
      → (ys : List OrderRow) × IsOrdered by_order (filter (waits_for c) xs) ys × (rows ≡ map waiting_cells (map waiting_of (take 1 ys)))
  first_rows rows shown =
      let means = first_means v in
      let read = reads_as first_text (Int (pos c) ∷ []) old new (schema v) has first_command means.is means.plain means.unlisted rows shown in
      let got = first_answers orders.tree for_the_container waiting_columns in_order old.now.trees (Int (pos c) ∷ [])
      order_cells xs (waits_for c) (λ o. waiting_cells (waiting_of o)) (λ (o : OrderRow). Int (pos o.id) ∷ []) by_order
      stored (λ o. both (same_number o.state 1) (same_number o.container c)) (λ _. refl) (λ _. refl) (λ a b. by_one_int (pos a.id) (pos b.id)) 1 rows (read.answer Null) in
      (got.0, (got.1, got.2), got.3 ∙ sym (map-map waiting_cells waiting_of (take 1 got.0)))

  pub first_finds : IfOk r (λ found. Finds waiting_cells first_text (Int (pos c) ∷ []) old new (items found))
      → IfOk r (λ found. (ys : List OrderRow) × IsOrdered by_order (filter (waits_for c) xs) ys × (items found ≡ map waiting_of (take 1 ys)))
  first_finds found = IfOk-weaker r _ _ (λ all it. let got = first_rows it.rows it.shown in (got.0, got.1, it.are (map waiting_of (take 1 got.0)) got.2)) found

  pub first_faults : IsUnlimited old → IfErr r (Misses waiting_cells (λ _. ⊤) first_text (Int (pos c) ∷ []) old new)
      → IfErr r (HasCause old new)
  first_faults free missed =
      let means = first_means v in
      all_caused waiting_cells (λ _. ⊤) first_text (Int (pos c) ∷ []) old new r missed
      (read_cause first_text (Int (pos c) ∷ []) old new (schema v) has first_program waiting_names means.is means.plain means.whole means.unlisted
      (λ db e refused. none_refuse refused (λ t. let clash : true ≡ false = t in cc) (sums_nothing _)) free)
      (λ rows shown. let got = first_rows rows shown in (map waiting_of (take 1 got.0), got.2, all_of (λ (_ : WaitingOrder). ⊤) (λ _. tt) _))

pub first_taken : {A : Type 0} (xs : List A) → slice_get (take 1 xs) 0 ≡ slice_get xs 0
first_taken [] = refl
first_taken (x ∷ xs) = refl

-- ---- how many wait for a container

abbrev pub count_text : List ℕ
count_text = codes "SELECT count(*) FROM orders WHERE state = 1 AND container = ?1"

abbrev pub count_command : Command
count_command = Select (counting orders for_the_container) (codes "count(*)" ∷ [])

pub count_means : (v : Version) → Means v count_text 1 count_command
unfolding understood everything
count_means v = record { is = refl; plain = (refl, refl); whole = (le_refl _, refl, refl); unlisted = refl }

module _ (old new : State) (v : Version) (has : old.now.schema ≡ schema v) (c : ℕ) (xs : List OrderRow) (stored : Holds orders order_cells old xs) (few : length xs ≤ most_orders) (r : Result ℕ StoreFault) where
  pub waiting_count_finds : IfOk r (FindsFirst count_text (Int (pos c) ∷ []) old new)
      → IfOk r (λ n. n ≡ count_by (waits_for c) xs)
  waiting_count_finds =
      count_finds v orders count_text for_the_container (codes "count(*)" ∷ []) (Int (pos c) ∷ []) (count_means v) old new has order_cells xs stored
      (waits_for c) (λ o. both (same_number o.state 1) (same_number o.container c)) (omega (arith, few)) r

  pub waiting_count_faults : IsUnlimited old
      → IfErr r (Misses (λ n. Int (pos n) ∷ []) (λ n. n < 2 ^ 32) count_text (Int (pos c) ∷ []) old new)
      → IfErr r (HasCause old new)
  waiting_count_faults free =
      count_faults v orders count_text for_the_container (codes "count(*)" ∷ []) (Int (pos c) ∷ []) (count_means v) old new has order_cells xs stored
      (waits_for c) (λ o. both (same_number o.state 1) (same_number o.container c)) (omega (arith, few)) refl free r

-- some are there where there is more than none
any_kept : {A : Type 0} (p : A → Bool) (xs : List A) → nat_lt 0 (length (filter p xs)) ≡ list_any p xs
any_kept p [] = refl
any_kept p (x ∷ xs) = elim (p x) as (λ b. nat_lt 0 (length (cond b (x ∷ filter p xs) (filter p xs))) ≡ (b || list_any p xs)) [ true ↦ lt-ltb 0 (length (x ∷ filter p xs)) (omega arith) | false ↦ any_kept p xs ]

pub any_counted : {A : Type 0} (p : A → Bool) (xs : List A) → nat_lt 0 (count_by p xs) ≡ list_any p xs
any_counted p xs = ap (nat_lt 0) (sym (length-filter p xs)) ∙ any_kept p xs
