-- The statements that tell which containers are out, and with whom: what their texts mean, what they tell, and why they fail.
use Rattle.std.proofs.Common.{◌≡◌, ℕ, pos, List, [], ◌∷◌, map, filter, codes, true, nat_eq, Result, IfOk, IfErr, refl}
use Rattle.std.specs.declared.cmp.Ordering.{Ordering}
use Rattle.sqlite.specs.Listing.{understood}
use Rattle.sqlite_tied.specs.Compute.{everything}
use Rattle.desk_store.proofs.Common.{Binary, Command, Compare, Eq, Finds, HasCause, HoldingLine, HoldingRow, Holds, Int}
use Rattle.desk_store.proofs.Common.{IsOrdered, IsTotalOrder, IsUnlimited, Key, Means, Misses, OrderRow, Row, Select}
use Rattle.desk_store.proofs.Common.{State, StoreFault, Term, Version, all_of, ascending, asking, by_one_int, col}
use Rattle.desk_store.proofs.Common.{holding, holding_cells, int_cmp, int_cmp_total, le_refl, line_of, on_total, only}
use Rattle.desk_store.proofs.Common.{op2, option_map, or_null, order_cells, orders, same_number, schema, select_faults}
use Rattle.desk_store.proofs.Common.{select_finds, ⊤}
use Rattle.desk_store.proofs.CardRows.{by_order}

abbrev in_order : List (Term × Key)
in_order = (col 1 0, ascending Binary) ∷ []

-- ---- the containers that are not on the shelf

abbrev pub by_container : HoldingRow → HoldingRow → Ordering
by_container a b = int_cmp (pos a.container) (pos b.container)

pub by_container_total : IsTotalOrder by_container
by_container_total = on_total (λ (h : HoldingRow). pos h.container) int_cmp_total

abbrev pub line_cells : HoldingLine → Row
line_cells h = Int (pos h.container) ∷ or_null Int (option_map pos h.held_by) ∷ []

abbrev line_columns : List Term
line_columns = col 1 0 ∷ col 1 2 ∷ []

abbrev line_names : List (List ℕ)
line_names = codes "container" ∷ codes "held_by" ∷ []

abbrev pub lines_text : List ℕ
lines_text = codes "SELECT container, held_by FROM holding ORDER BY container"

abbrev pub lines_command : Command
lines_command = Select (asking holding [] line_columns in_order) line_names

pub lines_means : (v : Version) → Means v lines_text 0 lines_command
unfolding understood everything
lines_means v = record { is = refl; plain = (refl, refl); whole = (le_refl _, refl, refl); unlisted = refl }

module _ (old new : State) (v : Version) (has : old.now.schema ≡ schema v) (xs : List HoldingRow) (stored : Holds holding holding_cells old xs) {X : Type 0} (items : X → List HoldingLine) (r : Result X StoreFault) where
  pub lines_finds : IfOk r (λ found. Finds line_cells lines_text [] old new (items found))
      → IfOk r (λ found. (ys : List HoldingRow) × IsOrdered by_container (filter (λ _. true) xs) ys × (items found ≡ map line_of ys))
  lines_finds =
      select_finds v holding lines_text [] line_columns in_order line_names [] (lines_means v) old new has holding_cells xs stored
      (λ _. true) (λ _. refl) (λ h. line_cells (line_of h)) (λ (h : HoldingRow). Int (pos h.container) ∷ []) (λ _. refl) by_container (λ _. refl) (λ a b. by_one_int (pos a.container) (pos b.container))
      line_cells items line_of (λ _. refl) r

  pub lines_faults : IsUnlimited old → IfErr r (Misses line_cells (λ _. ⊤) lines_text [] old new)
      → IfErr r (HasCause old new)
  lines_faults free =
      select_faults v holding lines_text [] line_columns in_order line_names [] (lines_means v) old new has holding_cells xs stored
      (λ _. true) (λ _. refl) (λ h. line_cells (line_of h)) (λ (h : HoldingRow). Int (pos h.container) ∷ []) (λ _. refl) by_container (λ _. refl) (λ a b. by_one_int (pos a.container) (pos b.container))
      line_cells items line_of (λ _. refl) (λ _. ⊤) refl free (all_of (λ _. ⊤) (λ _. tt) xs) r

-- ---- the ticket of an order

abbrev pub ticket_cells : ℕ → Row
ticket_cells t = Int (pos t) ∷ []

abbrev with_its_number : List Term
with_its_number = op2 (Compare Eq Binary) (col 1 0) (col 0 0) ∷ []

abbrev pub tickets_text : List ℕ
tickets_text = codes "SELECT ticket FROM orders WHERE id = ?1 ORDER BY id"

abbrev pub tickets_command : Command
tickets_command = Select (asking orders with_its_number (col 1 2 ∷ []) in_order) (codes "ticket" ∷ [])

pub tickets_means : (v : Version) → Means v tickets_text 1 tickets_command
unfolding understood everything
tickets_means v = record { is = refl; plain = (refl, refl); whole = (le_refl _, refl, refl); unlisted = refl }

module _ (old new : State) (n : ℕ) (v : Version) (has : old.now.schema ≡ schema v) (xs : List OrderRow) (stored : Holds orders order_cells old xs) {X : Type 0} (items : X → List ℕ) (r : Result X StoreFault) where
  pub tickets_finds : IfOk r (λ found. Finds ticket_cells tickets_text (Int (pos n) ∷ []) old new (items found))
      → IfOk r (λ found. (ys : List OrderRow) × IsOrdered by_order (filter (λ (o : OrderRow). nat_eq n o.id) xs) ys × (items found ≡ map (λ (o : OrderRow). o.ticket) ys))
  tickets_finds =
      select_finds v orders tickets_text with_its_number (col 1 2 ∷ []) in_order (codes "ticket" ∷ []) (Int (pos n) ∷ []) (tickets_means v) old new has order_cells xs stored
      (λ (o : OrderRow). nat_eq n o.id) (λ o. only (same_number o.id n)) (λ o. ticket_cells o.ticket) (λ (o : OrderRow). Int (pos o.id) ∷ []) (λ _. refl) by_order (λ _. refl) (λ a b. by_one_int (pos a.id) (pos b.id))
      ticket_cells items (λ (o : OrderRow). o.ticket) (λ _. refl) r

  pub tickets_faults : IsUnlimited old → IfErr r (Misses ticket_cells (λ _. ⊤) tickets_text (Int (pos n) ∷ []) old new)
      → IfErr r (HasCause old new)
  tickets_faults free =
      select_faults v orders tickets_text with_its_number (col 1 2 ∷ []) in_order (codes "ticket" ∷ []) (Int (pos n) ∷ []) (tickets_means v) old new has order_cells xs stored
      (λ (o : OrderRow). nat_eq n o.id) (λ o. only (same_number o.id n)) (λ o. ticket_cells o.ticket) (λ (o : OrderRow). Int (pos o.id) ∷ []) (λ _. refl) by_order (λ _. refl) (λ a b. by_one_int (pos a.id) (pos b.id))
      ticket_cells items (λ (o : OrderRow). o.ticket) (λ _. refl) (λ _. ⊤) refl free (all_of (λ _. ⊤) (λ _. tt) xs) r
