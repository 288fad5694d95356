-- The statement that finds an order: what its text means, what it tells, and why it fails.
use Rattle.std.proofs.Common.{◌≡◌, ◌≤◌, ℕ, pos, List, [], ◌∷◌, map, filter, find, codes, true, false, Bool, cond}
use Rattle.std.proofs.Common.{Option, Some, None, Result, IfOk, IfErr, nat_eq, refl, sym, ap, subst, ◌∙◌}
use Rattle.sqlite.specs.Listing.{understood}
use Rattle.sqlite_tied.specs.Compute.{everything}
use Rattle.desk_store.specs.declared.orders.OrderEntry.{OrderEntry}
use Rattle.desk_store.specs.declared.orders.PlacedOrder.{PlacedOrder}
use Rattle.desk_store.proofs.Common.{AllByRecursion, Binary, Command, Compare, Eq, Finds, HasCause, Holds, Int}
use Rattle.desk_store.proofs.Common.{IsLegibleOrder, IsOrdered, IsThere, IsUnlimited, Means, Misses, OrderRow, Row}
use Rattle.desk_store.proofs.Common.{Select, State, StoreFault, Term, Version, all_weaker, asking, by_one_int, col}
use Rattle.desk_store.proofs.Common.{is_day_number, le_refl, only, op2, option_map, order_cells, order_state_number}
use Rattle.desk_store.proofs.Common.{orders, same_number, schema, select_faults, select_finds}
use Rattle.desk_store.proofs.CardRows.{by_order, in_order}

abbrev pub entry_of : OrderRow → OrderEntry
entry_of o = record { ticket = o.ticket; container = o.container; day = o.day; state = o.state }

abbrev pub entry_cells : OrderEntry → Row
entry_cells o = Int (pos o.ticket) ∷ Int (pos o.container) ∷ Int o.day ∷ Int (pos o.state) ∷ []

abbrev IsEntry : OrderEntry → Type 0
IsEntry o = is_day_number o.day ≡ true

abbrev with_its_number : List Term
with_its_number = op2 (Compare Eq Binary) (col 1 0) (col 0 0) ∷ []

abbrev entry_columns : List Term
entry_columns = col 1 2 ∷ col 1 3 ∷ col 1 4 ∷ col 1 5 ∷ []

abbrev entry_names : List (List ℕ)
entry_names = codes "ticket" ∷ codes "container" ∷ codes "day" ∷ codes "state" ∷ []

abbrev pub find_order_text : List ℕ
find_order_text = codes "SELECT ticket, container, day, state FROM orders WHERE id = ?1 ORDER BY id"

abbrev pub find_order_command : Command
find_order_command = Select (asking orders with_its_number entry_columns in_order) entry_names

pub find_order_means : (v : Version) → Means v find_order_text 1 find_order_command
unfolding understood everything
find_order_means v = record { is = refl; plain = (refl, refl); whole = (le_refl _, refl, refl); unlisted = refl }

module _ (old new : State) (n : ℕ) (v : Version) (has : old.now.schema ≡ schema v) (xs : List OrderRow) (stored : Holds orders order_cells old xs) {X : Type 0} (items : X → List OrderEntry) (r : Result X StoreFault) where
  pub find_order_finds : IfOk r (λ found. Finds entry_cells find_order_text (Int (pos n) ∷ []) old new (items found))
      → IfOk r (λ found. (ys : List OrderRow) × IsOrdered by_order (filter (λ (o : OrderRow). nat_eq n o.id) xs) ys × (items found ≡ map entry_of ys))
  find_order_finds =
      select_finds v orders find_order_text with_its_number entry_columns in_order entry_names (Int (pos n) ∷ []) (find_order_means v) old new has order_cells xs stored
      (λ (o : OrderRow). nat_eq n o.id) (λ o. only (same_number o.id n)) (λ o. entry_cells (entry_of o)) (λ (o : OrderRow). Int (pos o.id) ∷ []) (λ _. refl) by_order (λ _. refl) (λ a b. by_one_int (pos a.id) (pos b.id))
      entry_cells items entry_of (λ _. refl) r

  pub find_order_faults : AllByRecursion IsLegibleOrder xs → IsUnlimited old
      → IfErr r (Misses entry_cells IsEntry find_order_text (Int (pos n) ∷ []) old new) → IfErr r (HasCause old new)
  find_order_faults legible free =
      select_faults v orders find_order_text with_its_number entry_columns in_order entry_names (Int (pos n) ∷ []) (find_order_means v) old new has order_cells xs stored
      (λ (o : OrderRow). nat_eq n o.id) (λ o. only (same_number o.id n)) (λ o. entry_cells (entry_of o)) (λ (o : OrderRow). Int (pos o.id) ∷ []) (λ _. refl) by_order (λ _. refl) (λ a b. by_one_int (pos a.id) (pos b.id))
      entry_cells items entry_of (λ _. refl) IsEntry refl free (all_weaker IsLegibleOrder (λ o. IsEntry (entry_of o)) (λ o h. h.day) xs legible) r

-- ---- the order that is found

pub told_none : (row : Option OrderRow) → option_map entry_of row ≡ None → IsThere row None
told_none None h = refl
told_none (Some row) h = absurd (cc)

pub told_there : (row : Option OrderRow) (e : OrderEntry) (o : PlacedOrder) → option_map entry_of row ≡ Some e
    → o.ticket ≡ e.ticket → o.container ≡ e.container → o.day ≡ e.day → order_state_number o.state ≡ e.state
    → IsThere row (Some o)
told_there None e o h ticket container day state = absurd (cc)
told_there (Some row) e o h ticket container day state =
    let same : entry_of row ≡ e = cc in
    let back = sym same in
    (ticket ∙ ap (λ (x : OrderEntry). x.ticket) back, container ∙ ap (λ (x : OrderEntry). x.container) back, day ∙ ap (λ (x : OrderEntry). x.day) back, state ∙ ap (λ (x : OrderEntry). x.state) back)

-- it is in a state that there is
abbrev InState : OrderEntry → Type 0
InState e = (1 ≤ e.state) × (e.state ≤ 4)

pub legible_there : (p : OrderRow → Bool) (xs : List OrderRow) → AllByRecursion IsLegibleOrder xs → (e : OrderEntry)
    → option_map entry_of (find p xs) ≡ Some e → InState e
legible_there p [] all e h = absurd (cc)
legible_there p (x ∷ xs) all e h =
    (elim (p x) as (λ b. option_map entry_of (cond b (Some x) (find p xs)) ≡ Some e → InState e) [
      | true ↦ λ k. let same : entry_of x ≡ e = cc in subst InState same (all.0.some_state, all.0.state)
      | false ↦ λ k. legible_there p xs all.1 e k
    ]) h
