-- The statement on all orders that wait: what its text means, what it tells, and why it fails.
use Rattle.std.proofs.Common.{◌≡◌, ℕ, pos, List, [], ◌∷◌, map, filter, codes, Result, IfOk, IfErr, nat_eq, refl}
use Rattle.sqlite.specs.Listing.{understood}
use Rattle.sqlite_tied.specs.Compute.{everything}
use Rattle.desk_store.proofs.Common.{Binary, Command, Compare, ContainerOrder, Eq, Finds, HasCause, Holds, Int}
use Rattle.desk_store.proofs.Common.{IsOrdered, IsUnlimited, Means, Misses, OrderRow, Row, Select, State, StoreFault}
use Rattle.desk_store.proofs.Common.{Term, Version, all_of, asking, by_one_int, col, le_refl, lit, only, op2}
use Rattle.desk_store.proofs.Common.{order_cells, orders, same_number, schema, select_faults, select_finds, ⊤}
use Rattle.desk_store.proofs.CardRows.{by_order, in_order}

abbrev pub first_of : OrderRow → ContainerOrder
first_of o = record { container = o.container; order = o.id; ticket = o.ticket }

abbrev pub first_cells : ContainerOrder → Row
first_cells o = Int (pos o.container) ∷ Int (pos o.order) ∷ Int (pos o.ticket) ∷ []

abbrev it_waits : List Term
it_waits = op2 (Compare Eq Binary) (col 1 5) (lit (Int (pos 1))) ∷ []

abbrev first_columns : List Term
first_columns = col 1 3 ∷ col 1 0 ∷ col 1 2 ∷ []

abbrev first_names : List (List ℕ)
first_names = codes "container" ∷ codes "id" ∷ codes "ticket" ∷ []

abbrev pub all_text : List ℕ
all_text = codes "SELECT container, id, ticket FROM orders WHERE state = 1 ORDER BY id"

abbrev pub all_command : Command
all_command = Select (asking orders it_waits first_columns in_order) first_names

pub all_means : (v : Version) → Means v all_text 0 all_command
unfolding understood everything
all_means v = record { is = refl; plain = (refl, refl); whole = (le_refl _, refl, refl); unlisted = refl }

module _ (old new : State) (v : Version) (has : old.now.schema ≡ schema v) (xs : List OrderRow) (stored : Holds orders order_cells old xs) {X : Type 0} (items : X → List ContainerOrder) (r : Result X StoreFault) where
  pub all_finds : IfOk r (λ found. Finds first_cells all_text [] old new (items found))
      → IfOk r (λ found. (ys : List OrderRow) × IsOrdered by_order (filter (λ (o : OrderRow). nat_eq 1 o.state) xs) ys × (items found ≡ map first_of ys))
  all_finds =
      select_finds v orders all_text it_waits first_columns in_order first_names [] (all_means v) old new has order_cells xs stored
      (λ (o : OrderRow). nat_eq 1 o.state) (λ o. only (same_number o.state 1)) (λ o. first_cells (first_of o)) (λ (o : OrderRow). Int (pos o.id) ∷ []) (λ _. refl) by_order (λ _. refl) (λ a b. by_one_int (pos a.id) (pos b.id))
      first_cells items first_of (λ _. refl) r

  pub all_faults : IsUnlimited old → IfErr r (Misses first_cells (λ _. ⊤) all_text [] old new)
      → IfErr r (HasCause old new)
  all_faults free =
      select_faults v orders all_text it_waits first_columns in_order first_names [] (all_means v) old new has order_cells xs stored
      (λ (o : OrderRow). nat_eq 1 o.state) (λ o. only (same_number o.state 1)) (λ o. first_cells (first_of o)) (λ (o : OrderRow). Int (pos o.id) ∷ []) (λ _. refl) by_order (λ _. refl) (λ a b. by_one_int (pos a.id) (pos b.id))
      first_cells items first_of (λ _. refl) (λ _. ⊤) refl free (all_of (λ _. ⊤) (λ _. tt) xs) r
