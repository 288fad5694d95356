-- The statements that change the rows of orders: what their texts mean, what they leave, and why they fail; and what that is on the whole desk.
use Rattle.std.proofs.Common.{◌≡◌, ◌≤◌, ◌+◌, ℕ, zero, suc, ℤ, pos, List, [], ◌∷◌, ◌++◌, map, length, drop, codes, Bool}
use Rattle.std.proofs.Common.{true, false, cond, ltb, Result, OnOk, IfErr, nat_eq, refl, sym, ap, subst, ◌∙◌, arith}
use Rattle.sqlite.specs.Listing.{understood}
use Rattle.sqlite_schema.specs.Names.{same_name}
use Rattle.sqlite_tied.specs.Compute.{everything}
use Rattle.sqlite_trees.specs.declared.store.Store as store
use Rattle.sqlite_value.specs.Keys.{joined}
use Rattle.tree_core.proofs.Lists.{eqb_comm}
use Rattle.office_tables.proofs.UpdateCauses.{KeepsTable}
use Rattle.office_tables.specs.Schema as tables
use Rattle.desk_store.specs.declared.orders.OrderState.{OrderState}
use Rattle.desk_store.proofs.Common.{AreCounted, Binary, Chosen, Command, Compare, Eq, FaultsHaveCause, First, HasCause}
use Rattle.desk_store.proofs.Common.{HasCleanDisk, HasRows, Held, Holds, Insert, Int, IsLegible, IsLive, IsNextOrder}
use Rattle.desk_store.proofs.Common.{IsUnlimited, IsWelcome, Leaves, Means, Null, OnlyTouches, OrderRow, PutsRow, Ran}
use Rattle.desk_store.proofs.Common.{RepresentsDeskAlone, Row, Second, State, StoreFault, StoreUpdates, Term, Trees}
use Rattle.desk_store.proofs.Common.{Update, Values, Version, cast_int, cast_null, cast_row, choosing, col, column}
use Rattle.desk_store.proofs.Common.{counted_again, counted_free, counted_more, counted_rises, edit_of, insert_faults}
use Rattle.desk_store.proofs.Common.{insert_puts, le_refl, length-append, length-map, list_any, lit, ltb-true}
use Rattle.desk_store.proofs.Common.{most_orders, number_welcome, on_ok_then, only, op2, order_cells}
use Rattle.desk_store.proofs.Common.{order_state_number, orders, put_end, put_row, put_rows, same_number, schema, state}
use Rattle.desk_store.proofs.Common.{untouched_last, update_faults, update_leaves, update_only, value_rows, with_order}
use Rattle.desk_store.proofs.Common.{with_order_state, with_state, ⊤}
use Rattle.desk_store.proofs.Frames.{with_orders}

-- ---- a new order

abbrev pub insert_order_text : List ℕ
insert_order_text = codes "INSERT INTO orders (id, ticket, container, day, state) VALUES (?1, ?2, ?3, ?4, 1)"

abbrev pub insert_order_terms : List Term
insert_order_terms = col 0 0 ∷ lit Null ∷ col 0 1 ∷ col 0 2 ∷ col 0 3 ∷ lit (Int (pos 1)) ∷ []

abbrev pub insert_order_command : Command
insert_order_command = Insert 2 (Values insert_order_terms 6)

pub insert_order_means : (v : Version) → Means v insert_order_text 4 insert_order_command
unfolding understood everything
insert_order_means v = record { is = refl; plain = (refl, refl); whole = (le_refl _, refl, refl); unlisted = refl }

order_welcome : (o : OrderRow) (xs : List OrderRow) (v : Version) (db : Trees)
    → db tables.orders.tree ≡ map order_cells xs → list_any (λ (x : OrderRow). nat_eq o.id x.id) xs ≡ false
    → IsWelcome (schema v) db orders (order_cells o)
order_welcome o xs v db stored none =
    number_welcome v orders order_cells (λ x. x.id) (λ _. refl) o xs db stored none refl
    (record { typed = refl; present = refl; checked = refl; referred = refl; parents = refl })

module _ (old new : State) (id ticket container : ℕ) (day : ℤ) (v : Version) (has : old.now.schema ≡ schema v) where
  abbrev x : OrderRow
  x = record { id = id; ticket = ticket; container = container; day = day; state = 1 }

  abbrev params : Row
  params = Int (pos id) ∷ Int (pos ticket) ∷ Int (pos container) ∷ Int day ∷ []

  news : (edit_of old.now.trees orders [] Chosen 0 (value_rows params 6 1 insert_order_terms)).news ≡ order_cells x ∷ []
  news = rw (cast_int (pos id), cast_null, cast_int (pos ticket), cast_int (pos container), cast_int day, cast_int (pos 1)) refl

  pub insert_order_puts : (r : Result Unit StoreFault) → Ran insert_order_text params old new r
      → OnOk r (PutsRow tables.orders.tree (order_cells x) old.now new.now)
  insert_order_puts = insert_puts v 2 orders refl insert_order_text insert_order_terms 6 params (insert_order_means v) old new has (order_cells x) news

  pub insert_order_faults : (xs : List OrderRow) → Holds orders order_cells old xs
      → list_any (λ (o : OrderRow). nat_eq id o.id) xs ≡ false → IsUnlimited old → IsLive old
      → (r : Result Unit StoreFault) → Ran insert_order_text params old new r → IfErr r (HasCause old new)
  insert_order_faults xs stored none =
      insert_faults v 2 orders refl insert_order_text insert_order_terms 6 params (insert_order_means v) old new has (order_cells x) news refl (order_welcome x xs v old.now.trees stored none)

-- ---- another state

abbrev pub set_state_text : List ℕ
set_state_text = codes "UPDATE orders SET state = ?1 WHERE id = ?2"

abbrev with_its_number : List Term
with_its_number = op2 (Compare Eq Binary) (col 1 0) (col 0 1) ∷ []

abbrev set_state_columns : List Term
set_state_columns = col 1 0 ∷ col 1 0 ∷ lit Null ∷ col 1 2 ∷ col 1 3 ∷ col 1 4 ∷ col 0 0 ∷ []

abbrev pub set_state_command : Command
set_state_command = Update 2 (choosing orders with_its_number set_state_columns)

pub set_state_means : (v : Version) → Means v set_state_text 2 set_state_command
unfolding understood everything
set_state_means v = record { is = refl; plain = (refl, refl); whole = (le_refl _, refl, refl); unlisted = refl }

-- the number stays
abbrev kept_of_orders : ℕ → Bool
kept_of_orders p = ltb p 2

orders_kept : (v : Version) → KeepsTable kept_of_orders (schema v) 2 orders
unfolding joined same_name
orders_kept First = record { listed = refl; apart = refl; spared = refl; fits = refl }
orders_kept Second = record { listed = refl; apart = refl; spared = refl; fits = refl }

abbrev brought_to : ℕ → OrderRow → OrderRow
brought_to n o = record o { state = n }

order_alike : (n : ℕ) (o : OrderRow) (p : ℕ) → ltb p 2 ≡ true
    → column (order_cells o) p ≡ column (order_cells (brought_to n o)) p
order_alike n o zero h = refl
order_alike n o (suc zero) h = refl
order_alike n o (suc (suc p)) h = absurd (omega (arith, ltb-true _ _ h))

module _ (old new : State) (id n : ℕ) (v : Version) (has : old.now.schema ≡ schema v) (r : Result Unit StoreFault) (ran : Ran set_state_text (Int (pos n) ∷ Int (pos id) ∷ []) old new r) where
  pub set_state_only : OnOk r (OnlyTouches (tables.orders.tree ∷ []) old.now new.now)
  set_state_only = update_only v 2 orders refl set_state_text _ (Int (pos n) ∷ Int (pos id) ∷ []) old new has (set_state_means v) r ran

  module _ (xs : List OrderRow) (stored : Holds orders order_cells old xs) (counted : AreCounted (λ (o : OrderRow). o.id) xs) where
    abbrev source : OrderRow → Row
    source o = Int (pos o.id) ∷ Int (pos o.id) ∷ Null ∷ Int (pos o.ticket) ∷ Int (pos o.container) ∷ Int o.day ∷ Int (pos n) ∷ []

    casts : (o : OrderRow) → cast_row orders (drop 1 (source o)) ≡ order_cells (brought_to n o)
    casts o = rw (cast_int (pos o.id), cast_null, cast_int (pos o.ticket), cast_int (pos o.container), cast_int o.day, cast_int (pos n)) refl

    pub set_state_leaves : OnOk r (HasRows tables.orders.tree (map order_cells (with_state id n xs)) old.now new.now)
    set_state_leaves =
        update_leaves v 2 orders refl set_state_text with_its_number set_state_columns (Int (pos n) ∷ Int (pos id) ∷ []) (set_state_means v) old new has order_cells (λ o. pos o.id) (λ _. refl) xs stored (counted_rises (λ (o : OrderRow). o.id) 1 xs counted)
        (λ (o : OrderRow). nat_eq o.id id) (λ o. only (same_number o.id id) ∙ eqb_comm id o.id) source (λ _. refl) (λ _. refl) (brought_to n) (λ _. refl) (λ o _ _. casts o) r ran

    pub set_state_faults : IsUnlimited old → IsLive old → IfErr r (HasCause old new)
    set_state_faults free live =
        update_faults v 2 orders refl set_state_text with_its_number set_state_columns (Int (pos n) ∷ Int (pos id) ∷ []) (set_state_means v) old new has order_cells (λ o. pos o.id) (λ _. refl) xs stored (counted_rises (λ (o : OrderRow). o.id) 1 xs counted)
        (λ (o : OrderRow). nat_eq o.id id) (λ o. only (same_number o.id id) ∙ eqb_comm id o.id) source (λ _. refl) (λ _. refl) (brought_to n) (λ _. refl) (λ o _ _. casts o)
        kept_of_orders (orders_kept v) (order_alike n) (λ _. refl) (λ _. refl) (λ _. refl) refl free live r ran

-- an order in another state is the same order
same_orders : (id n : ℕ) (o : OrderRow) → (cond (nat_eq o.id id) (brought_to n o) o).id ≡ o.id
same_orders id n o = elim (nat_eq o.id id) as (λ b. (cond b (brought_to n o) o).id ≡ o.id) [ true ↦ refl | false ↦ refl ]

-- ---- on the whole desk

module _ {S : Type 0} (g : store.Ghosts S) (before after : Held S) (r : Result Unit StoreFault) (id : ℕ) where
  abbrev old : State
  old = state g before

  abbrev new : State
  new = state g after

  pub appended : (ticket container : ℕ) (day : ℤ) → Leaves old new r
      → (HasCleanDisk new → OnOk r (PutsRow tables.orders.tree (order_cells (record { id = id; ticket = ticket; container = container; day = day; state = 1 })) old.now new.now))
      → ((xs : List OrderRow) → Holds orders order_cells old xs → list_any (λ (o : OrderRow). nat_eq id o.id) xs ≡ false → FaultsHaveCause old new r)
      → StoreUpdates g (tables.orders.tree ∷ []) RepresentsDeskAlone before after r (IsNextOrder id) IsLegible (with_order ticket container day)
  appended ticket container day leaves puts faults = record {
    call = record {
      represents_updated = λ clean beside d shown may. on_ok_then r _ _ (λ put.
          let n = may.1 in
          let few = may.0 in
          let next : id ≡ 1 + length d.orders = n ∙ omega arith in
          let row : OrderRow =
          record { id = suc (length d.orders); ticket = ticket; container = container; day = day; state = 1 } in
          let is : suc (length d.orders) ≡ 1 + length d.orders = omega arith in
          with_orders old.now new.now d shown (d.orders ++ row ∷ []) put.only
          (put.rows ∙ ap (λ (i : ℕ). put_row (order_cells (record { id = i; ticket = ticket; container = container; day = day; state = 1 })) (old.now.trees tables.orders.tree)) n ∙ ap (put_row (order_cells row)) shown.orders
          ∙ put_rows order_cells (λ (o : OrderRow). pos o.id) (λ _. refl) row d.orders
          ∙ ap (map order_cells) (put_end (λ (o : OrderRow). o.id) 1 d.orders row shown.order_numbers is))
          (counted_more (λ (o : OrderRow). o.id) 1 d.orders row shown.order_numbers is)
          (let size = length-append d.orders (row ∷ []) in omega (arith, size, few))) (puts clean);
      only = λ clean. on_ok_then r _ _ (λ put. put.only) (puts clean);
      goes = leaves.goes;
      aborts = leaves.aborts;
      faults = λ beside d shown may kept.
          let n = may.1 in
          faults d.orders shown.orders (counted_free (λ (o : OrderRow). o.id) 1 d.orders id shown.order_numbers (n ∙ omega arith));
    };
    spares = λ clean. untouched_last (tables.orders.tree ∷ []) old new r (leaves.spares clean);
  }

  pub brought : (next : OrderState) → Leaves old new r
      → (HasCleanDisk new → (xs : List OrderRow) → Holds orders order_cells old xs → AreCounted (λ (o : OrderRow). o.id) xs → OnOk r (HasRows tables.orders.tree (map order_cells (with_state id (order_state_number next) xs)) old.now new.now))
      → (HasCleanDisk new → OnOk r (OnlyTouches (tables.orders.tree ∷ []) old.now new.now))
      → ((xs : List OrderRow) → Holds orders order_cells old xs → AreCounted (λ (o : OrderRow). o.id) xs → FaultsHaveCause old new r)
      → StoreUpdates g (tables.orders.tree ∷ []) RepresentsDeskAlone before after r (λ _. ⊤) IsLegible (with_order_state id next)
  brought next leaves rows only faults = record {
    call = record {
      represents_updated = λ clean beside d shown may. on_ok_then r _ _ (λ has.
          with_orders old.now new.now d shown _ has.only has.are
          (counted_again (λ (o : OrderRow). o.id) 1 _ (same_orders id (order_state_number next)) d.orders shown.order_numbers)
          (subst (λ n. n ≤ most_orders) (sym (length-map d.orders _)) shown.few_orders)) (rows clean d.orders shown.orders shown.order_numbers);
      only = only;
      goes = leaves.goes;
      aborts = leaves.aborts;
      faults = λ beside d shown may kept. faults d.orders shown.orders shown.order_numbers;
    };
    spares = λ clean. untouched_last (tables.orders.tree ∷ []) old new r (leaves.spares clean);
  }
