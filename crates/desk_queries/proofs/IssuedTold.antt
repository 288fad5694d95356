-- What is told of the containers that are out is what the rules tell of them.
use Rattle.std.proofs.Common.{◌≡◌, ℕ, List, [], ◌∷◌, map, Option, Some, None, refl, ap, ◌∙◌}
use Rattle.desk_core.specs.declared.reader.Place.{Place}
use Rattle.desk_core.specs.declared.reader.Place.TheVariants.{Shelf, Desk, Out}
use Rattle.desk_store.specs.Holdings.{issued_by, issued_of}
use Rattle.desk_store.specs.declared.container_orders.ContainerOrder.{ContainerOrder}
use Rattle.refinement.proofs.RowsOfLists.{found_row}
use Rattle.desk_queries.proofs.Common.{Data, Order, OrderRow, State, Version, codes, cons_option, containers, count}
use Rattle.desk_queries.proofs.Common.{fields, filter_map, holding_row, issued_json, loan_data, nth, option_map}
use Rattle.desk_queries.proofs.Common.{order_row, order_rows, tables}

module _ (s : State) where
  -- one that is out, with the order of that number
  with_order : (c o : ℕ) (order : Option Order) (rest : List ContainerOrder) (others : List Data)
      → map loan_data rest ≡ others
      → map loan_data (cons_option (option_map (λ t. (let l : ContainerOrder = record { container = c; order = o; ticket = t } in l)) (option_map (λ (row : OrderRow). row.ticket) (option_map (order_row s o) order))) rest)
      ≡ cons_option (option_map (λ (order : Order). fields ((codes "container", count c) ∷ (codes "order", count o) ∷ (codes "ticket", count order.ticket) ∷ [])) order) others
  with_order c o None rest others same = same
  with_order c o (Some order) rest others same =
      ap (λ l. loan_data (record { container = c; order = o; ticket = order.ticket }) ∷ l) same

  issued_each : (cs : List ℕ)
      → map loan_data (filter_map (issued_by (order_rows s)) (filter_map (λ c. holding_row c (s.place c)) cs)) ≡ filter_map (issued_json s) cs
  issued_each [] = refl
  issued_each (c ∷ cs) = at (s.place c) refl (issued_each cs)
    where
      at : (p : Place) → s.place c ≡ p
          → map loan_data (filter_map (issued_by (order_rows s)) (filter_map (λ c. holding_row c (s.place c)) cs)) ≡ filter_map (issued_json s) cs
          → map loan_data (filter_map (issued_by (order_rows s)) (filter_map (λ c. holding_row c (s.place c)) (c ∷ cs))) ≡ filter_map (issued_json s) (c ∷ cs)
      at Shelf e same = rw e same
      at Desk e same = rw e same
      at (Out o) e same =
          rw e
          (ap (λ (row : Option OrderRow). map loan_data (cons_option (option_map (λ t. (let l : ContainerOrder = record { container = c; order = o; ticket = t } in l)) (option_map (λ (row : OrderRow). row.ticket) row))
          (filter_map (issued_by (order_rows s)) (filter_map (λ c. holding_row c (s.place c)) cs))))
          (found_row (order_row s) (λ (row : OrderRow). row.id) (λ n x. refl) o s.orders)
          ∙ with_order c o (nth s.orders o) (filter_map (issued_by (order_rows s)) (filter_map (λ c. holding_row c (s.place c)) cs)) (filter_map (issued_json s) cs) same)

  pub issued_told : (version : Version)
      → map loan_data (issued_of (tables version s).desk) ≡ filter_map (issued_json s) (containers s)
  issued_told version = issued_each (containers s)
