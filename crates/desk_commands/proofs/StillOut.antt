-- What is told of the containers that are out says whether there are any.
use Rattle.std.proofs.Common.{◌≡◌, ℕ, Bool, true, false, not, nat_eq, List, [], ◌∷◌, Option, Some, None, refl, sym, ap}
use Rattle.std.proofs.Common.{◌∙◌}
use Rattle.desk_core.specs.declared.reader.Place.TheVariants.{Desk}
use Rattle.refinement.proofs.RowsOfLists.{found_row}
use Rattle.desk_commands.proofs.Common.{ContainerOrder, IsFiled, IsSoundOffice, Order, OrderRow, Out, Place, Shelf}
use Rattle.desk_commands.proofs.Common.{State, Version, containers, false≢true, filter_map, find, holding_row, is_empty}
use Rattle.desk_commands.proofs.Common.{is_out, is_out_for, is_some, issued_by, issued_of, list_any, nth, option_map}
use Rattle.desk_commands.proofs.Common.{order_row, order_rows, same_number, tables}

some_mapped : {X Y : Type 0} (f : X → Y) (o : Option X) → is_some o ≡ true → is_some (option_map f o) ≡ true
some_mapped f None h = absurd (cc)
some_mapped f (Some x) h = refl

module _ (s : State) where
  order_found : (o : ℕ) → is_some (nth s.orders o) ≡ true
      → is_some (find (λ (row : OrderRow). nat_eq o row.id) (order_rows s)) ≡ true
  order_found o h =
      ap is_some (found_row (order_row s) (λ (row : OrderRow). row.id) (λ n x. refl) o s.orders)
      ∙ some_mapped (order_row s o) (nth s.orders o) h

  module _ (sound : IsSoundOffice s) where
    -- what a container is out with is an order
    has_order : (c o : ℕ) → s.place c ≡ Out o → is_some (nth s.orders o) ≡ true
    has_order c o out = at (nth s.orders o) (sound.sound.desk.filed.each o)
      where
        at : (it : Option Order)
            → IsFiled (option_map (λ (order : Order). order.container) it) (λ k. Rattle.office_core.specs.Words.stands o (s.queue k)) (λ k. is_out_for o (s.place k)) (s.past o)
            → is_some it ≡ true
        at None filed = absurd (false≢true (sym (filed.1 c) ∙ ap (is_out_for o) out ∙ same_number o))
        at (Some order) filed = refl

    none_issued : (cs : List ℕ)
        → is_empty (filter_map (issued_by (order_rows s)) (filter_map (λ c. holding_row c (s.place c)) cs)) ≡ not (list_any (is_out s) cs)
    none_issued [] = refl
    none_issued (c ∷ cs) = at (s.place c) refl (none_issued cs)
      where
        at : (p : Place) → s.place c ≡ p
            → is_empty (filter_map (issued_by (order_rows s)) (filter_map (λ c. holding_row c (s.place c)) cs)) ≡ not (list_any (is_out s) cs)
            → is_empty (filter_map (issued_by (order_rows s)) (filter_map (λ c. holding_row c (s.place c)) (c ∷ cs))) ≡ not (list_any (is_out s) (c ∷ cs))
        at Shelf e rest = rw e rest
        at Desk e rest = rw e rest
        at (Out o) e rest = rw e (with_row (find (λ (row : OrderRow). nat_eq o row.id) (order_rows s)) refl (order_found o (has_order c o e)))
          where
            with_row : (it : Option OrderRow) → find (λ (row : OrderRow). nat_eq o row.id) (order_rows s) ≡ it
                → is_some it ≡ true
                → is_empty (filter_map (issued_by (order_rows s)) (record { container = c; place = 2; held_by = Some o } ∷ filter_map (λ c. holding_row c (s.place c)) cs)) ≡ false
            with_row None is h = absurd (cc)
            with_row (Some row) is h = rw is refl

    -- it is told whether there are none
    pub any_out : (version : Version) {told : List ContainerOrder} {none b : Bool} → told ≡ issued_of (tables version s).desk
        → none ≡ is_empty told → none ≡ b → list_any (is_out s) (containers s) ≡ not b
    any_out version told_is none_is is =
        turned (list_any (is_out s) (containers s)) (sym (none_issued (containers s)) ∙ ap is_empty (sym told_is) ∙ sym none_is ∙ is)
      where
        turned : {b : Bool} (x : Bool) → not x ≡ b → x ≡ not b
        turned true e = ap not e
        turned false e = ap not e
