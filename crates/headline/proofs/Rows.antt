-- The rows of orders that are out name different containers, and so do those of the places of containers.
use Rattle.std.proofs.Common.{◌≡◌, ◌∙◌, ℕ, List, [], ◌∷◌, Option, Some, None, ap, ap₂, inl, inr, nat_eq, option_map}
use Rattle.std.proofs.Common.{refl, subst, sym, true}
use Rattle.std.proofs.lemmas.Bool.{cases_Bool, eqb-true}
use Rattle.std.specs.List.{cons_option, filter_map}
use Rattle.tree_core.specs.Members.{StandsIn}
use Rattle.desk_core.specs.DeskRows.{HoldingRow, OrderRow}
use Rattle.desk_core.specs.declared.reader.Place.{Place}
use Rattle.desk_core.specs.declared.reader.Place.TheVariants.{Shelf, Desk, Out}
use Rattle.office_core.proofs.OrderLaws.{out_apart}
use Rattle.office_core.proofs.Words.{same_number}
use Rattle.office_core.specs.Laws.{Ended, Standing, Waiting, WithItsReader, standing}
use Rattle.office_core.specs.State.{Cancelled, Done, Order, State, container_of, containers}
use Rattle.office_core.specs.Words.{nth}
use Rattle.state_encoding.proofs.NumberedRows.{in_rows}
use Rattle.state_encoding.specs.DeskEncoding.{holding_row, holding_rows, order_row, order_rows, state_number}
use Rattle.headline.specs.Rows.{AreOrdersApart, ArePlacesApart}

out_there : (standing : Option Standing) → state_number standing ≡ 2 → standing ≡ Some WithItsReader
out_there None e = absurd cc
out_there (Some Waiting) e = absurd cc
out_there (Some WithItsReader) e = refl
out_there (Some (Ended Done)) e = absurd cc
out_there (Some (Ended Cancelled)) e = absurd cc

same_order : (s : State) (m n : ℕ) → standing s m ≡ Some WithItsReader → standing s n ≡ Some WithItsReader
    → container_of s m ≡ container_of s n → m ≡ n
same_order s m n one other box =
    elim (cases_Bool (nat_eq m n)) [
      | inl e ↦ eqb-true m n e
      | inr e ↦ absurd (out_apart s m n (λ same. let t : nat_eq m n ≡ true = subst (λ k. nat_eq m k ≡ true) same (same_number m) in absurd cc) one other box)
    ]

same_row : (s : State) (m n : ℕ) (order another : Order) → m ≡ n → nth s.orders m ≡ Some order
    → nth s.orders n ≡ Some another → order_row s m order ≡ order_row s n another
same_row s m n order another e found found_too =
    let both : Some order ≡ Some another = sym found ∙ (ap (nth s.orders) e ∙ found_too) in
    let o : order ≡ another = cc in
    ap₂ (order_row s) e o

container_there : (s : State) (o : ℕ) (order : Order) → nth s.orders o ≡ Some order → container_of s o ≡ Some order.container
container_there s o order found = ap (option_map (λ (it : Order). it.container)) found

pub orders_apart : (s : State) → AreOrdersApart (order_rows s)
orders_apart s one other here there out_one out_other same =
    let (m, order, found, is) = in_rows (order_row s) s.orders one here in
    let (n, another, found_too, is_too) = in_rows (order_row s) s.orders other there in
    let stands_one : standing s m ≡ Some WithItsReader = out_there (standing s m) (sym (ap (λ (r : OrderRow). r.state) is) ∙ out_one) in
    let stands_other : standing s n ≡ Some WithItsReader = out_there (standing s n) (sym (ap (λ (r : OrderRow). r.state) is_too) ∙ out_other) in
    let boxes : order.container ≡ another.container =
    sym (ap (λ (r : OrderRow). r.container) is) ∙ (same ∙ ap (λ (r : OrderRow). r.container) is_too) in
    let same_box : container_of s m ≡ container_of s n =
    container_there s m order found ∙ (ap Some boxes ∙ sym (container_there s n another found_too)) in
    is ∙ (same_row s m n order another (same_order s m n stands_one stands_other same_box) found found_too ∙ sym is_too)

-- ---- the places of containers

-- what a function gives for a list, it gives for one of its elements
of_some : {X Y : Type 0} (f : X → Option Y) (xs : List X) (y : Y) → StandsIn y (filter_map f xs)
    → (x : X) × (f x ≡ Some y)
of_some f [] y there = absurd there
of_some {X} {Y} f (x ∷ xs) y there = at (f x) refl (λ later. of_some f xs y later) there
  where
    at : (o : Option Y) → f x ≡ o → (StandsIn y (filter_map f xs) → (z : X) × (f z ≡ Some y))
        → StandsIn y (cons_option o (filter_map f xs)) → (z : X) × (f z ≡ Some y)
    at None is more there = more there
    at (Some first) is more there = elim there [
      | inl same ↦ (x, is ∙ ap Some (sym same))
      | inr later ↦ more later
    ]

-- the row of a container names it
own_container : (c : ℕ) (place : Place) (row : HoldingRow) → holding_row c place ≡ Some row → row.container ≡ c
own_container c Shelf row is = absurd cc
own_container c Desk row is = cc
own_container c (Out o) row is = cc

pub places_apart : (s : State) → ArePlacesApart (holding_rows s)
places_apart s one other here there same =
    let row = λ (c : ℕ). holding_row c (s.place c) in
    let (c, is) = of_some row (containers s) one here in
    let (d, is_too) = of_some row (containers s) other there in
    let box : c ≡ d = sym (own_container c (s.place c) one is) ∙ (same ∙ own_container d (s.place d) other is_too) in
    let both : Some one ≡ Some other = sym is ∙ (ap row box ∙ is_too) in
    cc
