-- The rows of orders and places of a sound state are good.
use Rattle.std.proofs.Common.{◌≡◌, ℕ, suc, Bool, true, false, not, cond, ◌&&◌, List, [], ◌∷◌, length, Option, Some}
use Rattle.std.proofs.Common.{None, refl, sym, ap, ◌∙◌, subst, inl, inr, arith}
use Rattle.std.specs.Prelude.{nat_eq}
use Rattle.desk_core.specs.declared.reader.Place.TheVariants.{Desk}
use Rattle.catalogue_core.specs.Sources.{is_between}
use Rattle.office_core.proofs.Orders.{out_is}
use Rattle.office_core.proofs.Places.{out_order}
use Rattle.office_core.specs.Words.{stands}
use Rattle.state_encoding.proofs.Common.{Cancelled, Done, End, Ended, ExactlyOne, HoldingRow, IsDayNumber, IsFiled}
use Rattle.state_encoding.proofs.Common.{IsSound, Order, OrderRow, Out, Place, Shelf, Standing, StandsIn, State}
use Rattle.state_encoding.proofs.Common.{Version, Waiting, WithItsReader, and_from, and_parts, are_good_holdings}
use Rattle.state_encoding.proofs.Common.{are_good_orders, are_numbered_from, are_twice, around, cases_Bool}
use Rattle.state_encoding.proofs.Common.{container_of, containers, count_by, eqb-true, false_from_ne_true, false≢true}
use Rattle.state_encoding.proofs.Common.{filter, has_its_holding, holding_row, holding_rows, int_eq, int_le}
use Rattle.state_encoding.proofs.Common.{is_container, is_container_there, is_day_number, is_day_number-true}
use Rattle.state_encoding.proofs.Common.{is_good_holding, is_good_order, is_holding_of, is_live, is_of_the_day}
use Rattle.state_encoding.proofs.Common.{is_out_for, is_out_order, is_registered, is_some, le-leb, length-filter}
use Rattle.state_encoding.proofs.Common.{list_all, list_any, most_orders, nat_le, not_from_false, nth}
use Rattle.state_encoding.proofs.Common.{numbered_from_one, numbered_within, option_map, or_left, or_right, order_out}
use Rattle.state_encoding.proofs.Common.{order_row, order_rows, out_stands, out_with, rows_from, same_number, some_and}
use Rattle.state_encoding.proofs.Common.{standing, stands_as, stands_out, state_number, tables}
use Rattle.state_encoding.proofs.Members.{all_in, any_of_in, none_of_in, tests_of_in, in_filter_map, filter_map_in}
use Rattle.state_encoding.proofs.Members.{numbers_in}
use Rattle.state_encoding.proofs.NumberedRows.{rows_are_numbered, length-rows, in_rows, numbered_in}
use Rattle.state_encoding.proofs.DeskLookups.{registered, container_there, order_there, not_later}

-- ---- the state of an order

abbrev stood : Bool → Bool → Option End → Option Standing
stood a b p = cond a (Some Waiting) (cond b (Some WithItsReader) (option_map Ended p))

four_states : (a b : Bool) (p : Option End) → ExactlyOne a b (is_some p)
    → is_between 1 4 (state_number (stood a b p)) ≡ true
four_states true false None x = refl
four_states false true None x = refl
four_states false false (Some Done) x = refl
four_states false false (Some Cancelled) x = refl
four_states true false (Some p) x = absurd x
four_states true true None x = absurd x
four_states true true (Some p) x = absurd x
four_states false true (Some p) x = absurd x
four_states false false None x = absurd x

live_now : (a b : Bool) (p : Option End) → ExactlyOne a b (is_some p)
    → is_between 1 2 (state_number (stood a b p)) ≡ true → p ≡ None
live_now true false None x e = refl
live_now false true None x e = refl
live_now false false (Some Done) x e = absurd (false≢true e)
live_now false false (Some Cancelled) x e = absurd (false≢true e)
live_now true false (Some p) x e = absurd x
live_now true true None x e = absurd x
live_now true true (Some p) x e = absurd x
live_now false true (Some p) x e = absurd x
live_now false false None x e = absurd x

module _ (k : Option ℕ) (w h : ℕ → Bool) (p : Option End) (c : ℕ) (e : k ≡ Some c) (f : IsFiled k w h p) where
  filed_here : ExactlyOne (w c) (h c) (is_some p)
  filed_here = (subst (λ k. IsFiled k w h p) e f).0

  in_four : is_between 1 4 (state_number (stands_as k w h p)) ≡ true
  in_four = ap (λ k. is_between 1 4 (state_number (stands_as k w h p))) e ∙ four_states (w c) (h c) p filed_here

  is_not_past : is_between 1 2 (state_number (stands_as k w h p)) ≡ true → p ≡ None
  is_not_past l = live_now (w c) (h c) p filed_here (sym (ap (λ k. is_between 1 2 (state_number (stands_as k w h p))) e) ∙ l)

state_two : (x : Option Standing) → nat_eq (state_number x) 2 ≡ true → x ≡ Some WithItsReader
state_two None e = absurd (false≢true e)
state_two (Some Waiting) e = absurd (false≢true e)
state_two (Some WithItsReader) e = refl
state_two (Some (Ended Done)) e = absurd (false≢true e)
state_two (Some (Ended Cancelled)) e = absurd (false≢true e)

kept_rows : {X R : Type 0} (row : ℕ → X → R) (p : R → Bool) (q : X → Bool) → ((n : ℕ) (x : X) → p (row n x) ≡ q x)
    → (n : ℕ) (xs : List X) → length (filter p (rows_from row n xs)) ≡ length (filter q xs)
kept_rows row p q e n [] = refl
kept_rows row p q e n (x ∷ xs) =
    ap (λ b. length (cond b (row n x ∷ filter p (rows_from row (suc n) xs)) (filter p (rows_from row (suc n) xs)))) (e n x) ∙ at (q x) (kept_rows row p q e (suc n) xs)
  where
    at : (b : Bool) → length (filter p (rows_from row (suc n) xs)) ≡ length (filter q xs)
        → length (cond b (row n x ∷ filter p (rows_from row (suc n) xs)) (filter p (rows_from row (suc n) xs))) ≡ length (cond b (x ∷ filter q xs) (filter q xs))
    at true r = ap suc r
    at false r = r

pub count_rows : {X R : Type 0} (row : ℕ → X → R) (p : R → Bool) (q : X → Bool) → ((n : ℕ) (x : X) → p (row n x) ≡ q x)
    → (n : ℕ) (xs : List X) → count_by p (rows_from row n xs) ≡ count_by q xs
count_rows row p q e n xs = sym (length-filter p (rows_from row n xs)) ∙ (kept_rows row p q e n xs ∙ length-filter q xs)

-- ---- orders

module _ (version : Version) (s : State) (g : IsSound s) where
  for_it : (o : ℕ) (order : Order) → nth s.orders o ≡ Some order → container_of s o ≡ Some order.container
  for_it o order e = ap (option_map (λ order. order.container)) e

  is_past : (o : ℕ) (order : Order) → nth s.orders o ≡ Some order → is_live (order_row s o order) ≡ true
      → s.past o ≡ None
  is_past o order e l = is_not_past (container_of s o) (λ c. stands o (s.queue c)) (λ c. is_out_for o (s.place c)) (s.past o) order.container (for_it o order e) (g.desk.filed.each o) l

  not_twice : (o p : ℕ) (order other : Order) → nth s.orders o ≡ Some order → nth s.orders p ≡ Some other
      → are_twice (order_row s o order) (order_row s p other) ≡ false
  not_twice o p order other e q =
      let a = order_row s o order in
      let b = order_row s p other in
      false_from_ne_true (are_twice a b) (λ h.
      let h1 = and_parts (not (nat_eq o p)) (is_live a && (is_live b && (nat_eq order.ticket other.ticket && nat_eq order.container other.container))) h in
      let h2 = and_parts (is_live a) (is_live b && (nat_eq order.ticket other.ticket && nat_eq order.container other.container)) h1.1 in
      let h3 = and_parts (is_live b) (nat_eq order.ticket other.ticket && nat_eq order.container other.container) h2.1 in
      let h4 = and_parts (nat_eq order.ticket other.ticket) (nat_eq order.container other.container) h3.1 in
      let same = g.desk.orders.once o p order other e q (is_past o order e h2.0) (is_past p other q h3.0) (eqb-true order.ticket other.ticket h4.0) (eqb-true order.container other.container h4.1) in
      absurd (false≢true (sym (ap not (ap (nat_eq o) (sym same) ∙ same_number o)) ∙ h1.0)))

  good_order_of : (o : ℕ) (order : Order) → nth s.orders o ≡ Some order
      → is_good_order (around (tables version s)) (tables version s).desk (order_row s o order) ≡ true
  good_order_of o order e =
      let t = tables version s in
      let row = order_row s o order in
      let it = g.desk.orders.each o order e in
      let many = count_rows (order_row s) (is_of_the_day row) (λ x. nat_eq x.ticket order.ticket && int_eq x.day order.day) (λ n x. refl) 1 s.orders in
      let most = g.desk.orders.daily order.ticket order.day in
      and_from (is_registered t.desk order.ticket) _ (registered version s order.ticket ∙ it.ticket)
      (and_from (is_container_there t order.container) _ (container_there version s order.container ∙ it.container)
      (and_from (is_between 1 4 row.state) _ (in_four (container_of s o) (λ c. stands o (s.queue c)) (λ c. is_out_for o (s.place c)) (s.past o) order.container (for_it o order e) (g.desk.filed.each o))
      (and_from (is_day_number order.day) _ (is_day_number-true order.day (all_in (λ order. IsDayNumber order.day) s.orders order g.days.orders (numbered_in s.orders o order e)))
      (and_from (int_le order.day s.day) _ (not_later order.day s.day it.day)
      (and_from (nat_le (count_by (is_of_the_day row) t.desk.orders) s.settings.daily) _ (le-leb (count_by (is_of_the_day row) t.desk.orders) s.settings.daily (omega (arith, many, most)))
      (not_from_false (list_any (are_twice row) t.desk.orders) (none_of_in (are_twice row) t.desk.orders (λ other k.
      let i = in_rows (order_row s) s.orders other k in
      ap (are_twice row) i.3 ∙ not_twice o i.0 order i.1 e i.2))))))))

  good_order : (r : OrderRow) → StandsIn r (order_rows s)
      → is_good_order (around (tables version s)) (tables version s).desk r ≡ true
  good_order r k =
      let i = in_rows (order_row s) s.orders r k in
      ap (is_good_order (around (tables version s)) (tables version s).desk) i.3 ∙ good_order_of i.0 i.1 i.2

  pub orders_pass : are_good_orders (around (tables version s)) (tables version s).desk ≡ true
  orders_pass =
      let t = tables version s in
      let few = g.desk.orders.few in
      let count = length-rows (order_row s) 1 s.orders in
      and_from (are_numbered_from (λ (row : OrderRow). row.id) 1 t.desk.orders) _ (rows_are_numbered (order_row s) (λ row. row.id) (λ n x. refl) 1 s.orders)
      (and_from (nat_le (length t.desk.orders) most_orders) _ (le-leb (length t.desk.orders) most_orders (omega (arith, few, count))) (tests_of_in (is_good_order (around t) t.desk) t.desk.orders good_order))

  -- ---- places

  -- what is not on the shelf is a container
  is_there : (c : ℕ) → (s.place c ≡ Shelf → ⊥) → is_container s c ≡ true
  is_there c ne = elim (cases_Bool (is_container s c)) [ inl e ↦ e | inr e ↦ absurd (ne (g.desk.places.known c e)) ]

  out_row : (c o : ℕ) → s.place c ≡ Out o → list_any (is_out_order o c) (order_rows s) ≡ true
  out_row c o e =
      let x = out_order s c o g.desk.filed (ap order_out e) in
      let w = out_with (container_of s o) (λ k. stands o (s.queue k)) (λ k. is_out_for o (s.place k)) (s.past o) c (g.desk.filed.each o) (ap (is_out_for o) e ∙ same_number o) in
      let it = stands_out (container_of s o) (λ k. stands o (s.queue k)) (λ k. is_out_for o (s.place k)) (s.past o) c w in
      order_there version s (λ row. nat_eq row.container c && nat_eq row.state 2) o
      ∙ (ap (some_and (λ (order : Order). nat_eq order.container c && nat_eq (state_number (standing s o)) 2)) x.1
      ∙ and_from (nat_eq x.0.container c) (nat_eq (state_number (standing s o)) 2) (ap (λ k. nat_eq k c) x.2 ∙ same_number c) (ap (λ st. nat_eq (state_number st) 2) it))

  good_place : (c : ℕ) (p : Place) (r : HoldingRow) → s.place c ≡ p → holding_row c p ≡ Some r
      → is_good_holding (around (tables version s)) (tables version s).desk r ≡ true
  good_place c Shelf r e h = absurd (cc)
  good_place c Desk r e h =
      let q : HoldingRow = record { container = c; place = 1; held_by = None } in
      let same : q ≡ r = cc in
      subst (λ r. is_good_holding (around (tables version s)) (tables version s).desk r ≡ true) same (and_from (is_container_there (tables version s) c) true (container_there version s c ∙ is_there c (λ f. absurd (cc))) refl)
  good_place c (Out o) r e h =
      let q : HoldingRow = record { container = c; place = 2; held_by = Some o } in
      let same : q ≡ r = cc in
      subst (λ r. is_good_holding (around (tables version s)) (tables version s).desk r ≡ true) same (and_from (is_container_there (tables version s) c) (list_any (is_out_order o c) (order_rows s)) (container_there version s c ∙ is_there c (λ f. absurd (cc))) (out_row c o e))

  good_holding : (r : HoldingRow) → StandsIn r (holding_rows s)
      → is_good_holding (around (tables version s)) (tables version s).desk r ≡ true
  good_holding r k =
      let i = in_filter_map (λ c. holding_row c (s.place c)) (containers s) r k in
      good_place i.0 (s.place i.0) r refl i.2

  out_at : (o : ℕ) (p : Place) → order_out p ≡ Some o → p ≡ Out o
  out_at o Shelf e = absurd (cc)
  out_at o Desk e = absurd (cc)
  out_at o (Out k) e = ap Out (cc)

  holding_of : (o : ℕ) (order : Order) → nth s.orders o ≡ Some order → nat_eq (state_number (standing s o)) 2 ≡ true
      → list_any (is_holding_of (order_row s o order)) (holding_rows s) ≡ true
  holding_of o order e two =
      let x = out_stands (container_of s o) (λ k. stands o (s.queue k)) (λ k. is_out_for o (s.place k)) (s.past o) (state_two (standing s o) two) in
      let c = x.0 in
      let mine : Some c ≡ Some order.container = sym x.1 ∙ for_it o order e in
      let same : c ≡ order.container = cc in
      let out : s.place c ≡ Out o = out_at o (s.place c) (out_is o (s.place c) x.2) in
      let row : HoldingRow = record { container = c; place = 2; held_by = Some o } in
      let there = is_there c (λ f. absurd (cc)) in
      any_of_in (is_holding_of (order_row s o order)) (holding_rows s) row
      (filter_map_in (λ c. holding_row c (s.place c)) (containers s) c row (numbers_in (length s.catalogue.containers) c (numbered_from_one s.catalogue.containers c there) (numbered_within s.catalogue.containers c there)) (ap (holding_row c) out))
      (and_from (nat_eq c order.container) (nat_eq o o) (ap (nat_eq c) (sym same) ∙ same_number c) (same_number o))

  has_holding : (r : OrderRow) → StandsIn r (order_rows s) → has_its_holding (tables version s).desk r ≡ true
  has_holding r k =
      let i = in_rows (order_row s) s.orders r k in
      let n = nat_eq (state_number (standing s i.0)) 2 in
      let held = list_any (is_holding_of (order_row s i.0 i.1)) (holding_rows s) in
      ap (has_its_holding (tables version s).desk) i.3
      ∙ elim (cases_Bool n) [
        | inl e ↦ or_right (not n) held (holding_of i.0 i.1 i.2 e)
        | inr e ↦ or_left (not n) held (ap not e)
      ]

  pub holdings_pass : are_good_holdings (around (tables version s)) (tables version s).desk ≡ true
  holdings_pass =
      let t = tables version s in
      and_from (list_all (is_good_holding (around t) t.desk) t.desk.holdings) (list_all (has_its_holding t.desk) t.desk.orders) (tests_of_in (is_good_holding (around t) t.desk) t.desk.holdings good_holding) (tests_of_in (has_its_holding t.desk) t.desk.orders has_holding)
