-- Holdings as they are judged from the values at hand.
use Rattle.std.proofs.Common.{◌≡◌, ℕ, ◌<◌, ◌≤◌, Bool, true, false, not, ◌&&◌, ◌||◌, List, map, length, Option, Some}
use Rattle.std.proofs.Common.{None, refl, sym, ap, ◌∙◌, inl, inr, arith, nat_eq, nat_le, nat_lt}
use Rattle.std.proofs.lemmas.Bool.{eq-eqb, lt-ltb}
use Rattle.std.specs.Option.{option_map_or, unwrap_or}
use Rattle.desk_core.specs.DeskCauses as causes
use Rattle.desk_core.specs.DeskRows as desk
use Rattle.desk_core.specs.declared.consistency.rows.HoldingRow.{HoldingRow}
use Rattle.desk_core.proofs.Common.{Around, In, OrderRow, Surrounds, Tally, and_parts, and_right, are_numbered_from}
use Rattle.desk_core.proofs.Common.{cases_eq, cases_lt, count_by, eqb-true, holder, holding_record, is_fit_holding}
use Rattle.desk_core.proofs.Common.{is_held, is_none, is_order_out_for, le-leb, le-ltb, lies_well, list_all}
use Rattle.desk_core.proofs.Common.{list_all-map, list_any, list_any-map, lt-leb, ne_eqb, nth_order, order_record}
use Rattle.desk_core.proofs.Common.{some_and, times}
use Rattle.desk_core.proofs.Counts.{any_count, count_map}
use Rattle.desk_core.proofs.NumberedRows.{any_numbered, own_number}
use Rattle.desk_core.proofs.Tests.{all_agree, all_at, and_same, any_agree_in}

from_one : (n : ℕ) → nat_le 1 n ≡ nat_lt 0 n
from_one n = elim (cases_lt 0 n) [
  | inl lt ↦ let le : 1 ≤ n = omega (arith, lt) in le-leb 1 n le ∙ sym (lt-ltb 0 n lt)
  | inr le ↦ let lt : n < 1 = omega (arith, le) in lt-leb 1 n lt ∙ sym (le-ltb 0 n le)
]

module _ (d : desk.Desk) (orders : List OrderRow) (e : d.orders ≡ map order_record orders) (numbered : are_numbered_from (λ (row : OrderRow). row.id) 1 orders ≡ true) where
  -- the order with a number passes a test
  pub order_there : (p : desk.OrderRow → Bool) (o : ℕ)
      → list_any (λ (row : desk.OrderRow). nat_eq row.id o && p row) d.orders ≡ some_and (λ row. p (order_record row)) (nth_order orders o)
  order_there p o =
      ap (list_any (λ (row : desk.OrderRow). nat_eq row.id o && p row)) e
      ∙ list_any-map (λ (row : desk.OrderRow). nat_eq row.id o && p row) order_record orders
      ∙ any_numbered (λ (row : OrderRow). row.id) (λ row. p (order_record row)) orders o numbered

  -- ---- each holding

  lies : (c place : ℕ) (o : Option ℕ) → option_map_or (λ o. nat_eq place 2 && is_order_out_for orders c o) o (nat_eq place 1)
      ≡ ((nat_eq place 1 && is_none o) || (nat_eq place 2 && some_and (λ o. list_any (causes.is_out_order o c) d.orders) o))
  lies c place None = at_desk (nat_eq place 1) (nat_eq place 2)
    where
      at_desk : (x y : Bool) → x ≡ ((x && true) || (y && false))
      at_desk true y = refl
      at_desk false true = refl
      at_desk false false = refl
  lies c place (Some o) = out (nat_eq place 1) (nat_eq place 2) _ _ (sym (order_there (λ (row : desk.OrderRow). nat_eq row.container c && nat_eq row.state 2) o))
    where
      out : (x y t u : Bool) → t ≡ u → (y && t) ≡ ((x && false) || (y && u))
      out true y t u f = ap (λ v. y && v) f
      out false y t u f = ap (λ v. y && v) f

  pub holdings_told : (s : Around) (a : causes.Around) (holdings : List HoldingRow) → Surrounds s a d
      → d.holdings ≡ map holding_record holdings
      → list_all (is_fit_holding s orders) holdings ≡ list_all (causes.is_good_holding a d) d.holdings
  holdings_told s a holdings h f =
      all_agree (is_fit_holding s orders) (λ row. causes.is_good_holding a d (holding_record row)) holdings
      (λ row i. and_same (list_any (nat_eq row.container) s.containers) (a.is_container row.container) _ _ (sym (h.containers row.container)) (lies row.container row.place row.held_by))
      ∙ sym (list_all-map (causes.is_good_holding a d) holding_record holdings)
      ∙ ap (list_all (causes.is_good_holding a d)) (sym f)

  -- ---- each order that is out

  -- a holding that lies well tells its order where it is that order's
  answers : (order : OrderRow) → 1 ≤ order.id → nth_order orders order.id ≡ Some order → (c place : ℕ) (o : Option ℕ)
      → option_map_or (λ o. nat_eq place 2 && is_order_out_for orders c o) o (nat_eq place 1) ≡ true
      → nat_eq order.id (unwrap_or o 0) ≡ (nat_eq c order.container && (nat_eq place 2 && some_and (nat_eq order.id) o))
  answers order above at c place None well =
      ne_eqb order.id 0 (λ z. absurd (omega (arith, above, z))) ∙ sym (and_right (nat_eq c order.container) _ (and_right (nat_eq place 2) false refl))
  answers order above at c place (Some o) well = elim (cases_eq order.id o) [
    | inr ne ↦ ne_eqb order.id o ne ∙ sym (and_right (nat_eq c order.container) _ (and_right (nat_eq place 2) (nat_eq order.id o) (ne_eqb order.id o ne)))
    | inl same ↦
        let parts = and_parts (nat_eq place 2) (is_order_out_for orders c o) well in
        let out : (nat_eq order.container c && nat_eq order.state 2) ≡ true =
        sym (ap (some_and (λ (row : OrderRow). nat_eq row.container c && nat_eq row.state 2)) at) ∙ ap (is_order_out_for orders c) same ∙ parts.1 in
        let box = eqb-true order.container c (and_parts (nat_eq order.container c) (nat_eq order.state 2) out).0 in
        eq-eqb order.id o same
        ∙ sym (and_same (nat_eq c order.container) true (nat_eq place 2 && nat_eq order.id o) true (eq-eqb c order.container (sym box))
        (and_same (nat_eq place 2) true (nat_eq order.id o) true parts.0 (eq-eqb order.id o same)))
  ]

  pub held_told : (s : Around) (holdings : List HoldingRow) (tally : Tally) → d.holdings ≡ map holding_record holdings
      → list_all (is_fit_holding s orders) holdings ≡ true
      → ((n : ℕ) → n ≤ length orders → times tally n ≡ count_by (nat_eq n) (map holder holdings))
      → list_all (is_held tally) orders ≡ list_all (causes.has_its_holding d) d.orders
  held_told s holdings tally f good counts =
      all_agree (is_held tally) (λ row. causes.has_its_holding d (order_record row)) orders (λ order i. ap (λ b. not (nat_eq order.state 2) || b) (held order i))
      ∙ sym (list_all-map (causes.has_its_holding d) order_record orders)
      ∙ ap (list_all (causes.has_its_holding d)) (sym e)
    where
      held : (order : OrderRow) → In order orders
          → nat_le 1 (times tally order.id) ≡ list_any (causes.is_holding_of (order_record order)) d.holdings
      held order i =
          let own = own_number (λ (row : OrderRow). row.id) orders order numbered i in
          ap (nat_le 1) (counts order.id own.1 ∙ count_map (nat_eq order.id) holder holdings)
          ∙ from_one (count_by (λ row. nat_eq order.id (holder row)) holdings)
          ∙ sym (any_count (λ row. nat_eq order.id (holder row)) holdings)
          ∙ any_agree_in (λ row. nat_eq order.id (holder row)) (λ row. causes.is_holding_of (order_record order) (holding_record row)) holdings
          (λ row j. answers order own.0 own.2 row.container row.place row.held_by (and_parts (list_any (nat_eq row.container) s.containers) (lies_well orders row) (all_at (is_fit_holding s orders) holdings row good j)).1)
          ∙ sym (list_any-map (causes.is_holding_of (order_record order)) holding_record holdings)
          ∙ ap (list_any (causes.is_holding_of (order_record order))) (sym f)

  -- ---- as it is judged, one after the other

  pub not_told : (s : Around) (a : causes.Around) (holdings : List HoldingRow) (b : Bool) → Surrounds s a d
      → d.holdings ≡ map holding_record holdings → b ≡ list_all (is_fit_holding s orders) holdings → b ≡ false
      → false ≡ causes.are_good_holdings a d
  not_told s a holdings b h f w n =
      sym (ap (λ v. v && list_all (causes.has_its_holding d) d.orders) (sym (holdings_told s a holdings h f) ∙ sym w ∙ n))

  pub held_well : (s : Around) (a : causes.Around) (holdings : List HoldingRow) (holders : List ℕ) (tally : Tally) (b r : Bool)
      → Surrounds s a d → d.holdings ≡ map holding_record holdings → b ≡ list_all (is_fit_holding s orders) holdings
      → b ≡ true
      → holders ≡ map holder holdings → ((n : ℕ) → n ≤ length orders → times tally n ≡ count_by (nat_eq n) holders)
      → r ≡ list_all (is_held tally) orders → r ≡ causes.are_good_holdings a d
  held_well s a holdings holders tally b r h f w t l counts v =
      let good = sym w ∙ t in
      v ∙ held_told s holdings tally f good (λ m le. counts m le ∙ ap (count_by (nat_eq m)) l)
      ∙ sym (ap (λ x. x && list_all (causes.has_its_holding d) d.orders) (sym (holdings_told s a holdings h f) ∙ good))
