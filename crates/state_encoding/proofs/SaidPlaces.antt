-- Orders and places whose rows pass are sound, and the places show those rows again.
use Rattle.std.proofs.Common.{◌≡◌, ℕ, suc, ◌≤◌, Bool, true, false, not, cond, ◌&&◌, List, [], ◌∷◌, length, Option, Some}
use Rattle.std.proofs.Common.{None, refl, sym, ap, ◌∙◌, subst, inl, inr, arith}
use Rattle.std.proofs.lemmas.Bool.Decides.{Decides-int_eq}
use Rattle.std.specs.Prelude.{ℤ, map, filter_map, nat_eq, unwrap_or}
use Rattle.catalogue_core.specs.Sources.{is_between}
use Rattle.state_encoding.proofs.Common.{AllByRecursion, AreGoodOrders, AreGoodPlaces, HasGoodCatalogueRows, HoldingRow}
use Rattle.state_encoding.proofs.Common.{IsDayNumber, IsGoodOrder, MeetsDeskKeys, OfficeRows, Order, OrderRow, Shelf}
use Rattle.state_encoding.proofs.Common.{StandsIn, State, and_from, and_parts, are_twice, cases_Bool, cases_eq}
use Rattle.state_encoding.proofs.Common.{containers, count_by, day_is_broken, end_of_state, eq-eqb, eqb-true}
use Rattle.state_encoding.proofs.Common.{false≢true, filter, find, fun_ext, held_count, holder_of, holding_row}
use Rattle.state_encoding.proofs.Common.{holding_rows, holds_well, int_eq, is_container, is_held_against_rules, is_live}
use Rattle.state_encoding.proofs.Common.{is_seated, leb-true, length-filter, length-map, nat_le, nth, numbered_from_one}
use Rattle.state_encoding.proofs.Common.{numbered_within, numbers_to, opens, option_and_then, option_map, order_from}
use Rattle.state_encoding.proofs.Common.{order_out, place_from, place_in, some_and, state_of}
use Rattle.state_encoding.proofs.Members.{all_of_in, none_in, in_map, in_filter, numbers_in, to_from}
use Rattle.state_encoding.proofs.NumberedRows.{has_number, numbered_in}
use Rattle.state_encoding.proofs.DeskLookups.{between}
use Rattle.state_encoding.proofs.Grouped.{found, found_all}
use Rattle.state_encoding.proofs.DeskParts.{ReaderParts, OrdersParts, not_bad, said_ticket, said_container, said_by}
use Rattle.state_encoding.proofs.SaidOrders.{place_cases, HoldingKind, AtDesk, OutWith, HoldingParts, place_is_desk}
use Rattle.state_encoding.proofs.SaidOrders.{place_is_out}

-- ---- counts

kept_map : {X Y : Type 0} (p : Y → Bool) (f : X → Y) (xs : List X)
    → length (filter p (map f xs)) ≡ length (filter (λ x. p (f x)) xs)
kept_map p f [] = refl
kept_map p f (x ∷ xs) = at (p (f x)) (kept_map p f xs)
  where
    at : (b : Bool) → length (filter p (map f xs)) ≡ length (filter (λ x. p (f x)) xs)
        → length (cond b (f x ∷ filter p (map f xs)) (filter p (map f xs))) ≡ length (cond b (x ∷ filter (λ x. p (f x)) xs) (filter (λ x. p (f x)) xs))
    at true e = ap suc e
    at false e = e

pub count_map : {X Y : Type 0} (p : Y → Bool) (f : X → Y) (xs : List X)
    → count_by p (map f xs) ≡ count_by (λ x. p (f x)) xs
count_map p f xs = sym (length-filter p (map f xs)) ∙ (kept_map p f xs ∙ length-filter (λ x. p (f x)) xs)

-- ---- orders

live_still : (state : ℕ) → 1 ≤ state → state ≤ 4 → end_of_state state ≡ None → is_between 1 2 state ≡ true
live_still state low high e =
    elim (cases_eq state 3) [
      | inl three ↦ absurd (let x = ap end_of_state three in cc)
      | inr not_three ↦ elim (cases_eq state 4) [
        | inl four ↦ absurd (let x = ap end_of_state four in cc)
        | inr not_four ↦ between 1 2 state low (omega (arith, low, high, not_three, not_four))
      ]
    ]

module _ (t : OfficeRows) (r : ReaderParts t) (p : OrdersParts t) (c : HasGoodCatalogueRows t) where
  abbrev of_that_day : ℕ → ℤ → OrderRow → Bool
  of_that_day ticket day row = nat_eq row.ticket ticket && int_eq row.day day

  few_that_day : (ticket : ℕ) (day : ℤ) (rows : List OrderRow) → filter (of_that_day ticket day) t.desk.orders ≡ rows
      → length rows ≤ t.office.daily
  few_that_day ticket day [] e = omega arith
  few_that_day ticket day (row ∷ rows) e =
      let i = in_filter (of_that_day ticket day) t.desk.orders row (subst (StandsIn row) (sym e) (inl refl)) in
      let b = and_parts (nat_eq row.ticket ticket) (int_eq row.day day) i.1 in
      let few = (p.orders row i.0).daily in
      let few2 = subst (λ n. count_by (λ (other : OrderRow). nat_eq other.ticket n && int_eq other.day row.day) t.desk.orders ≤ t.office.daily) (eqb-true row.ticket ticket b.0) few in
      let few3 = subst (λ d. count_by (λ (other : OrderRow). nat_eq other.ticket ticket && int_eq other.day d) t.desk.orders ≤ t.office.daily) ((Decides-int_eq row.day day).0 b.1) few2 in
      let count = length-filter (of_that_day ticket day) t.desk.orders in
      let l = ap length e in
      omega (arith, few3, count, l)

  is_live_row : (o : ℕ) (row : OrderRow) → nth t.desk.orders o ≡ Some row → (state_of t).past o ≡ None
      → is_live row ≡ true
  is_live_row o row e past =
      let range = (p.orders row (numbered_in t.desk.orders o row e)).state in
      live_still row.state range.0 range.1 (sym (ap (option_and_then (λ (row : OrderRow). end_of_state row.state)) e) ∙ past)

  pub said_orders : AreGoodOrders (state_of t)
  said_orders =
      let count = length-map t.desk.orders order_from in
      let few = p.few in
      record {
        each = λ o order e. (
            let i = said_by order_from t.desk.orders o order e in
            let parts = p.orders i.0 (numbered_in t.desk.orders o i.0 i.1) in
            subst (IsGoodOrder (state_of t)) (sym i.2) (record { ticket = said_ticket t i.0.ticket r.numbered ∙ parts.ticket; container = said_container t i.0.container c.containers ∙ parts.container; day = parts.day }));
        daily = λ ticket day. (
            let all = count_map (λ (order : Order). nat_eq order.ticket ticket && int_eq order.day day) order_from t.desk.orders in
            let mine = length-filter (of_that_day ticket day) t.desk.orders in
            let few = few_that_day ticket day (filter (of_that_day ticket day) t.desk.orders) refl in
            omega (arith, all, mine, few));
        once = λ o n order other e q past gone ticket container. (
            let i = said_by order_from t.desk.orders o order e in
            let j = said_by order_from t.desk.orders n other q in
            let a : OrderRow = i.0 in
            let b : OrderRow = j.0 in
            let x = is_live_row o a i.1 past in
            let y = is_live_row n b j.1 gone in
            let same_ticket : a.ticket ≡ b.ticket =
            sym (ap (λ (order : Order). order.ticket) i.2) ∙ (ticket ∙ ap (λ (order : Order). order.ticket) j.2) in
            let same_container : a.container ≡ b.container =
            sym (ap (λ (order : Order). order.container) i.2)
            ∙ (container ∙ ap (λ (order : Order). order.container) j.2) in
            let none = none_in (are_twice a) t.desk.orders b (p.orders a (numbered_in t.desk.orders o a i.1)).once (numbered_in t.desk.orders n b j.1) in
            let first = has_number (λ (row : OrderRow). row.id) t.desk.orders o a p.numbered i.1 in
            let second = has_number (λ (row : OrderRow). row.id) t.desk.orders n b p.numbered j.1 in
            elim (cases_Bool (nat_eq a.id b.id)) [
              | inl same ↦ sym first ∙ (eqb-true a.id b.id same ∙ second)
              | inr apart ↦ absurd (false≢true (sym none
                  ∙ and_from (not (nat_eq a.id b.id)) (is_live a && (is_live b && (nat_eq a.ticket b.ticket && nat_eq a.container b.container))) (ap not apart)
                  (and_from (is_live a) (is_live b && (nat_eq a.ticket b.ticket && nat_eq a.container b.container)) x
                  (and_from (is_live b) (nat_eq a.ticket b.ticket && nat_eq a.container b.container) y
                  (and_from (nat_eq a.ticket b.ticket) (nat_eq a.container b.container) (eq-eqb a.ticket b.ticket same_ticket) (eq-eqb a.container b.container same_container))))))
            ]);
        few = omega (arith, count, few);
      }

  pub order_days : AllByRecursion (λ order. IsDayNumber order.day) (state_of t).orders
  order_days =
      all_of_in (λ (order : Order). IsDayNumber order.day) (state_of t).orders (λ order l.
      let i = in_map order_from t.desk.orders order l in
      subst (λ (o : Order). IsDayNumber o.day) (sym i.2) (p.orders i.0 i.1).is_day)

-- ---- places

place_found : (rows : List HoldingRow) (c : ℕ)
    → place_in rows c ≡ unwrap_or (option_map place_from (find (λ (row : HoldingRow). nat_eq row.container c) rows)) Shelf
place_found [] c = refl
place_found (x ∷ xs) c = at (nat_eq x.container c) (place_found xs c)
  where
    at : (b : Bool)
        → place_in xs c ≡ unwrap_or (option_map place_from (find (λ (row : HoldingRow). nat_eq row.container c) xs)) Shelf
        → cond b (place_from x) (place_in xs c) ≡ unwrap_or (option_map place_from (cond b (Some x) (find (λ (row : HoldingRow). nat_eq row.container c) xs))) Shelf
    at true e = refl
    at false e = e

module _ (t : OfficeRows) (k : MeetsDeskKeys t.desk) (q : HoldingParts t) (c : HasGoodCatalogueRows t) where
  holding_known : (row : HoldingRow) → StandsIn row t.desk.holdings → is_container (state_of t) row.container ≡ true
  holding_known row l = said_container t row.container c.containers ∙ q.there row l

  pub said_places : day_is_broken t ≡ false → AreGoodPlaces (state_of t)
  said_places day =
      record {
        known = λ n e. elim (place_cases t.desk.holdings n) [
          | inl s ↦ s
          | inr h ↦ absurd (false≢true (sym e ∙ (ap (is_container (state_of t)) (sym h.for_it) ∙ holding_known h.row h.stands)))
        ];
        holders = λ n o order e is. (
            let s : State = state_of t in
            let there : is_container s n ≡ true = elim (place_cases t.desk.holdings n) [
              | inl shelf ↦ absurd (let x = ap order_out shelf in cc)
              | inr h ↦ ap (is_container s) (sym h.for_it) ∙ holding_known h.row h.stands
            ] in
            let none = none_in (is_held_against_rules s) (containers s) n day (numbers_in (length s.catalogue.containers) n (numbered_from_one s.catalogue.containers n there) (numbered_within s.catalogue.containers n there)) in
            let holder : holder_of s n ≡ Some order.ticket =
            ap (option_and_then (λ o. option_map (λ (order : Order). order.ticket) (nth s.orders o))) e
            ∙ ap (option_map (λ (order : Order). order.ticket)) is in
            let well = not_bad (holds_well s n order.ticket) (sym (ap (some_and (λ ticket. not (holds_well s n ticket))) holder) ∙ none) in
            let a = and_parts (is_seated s order.ticket) (nat_le (held_count s order.ticket) s.settings.hands && opens s order.ticket n) well in
            let b = and_parts (nat_le (held_count s order.ticket) s.settings.hands) (opens s order.ticket n) a.1 in
            record { seated = a.0; few = leb-true (held_count s order.ticket) s.settings.hands b.0; may_see = b.1 });
      }

  shown_again : (n : ℕ) (row : HoldingRow) → row.container ≡ n → HoldingKind t row
      → holding_row n (place_from row) ≡ Some row
  shown_again n row e (AtDesk one none) =
      ap (holding_row n) (place_is_desk row one)
      ∙ (ap (λ m. Some (record { container = m; place = 1; held_by = None })) (sym e)
      ∙ (ap (λ m. Some (record { container = row.container; place = m; held_by = None })) (sym one)
      ∙ ap (λ h. Some (record { container = row.container; place = row.place; held_by = h })) (sym none)))
  shown_again n row e (OutWith o two some x) =
      ap (holding_row n) (place_is_out row o two some)
      ∙ (ap (λ m. Some (record { container = m; place = 2; held_by = Some o })) (sym e)
      ∙ (ap (λ m. Some (record { container = row.container; place = m; held_by = Some o })) (sym two)
      ∙ ap (λ h. Some (record { container = row.container; place = row.place; held_by = h })) (sym some)))

  shown_at : (n : ℕ) (r : Option HoldingRow) → find (λ (row : HoldingRow). nat_eq row.container n) t.desk.holdings ≡ r
      → holding_row n (unwrap_or (option_map place_from r) Shelf) ≡ r
  shown_at n None e = refl
  shown_at n (Some row) e =
      let f = found (λ (row : HoldingRow). nat_eq row.container n) t.desk.holdings row e in
      shown_again n row (eqb-true row.container n f.1) (q.kinds row f.0)

  shown : (n : ℕ)
      → holding_row n (place_in t.desk.holdings n) ≡ find (λ (row : HoldingRow). nat_eq row.container n) t.desk.holdings
  shown n =
      ap (holding_row n) (place_found t.desk.holdings n)
      ∙ shown_at n (find (λ (row : HoldingRow). nat_eq row.container n) t.desk.holdings) refl

  pub holdings_again : holding_rows (state_of t) ≡ t.desk.holdings
  holdings_again =
      let n = length (state_of t).catalogue.containers in
      ap (λ f. filter_map f (numbers_to n)) (fun_ext shown)
      ∙ (ap (filter_map (λ m. find (λ (row : HoldingRow). nat_eq row.container m) t.desk.holdings)) (to_from n)
      ∙ found_all (λ (row : HoldingRow). row.container) 1 n t.desk.holdings k.holdings (λ row l.
      let known = holding_known row l in
      let low = numbered_from_one (state_of t).catalogue.containers row.container known in
      let high = numbered_within (state_of t).catalogue.containers row.container known in
      (low, omega (arith, high))))
