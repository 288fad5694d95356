-- Orders and places whose rows pass: each order stands where its row says.
use Rattle.std.proofs.Common.{◌≡◌, ◌≢◌, ℕ, ◌<◌, Bool, true, false, not, cond, ◌&&◌, ◌||◌, List, [], ◌∷◌, Option, Some}
use Rattle.std.proofs.Common.{None, refl, sym, ap, ◌∙◌, subst, inl, inr, ◌⊎◌, arith}
use Rattle.std.specs.Prelude.{nat_eq, unwrap_or}
use Rattle.desk_core.specs.declared.reader.Place.TheVariants.{Desk}
use Rattle.office_core.specs.Words.{stands}
use Rattle.state_encoding.proofs.Common.{AreFiled, AreInOrder, Cancelled, Done, End, HoldingRow, IsAscending, IsFiled}
use Rattle.state_encoding.proofs.Common.{IsOutWith, IsPast, IsWaitingFor, MeetsDeskKeys, OfficeRows, OrderRow, Out}
use Rattle.state_encoding.proofs.Common.{Shelf, StandsIn, and_from, and_parts, and_right, are_good_holdings, around}
use Rattle.state_encoding.proofs.Common.{cases_eq, container_of, end_of_state, eqb-true, false_from_ne_true, false≢true}
use Rattle.state_encoding.proofs.Common.{filed_out, filed_past, filed_waiting, filter, has_its_holding, is_at_desk}
use Rattle.state_encoding.proofs.Common.{is_container_there, is_good_holding, is_holding_of, is_none, is_out_for}
use Rattle.state_encoding.proofs.Common.{is_out_order, is_out_well, list_all, list_any, list_any-map, nth}
use Rattle.state_encoding.proofs.Common.{option_and_then, option_map, or_cases, order_from, order_row, order_rows}
use Rattle.state_encoding.proofs.Common.{other_number, past_in, place_from, place_in, same_number, some_and, standing}
use Rattle.state_encoding.proofs.Common.{stands_out, stands_past, stands_waiting, state_number, state_of, waiting_for}
use Rattle.state_encoding.proofs.Members.{all_in, some_in, any_same, test_in}
use Rattle.state_encoding.proofs.NumberedRows.{any_numbered, has_number, by_number, numbered_in, numbered-map}
use Rattle.state_encoding.proofs.NumberedRows.{rows_again}
use Rattle.state_encoding.proofs.DeskLookups.{flipped}
use Rattle.state_encoding.proofs.Grouped.{any_filter, order-filter, order-map}
use Rattle.state_encoding.proofs.DeskParts.{OrdersParts}

-- ---- the place that rows give a container

place_at_row : (rows : List HoldingRow) (r : HoldingRow)
    → AreInOrder (λ (a b : HoldingRow). a.container < b.container) rows → StandsIn r rows
    → place_in rows r.container ≡ place_from r
place_at_row [] r h k = absurd k
place_at_row (x ∷ xs) r h k =
    elim k [
      | inl e ↦ ap (λ b. cond b (place_from x) (place_in xs r.container)) (ap (λ (y : HoldingRow). nat_eq x.container y.container) e ∙ same_number x.container) ∙ ap place_from (sym e)
      | inr l ↦ (
          let less = all_in (λ (y : HoldingRow). x.container < y.container) xs r h.0 l in
          ap (λ b. cond b (place_from x) (place_in xs r.container)) (other_number x.container r.container (λ e. omega (arith, less, e))) ∙ place_at_row xs r h.1 l)
    ]

pub record HoldingAt (rows : List HoldingRow) (c : ℕ) : Type 0 where
  pub row : HoldingRow
  pub stands : StandsIn row rows
  pub for_it : row.container ≡ c
  pub is : place_in rows c ≡ place_from row

pub place_cases : (rows : List HoldingRow) (c : ℕ) → (place_in rows c ≡ Shelf) ⊎ HoldingAt rows c
place_cases [] c = inl refl
place_cases (x ∷ xs) c = at (nat_eq x.container c) refl (place_cases xs c)
  where
    at : (b : Bool) → nat_eq x.container c ≡ b → (place_in xs c ≡ Shelf) ⊎ HoldingAt xs c
        → (place_in (x ∷ xs) c ≡ Shelf) ⊎ HoldingAt (x ∷ xs) c
    at true e r = inr (record { row = x; stands = inl refl; for_it = eqb-true x.container c e; is = ap (λ b. cond b (place_from x) (place_in xs c)) e })
    at false e r =
        elim r [
          | inl s ↦ inl (ap (λ b. cond b (place_from x) (place_in xs c)) e ∙ s)
          | inr h ↦ inr (record { row = h.row; stands = inr h.stands; for_it = h.for_it; is = ap (λ b. cond b (place_from x) (place_in xs c)) e ∙ h.is })
        ]

-- ---- rows of places that pass

-- the row of an order that is out, for that container
pub record OutRow (t : OfficeRows) (o c : ℕ) : Type 0 where
  pub row : OrderRow
  pub is : nth t.desk.orders o ≡ Some row
  pub for_it : row.container ≡ c
  pub out : row.state ≡ 2

pub data HoldingKind (t : OfficeRows) (row : HoldingRow) : Type 0 where
  AtDesk : row.place ≡ 1 → row.held_by ≡ None → HoldingKind t row
  OutWith : (o : ℕ) → row.place ≡ 2 → row.held_by ≡ Some o → OutRow t o row.container → HoldingKind t row

pub record HoldingParts (t : OfficeRows) : Type 0 where
  pub there : (row : HoldingRow) → StandsIn row t.desk.holdings → is_container_there t row.container ≡ true
  pub kinds : (row : HoldingRow) → StandsIn row t.desk.holdings → HoldingKind t row
  pub held : (order : OrderRow) → StandsIn order t.desk.orders → order.state ≡ 2
      → (row : HoldingRow) × StandsIn row t.desk.holdings × (row.container ≡ order.container) × (row.place ≡ 2) × (row.held_by ≡ Some order.id)

is_nothing : (r : Option ℕ) → is_none r ≡ true → r ≡ None
is_nothing None e = refl
is_nothing (Some o) e = absurd (false≢true e)

module _ (t : OfficeRows) (k : MeetsDeskKeys t.desk) (p : OrdersParts t) where
  out_row_at : (o c : ℕ) (r : Option OrderRow) → nth t.desk.orders o ≡ r
      → some_and (λ (row : OrderRow). nat_eq row.container c && nat_eq row.state 2) r ≡ true → OutRow t o c
  out_row_at o c None e h = absurd (false≢true h)
  out_row_at o c (Some row) e h =
      let b = and_parts (nat_eq row.container c) (nat_eq row.state 2) h in
      record { row = row; is = e; for_it = eqb-true row.container c b.0; out = eqb-true row.state 2 b.1 }

  out_kind : (row : HoldingRow) (h : Option ℕ) → row.held_by ≡ h → row.place ≡ 2
      → some_and (λ o. list_any (is_out_order o row.container) t.desk.orders) h ≡ true → HoldingKind t row
  out_kind row None e q h = absurd (false≢true h)
  out_kind row (Some o) e q h =
      OutWith o q e (out_row_at o row.container (nth t.desk.orders o) refl (sym (any_numbered (λ (row : OrderRow). row.id) (λ (order : OrderRow). nat_eq order.container row.container && nat_eq order.state 2) t.desk.orders o p.numbered) ∙ h))

  kind_of : (row : HoldingRow) → (is_at_desk row || is_out_well t.desk row) ≡ true → HoldingKind t row
  kind_of row h =
      elim (or_cases (is_at_desk row) (is_out_well t.desk row) h) [
        | inl e ↦ (let b = and_parts (nat_eq row.place 1) (is_none row.held_by) e in AtDesk (eqb-true row.place 1 b.0) (is_nothing row.held_by b.1))
        | inr e ↦ (
            let b = and_parts (nat_eq row.place 2) (some_and (λ o. list_any (is_out_order o row.container) t.desk.orders) row.held_by) e in
            out_kind row row.held_by refl (eqb-true row.place 2 b.0) b.1)
      ]

  held_by_it : (order : OrderRow) (h : Option ℕ) → some_and (nat_eq order.id) h ≡ true → h ≡ Some order.id
  held_by_it order None e = absurd (false≢true e)
  held_by_it order (Some o) e = ap Some (sym (eqb-true order.id o e))

  pub holding_parts : are_good_holdings (around t) t.desk ≡ true → HoldingParts t
  holding_parts h =
      let a = and_parts (list_all (is_good_holding (around t) t.desk) t.desk.holdings) (list_all (has_its_holding t.desk) t.desk.orders) h in
      record {
        there = λ row l. (and_parts (is_container_there t row.container) (is_at_desk row || is_out_well t.desk row) (test_in (is_good_holding (around t) t.desk) t.desk.holdings row a.0 l)).0;
        kinds = λ row l. kind_of row (and_parts (is_container_there t row.container) (is_at_desk row || is_out_well t.desk row) (test_in (is_good_holding (around t) t.desk) t.desk.holdings row a.0 l)).1;
        held = λ order l two. elim (or_cases (not (nat_eq order.state 2)) (list_any (is_holding_of order) t.desk.holdings) (test_in (has_its_holding t.desk) t.desk.orders order a.1 l)) [
          | inl e ↦ absurd (false≢true (sym (ap (λ n. not (nat_eq n 2)) two) ∙ e))
          | inr e ↦ (
              let i = some_in (is_holding_of order) t.desk.holdings e in
              let row : HoldingRow = i.0 in
              let b = and_parts (nat_eq row.container order.container) (nat_eq row.place 2 && some_and (nat_eq order.id) row.held_by) i.2 in
              let c = and_parts (nat_eq row.place 2) (some_and (nat_eq order.id) row.held_by) b.1 in
              (row, i.1, eqb-true row.container order.container b.0, eqb-true row.place 2 c.0, held_by_it order row.held_by c.1))
        ];
      }

-- ---- where orders stand

pub place_is_out : (row : HoldingRow) (o : ℕ) → row.place ≡ 2 → row.held_by ≡ Some o → place_from row ≡ Out o
place_is_out row o e h =
    ap (λ n. cond (nat_eq n 1) Desk (Out (unwrap_or row.held_by 0))) e ∙ ap (λ r. Out (unwrap_or r 0)) h

pub place_is_desk : (row : HoldingRow) → row.place ≡ 1 → place_from row ≡ Desk
place_is_desk row e = ap (λ n. cond (nat_eq n 1) Desk (Out (unwrap_or row.held_by 0))) e

module _ (t : OfficeRows) (k : MeetsDeskKeys t.desk) (p : OrdersParts t) (q : HoldingParts t) where
  -- who waits

  pub waits_so : (o c : ℕ)
      → stands o ((state_of t).queue c) ≡ some_and (λ (row : OrderRow). nat_eq row.container c && nat_eq row.state 1) (nth t.desk.orders o)
  waits_so o c =
      let w : OrderRow → Bool = λ row. nat_eq row.container c && nat_eq row.state 1 in
      list_any-map (nat_eq o) (λ (row : OrderRow). row.id) (filter w t.desk.orders)
      ∙ (any_filter (λ (row : OrderRow). nat_eq o row.id) w t.desk.orders
      ∙ (any_same (λ row. nat_eq o row.id && w row) (λ row. nat_eq row.id o && w row) t.desk.orders (λ row. ap (λ b. b && w row) (flipped o row.id))
      ∙ any_numbered (λ (row : OrderRow). row.id) w t.desk.orders o p.numbered))

  queue_order : (c : ℕ) → IsAscending ((state_of t).queue c)
  queue_order c =
      ascending (waiting_for c t.desk.orders) (order-map (λ (a b : OrderRow). a.id < b.id) (λ (m n : ℕ). m < n) (λ (row : OrderRow). row.id) (filter (λ (row : OrderRow). nat_eq row.container c && nat_eq row.state 1) t.desk.orders) (λ a b l m h. h) (order-filter (λ (a b : OrderRow). a.id < b.id) (λ (row : OrderRow). nat_eq row.container c && nat_eq row.state 1) t.desk.orders k.orders))
    where
      ascending : (ns : List ℕ) → AreInOrder (λ (m n : ℕ). m < n) ns → IsAscending ns
      ascending [] h = tt
      ascending (n ∷ ns) h = (h.0, ascending ns h.1)

  -- what is out

  pub out_at_place : (o c : ℕ) → is_out_for o ((state_of t).place c) ≡ true → OutRow t o c
  out_at_place o c h =
      elim (place_cases t.desk.holdings c) [
        | inl s ↦ absurd (false≢true (sym (ap (is_out_for o) s) ∙ h))
        | inr r ↦ of_kind r (q.kinds r.row r.stands)
      ]
    where
      of_kind : (r : HoldingAt t.desk.holdings c) → HoldingKind t r.row → OutRow t o c
      of_kind r (AtDesk e n) = absurd (false≢true (sym (ap (is_out_for o) (r.is ∙ place_is_desk r.row e)) ∙ h))
      of_kind r (OutWith other e n x) =
          let same : o ≡ other = eqb-true o other (sym (ap (is_out_for o) (r.is ∙ place_is_out r.row other e n)) ∙ h) in
          record { row = x.row; is = ap (nth t.desk.orders) same ∙ x.is; for_it = x.for_it ∙ r.for_it; out = x.out }

  pub out_of_order : (o : ℕ) (row : OrderRow) → nth t.desk.orders o ≡ Some row → row.state ≡ 2
      → (state_of t).place row.container ≡ Out o
  out_of_order o row e two =
      let h = q.held row (numbered_in t.desk.orders o row e) two in
      ap (place_in t.desk.holdings) (sym h.2)
      ∙ (place_at_row t.desk.holdings h.0 k.holdings h.1
      ∙ (place_is_out h.0 row.id h.3 h.4 ∙ ap Out (has_number (λ (row : OrderRow). row.id) t.desk.orders o row p.numbered e)))

  -- one order

  module _ (o : ℕ) (row : OrderRow) (e : nth t.desk.orders o ≡ Some row) where
    pub for_its : container_of (state_of t) o ≡ Some row.container
    for_its = ap (option_map (λ order. order.container)) (numbered-map order_from t.desk.orders o ∙ ap (option_map order_from) e)

    past_is : past_in t.desk.orders o ≡ end_of_state row.state
    past_is = ap (option_and_then (λ (row : OrderRow). end_of_state row.state)) e

    waits_as : (c : ℕ) → stands o ((state_of t).queue c) ≡ (nat_eq row.container c && nat_eq row.state 1)
    waits_as c = waits_so o c ∙ ap (some_and (λ (row : OrderRow). nat_eq row.container c && nat_eq row.state 1)) e

    out_as : (c : ℕ) → is_out_for o ((state_of t).place c) ≡ true → (row.container ≡ c) × (row.state ≡ 2)
    out_as c h =
        let x = out_at_place o c h in
        let same : Some x.row ≡ Some row = sym x.is ∙ e in
        let s : x.row ≡ row = cc in
        (ap (λ (r : OrderRow). r.container) (sym s) ∙ x.for_it, ap (λ (r : OrderRow). r.state) (sym s) ∙ x.out)

    waits_not : row.state ≢ 1 → (c : ℕ) → stands o ((state_of t).queue c) ≡ false
    waits_not ne c = waits_as c ∙ and_right (nat_eq row.container c) (nat_eq row.state 1) (other_number row.state 1 ne)

    out_not : row.state ≢ 2 → (c : ℕ) → is_out_for o ((state_of t).place c) ≡ false
    out_not ne c = false_from_ne_true (is_out_for o ((state_of t).place c)) (λ h. ne (out_as c h).1)

    pub is_waiting : row.state ≡ 1
        → IsWaitingFor (container_of (state_of t) o) (λ c. stands o ((state_of t).queue c)) (λ c. is_out_for o ((state_of t).place c)) ((state_of t).past o) row.container
    is_waiting s =
        record {
          for_it = for_its;
          in_queue = waits_as row.container ∙ and_from (nat_eq row.container row.container) (nat_eq row.state 1) (same_number row.container) (ap (λ n. nat_eq n 1) s);
          in_no_other = λ c ne. waits_as c ∙ ap (λ b. b && nat_eq row.state 1) (other_number row.container c (λ same. ne (sym same)));
          in_no_place = out_not (λ two. omega (arith, s, two));
          not_past = past_is ∙ ap end_of_state s;
        }

    pub is_out_with : row.state ≡ 2
        → IsOutWith (container_of (state_of t) o) (λ c. stands o ((state_of t).queue c)) (λ c. is_out_for o ((state_of t).place c)) ((state_of t).past o) row.container
    is_out_with s =
        record {
          for_it = for_its;
          in_place = ap (is_out_for o) (out_of_order o row e s) ∙ same_number o;
          in_no_other = λ c ne. false_from_ne_true (is_out_for o ((state_of t).place c)) (λ h. ne (sym (out_as c h).0));
          in_no_queue = waits_not (λ one. omega (arith, s, one));
          not_past = past_is ∙ ap end_of_state s;
        }

    pub is_past : (how : End) → row.state ≢ 1 → row.state ≢ 2 → end_of_state row.state ≡ Some how
        → IsPast (container_of (state_of t) o) (λ c. stands o ((state_of t).queue c)) (λ c. is_out_for o ((state_of t).place c)) ((state_of t).past o) row.container how
    is_past how one two s =
        record {
          for_it = for_its;
          in_no_queue = waits_not one;
          in_no_place = out_not two;
          is_past = past_is ∙ s;
        }

    filed_row : IsFiled (container_of (state_of t) o) (λ c. stands o ((state_of t).queue c)) (λ c. is_out_for o ((state_of t).place c)) ((state_of t).past o)
    filed_row =
        let k = container_of (state_of t) o in
        let w : ℕ → Bool = λ c. stands o ((state_of t).queue c) in
        let h : ℕ → Bool = λ c. is_out_for o ((state_of t).place c) in
        let past = (state_of t).past o in
        let range = (p.orders row (numbered_in t.desk.orders o row e)).state in
        let low = range.0 in
        let high = range.1 in
        elim (cases_eq row.state 1) [
          | inl one ↦ filed_waiting k w h past row.container (is_waiting one)
          | inr not_one ↦ elim (cases_eq row.state 2) [
            | inl two ↦ filed_out k w h past row.container (is_out_with two)
            | inr not_two ↦ elim (cases_eq row.state 3) [
              | inl three ↦ filed_past k w h past row.container Done (is_past Done not_one not_two (ap end_of_state three))
              | inr not_three ↦ filed_past k w h past row.container Cancelled (is_past Cancelled not_one not_two (let four : row.state ≡ 4 = omega (arith, low, high, not_one, not_two, not_three) in ap end_of_state four))
            ]
          ]
        ]

    standing_row : state_number (standing (state_of t) o) ≡ row.state
    standing_row =
        let k = container_of (state_of t) o in
        let w : ℕ → Bool = λ c. stands o ((state_of t).queue c) in
        let h : ℕ → Bool = λ c. is_out_for o ((state_of t).place c) in
        let past = (state_of t).past o in
        let range = (p.orders row (numbered_in t.desk.orders o row e)).state in
        let low = range.0 in
        let high = range.1 in
        elim (cases_eq row.state 1) [
          | inl one ↦ ap state_number (stands_waiting k w h past row.container for_its (is_waiting one).in_queue) ∙ sym one
          | inr not_one ↦ elim (cases_eq row.state 2) [
            | inl two ↦ ap state_number (stands_out k w h past row.container (is_out_with two)) ∙ sym two
            | inr not_two ↦ elim (cases_eq row.state 3) [
              | inl three ↦ ap state_number (stands_past k w h past row.container Done (is_past Done not_one not_two (ap end_of_state three))) ∙ sym three
              | inr not_three ↦ (let four : row.state ≡ 4 = omega (arith, low, high, not_one, not_two, not_three) in ap state_number (stands_past k w h past row.container Cancelled (is_past Cancelled not_one not_two (ap end_of_state four))) ∙ sym four)
            ]
          ]
        ]

  -- all of them

  filed_at : (o : ℕ) (r : Option OrderRow) → nth t.desk.orders o ≡ r
      → IsFiled (container_of (state_of t) o) (λ c. stands o ((state_of t).queue c)) (λ c. is_out_for o ((state_of t).place c)) ((state_of t).past o)
  filed_at o (Some row) e = filed_row o row e
  filed_at o None e =
      let none : container_of (state_of t) o ≡ None =
      ap (option_map (λ order. order.container)) (numbered-map order_from t.desk.orders o ∙ ap (option_map order_from) e) in
      subst (λ k. IsFiled k (λ c. stands o ((state_of t).queue c)) (λ c. is_out_for o ((state_of t).place c)) ((state_of t).past o)) (sym none) (
        λ c. waits_so o c ∙ ap (some_and (λ (row : OrderRow). nat_eq row.container c && nat_eq row.state 1)) e,
        λ c. false_from_ne_true (is_out_for o ((state_of t).place c)) (λ h. (let x = out_at_place o c h in let is = x.is in absurd (cc))),
        ap (option_and_then (λ (row : OrderRow). end_of_state row.state)) e,
      )

  pub said_filed : AreFiled (state_of t)
  said_filed = record { each = λ o. filed_at o (nth t.desk.orders o) refl; queues = queue_order }

  pub orders_again : order_rows (state_of t) ≡ t.desk.orders
  orders_again =
      rows_again (order_row (state_of t)) (λ (row : OrderRow). row.id) order_from 1 t.desk.orders p.numbered (λ row l.
      ap (λ n. record { id = row.id; ticket = row.ticket; container = row.container; day = row.day; state = n }) (standing_row row.id row (by_number (λ (row : OrderRow). row.id) t.desk.orders row p.numbered l)))
