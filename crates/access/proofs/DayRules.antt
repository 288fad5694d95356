-- The rules of the day, told of all containers and told of those that are out.
use Rattle.std.proofs.Common.{◌≡◌, ℕ, ◌+◌, Bool, true, false, not, ◌&&◌, ◌||◌, cond, List, [], ◌∷◌, map, filter_map}
use Rattle.std.proofs.Common.{Option, Some, None, refl, sym, ap, ◌∙◌, zero-add, nat_eq, nat_le, nat_lt, inl, inr}
use Rattle.desk_core.proofs.Counts.{count_cons, count_map}
use Rattle.desk_core.specs.DeskRows.{Desk as Rows}
use Rattle.desk_core.specs.declared.reader.Place.{Place}
use Rattle.desk_core.specs.declared.reader.Place.TheVariants.{Desk, Out, Shelf}
use Rattle.desk_store.specs.Holdings.{issued_by, issued_of}
use Rattle.desk_store.specs.Seats.{taken_seats}
use Rattle.desk_store.specs.declared.taken_seats.TakenSeat.{TakenSeat}
use Rattle.office_core.specs.State.{State}
use Rattle.state_encoding.proofs.DeskLookups.{flipped}
use Rattle.state_encoding.specs.Causes.{holds_well, is_held_against_rules}
use Rattle.refinement.proofs.HeldShown.{same_sum}
use Rattle.refinement.proofs.SeatsShown.{sits_by_row}
use Rattle.access.proofs.Common.{ContainerOrder, Order, SeatRow, Version, any_agree, are_against_rules}
use Rattle.access.proofs.Common.{breaks_day_rules, cases_lt, cons_option, containers, count_by, has_no_row}
use Rattle.access.proofs.Common.{has_too_many, held_count, holding_row, is_against_rules, is_by, is_closed_to}
use Rattle.access.proofs.Common.{is_out_with, is_seated, is_without_seat, le-leb, le-ltb, list_any, list_any-map}
use Rattle.access.proofs.Common.{lt-leb, lt-ltb, nth, number_occurs_more_than, opens, option_and_then, option_map}
use Rattle.access.proofs.Common.{order_out, order_rows, some_and, tables}
use Rattle.access.proofs.Gates.{ticket_is}

-- ---- what is left of a list

module _ {X Y Z : Type 0} (g : X → Option Y) (f : Y → Option Z) where
  filtered_twice : (xs : List X) → filter_map f (filter_map g xs) ≡ filter_map (λ x. option_and_then f (g x)) xs
  filtered_twice [] = refl
  filtered_twice (x ∷ xs) = at (g x) (filtered_twice xs)
    where
      at : (o : Option Y) → filter_map f (filter_map g xs) ≡ filter_map (λ x. option_and_then f (g x)) xs
          → filter_map f (cons_option o (filter_map g xs)) ≡ cons_option (option_and_then f o) (filter_map (λ x. option_and_then f (g x)) xs)
      at None e = e
      at (Some y) e = ap (cons_option (f y)) e

count_agree : {X : Type 0} (p q : X → Bool) (xs : List X) → ((x : X) → p x ≡ q x) → count_by p xs ≡ count_by q xs
count_agree p q xs same = same_sum (λ x. cond (p x) 1 0) (λ x. cond (q x) 1 0) (λ x. ap (λ b. cond b 1 0) (same x)) xs

module _ {X Y : Type 0} where
  filtered_alike : (f g : X → Option Y) → ((x : X) → f x ≡ g x) → (xs : List X) → filter_map f xs ≡ filter_map g xs
  filtered_alike f g same [] = refl
  filtered_alike f g same (x ∷ xs) =
      ap (λ o. cons_option o (filter_map f xs)) (same x) ∙ ap (cons_option (g x)) (filtered_alike f g same xs)

  any_filtered : (p : Y → Bool) (g : X → Option Y) (xs : List X)
      → list_any p (filter_map g xs) ≡ list_any (λ x. some_and p (g x)) xs
  any_filtered p g [] = refl
  any_filtered p g (x ∷ xs) = at (g x) (any_filtered p g xs)
    where
      at : (o : Option Y) → list_any p (filter_map g xs) ≡ list_any (λ x. some_and p (g x)) xs
          → list_any p (cons_option o (filter_map g xs)) ≡ (some_and p o || list_any (λ x. some_and p (g x)) xs)
      at None e = e
      at (Some y) e = ap (λ b. p y || b) e

  count_filtered : (p : Y → Bool) (g : X → Option Y) (xs : List X)
      → count_by p (filter_map g xs) ≡ count_by (λ x. some_and p (g x)) xs
  count_filtered p g [] = refl
  count_filtered p g (x ∷ xs) = at (g x) (count_filtered p g xs) ∙ sym (count_cons (λ x. some_and p (g x)) x xs)
    where
      at : (o : Option Y) → count_by p (filter_map g xs) ≡ count_by (λ x. some_and p (g x)) xs
          → count_by p (cons_option o (filter_map g xs)) ≡ cond (some_and p o) 1 0 + count_by (λ x. some_and p (g x)) xs
      at None e = e ∙ sym (zero-add (count_by (λ x. some_and p (g x)) xs))
      at (Some y) e = count_cons p y (filter_map g xs) ∙ ap (λ n. cond (p y) 1 0 + n) e

pub any_of_both : {X : Type 0} (p q : X → Bool) (xs : List X)
    → list_any (λ x. p x || q x) xs ≡ (list_any p xs || list_any q xs)
any_of_both p q [] = refl
any_of_both p q (x ∷ xs) = ap (λ b. (p x || q x) || b) (any_of_both p q xs) ∙ mix (p x) (q x) (list_any p xs) (list_any q xs)
  where
    mix : (a b c d : Bool) → ((a || b) || (c || d)) ≡ ((a || c) || (b || d))
    mix true b c d = refl
    mix false true true d = refl
    mix false true false d = refl
    mix false false c d = refl

-- ---- those that are out

module _ (s : State) where
  -- with whom a container is, where it is out
  abbrev lent : ℕ → Option ContainerOrder
  lent c = option_and_then (λ o. option_map (λ (order : Order). record { container = c; order = o; ticket = order.ticket }) (nth s.orders o)) (order_out (s.place c))

  row_tells : (version : Version) (c : ℕ)
      → option_and_then (issued_by (order_rows s)) (holding_row c (s.place c)) ≡ lent c
  row_tells version c = at (s.place c)
    where
      named : (o : ℕ) (r : Option Order)
          → option_map (λ t. record { container = c; order = o; ticket = t }) (option_map (λ (order : Order). order.ticket) r)
          ≡ option_map (λ (order : Order). let loan : ContainerOrder = record { container = c; order = o; ticket = order.ticket } in loan) r
      named o None = refl
      named o (Some order) = refl

      at : (p : Place)
          → option_and_then (issued_by (order_rows s)) (holding_row c p) ≡ option_and_then (λ o. option_map (λ (order : Order). record { container = c; order = o; ticket = order.ticket }) (nth s.orders o)) (order_out p)
      at Shelf = refl
      at Desk = refl
      at (Out o) =
          ap (option_map (λ t. record { container = c; order = o; ticket = t })) (ticket_is version s o)
          ∙ named o (nth s.orders o)

  -- the rows tell all that are out
  pub loans_are : (version : Version) → issued_of (tables version s).desk ≡ filter_map lent (containers s)
  loans_are version =
      filtered_twice (λ c. holding_row c (s.place c)) (issued_by (order_rows s)) (containers s)
      ∙ filtered_alike (λ c. option_and_then (issued_by (order_rows s)) (holding_row c (s.place c))) lent (row_tells version) (containers s)

  is_lent_to : (t c : ℕ) → some_and (λ (loan : ContainerOrder). nat_eq t loan.ticket) (lent c) ≡ is_out_with s t c
  is_lent_to t c = at (order_out (s.place c))
    where
      by : (o : ℕ) (r : Option Order)
          → some_and (λ (loan : ContainerOrder). nat_eq t loan.ticket) (option_map (λ (order : Order). record { container = c; order = o; ticket = order.ticket }) r) ≡ some_and (λ (order : Order). nat_eq order.ticket t) r
      by o None = refl
      by o (Some order) = flipped t order.ticket

      at : (p : Option ℕ)
          → some_and (λ (loan : ContainerOrder). nat_eq t loan.ticket) (option_and_then (λ o. option_map (λ (order : Order). record { container = c; order = o; ticket = order.ticket }) (nth s.orders o)) p) ≡ some_and (is_by s t) p
      at None = refl
      at (Some o) = by o (nth s.orders o)

  -- as many of them are with a ticket as it has
  held_is : (version : Version) (t : ℕ)
      → count_by (λ (loan : ContainerOrder). nat_eq t loan.ticket) (issued_of (tables version s).desk) ≡ held_count s t
  held_is version t =
      ap (count_by (λ (loan : ContainerOrder). nat_eq t loan.ticket)) (loans_are version)
      ∙ count_filtered (λ (loan : ContainerOrder). nat_eq t loan.ticket) lent (containers s)
      ∙ count_agree (λ c. some_and (λ (loan : ContainerOrder). nat_eq t loan.ticket) (lent c)) (is_out_with s t) (containers s) (is_lent_to t)

  is_against : (version : Version) (c : ℕ)
      → some_and (is_against_rules s (issued_of (tables version s).desk)) (lent c) ≡ is_held_against_rules s c
  is_against version c = at (order_out (s.place c))
    where
      broken : (a b d e : Bool) → a ≡ not b → (a || (not d || not e)) ≡ not (d && (b && e))
      broken a true true e same = ap (λ x. x || (false || not e)) same
      broken a true false e same = ap (λ x. x || true) same
      broken a false true e same = ap (λ x. x || (false || not e)) same
      broken a false false e same = ap (λ x. x || true) same

      over : (m n : ℕ) → nat_lt m n ≡ not (nat_le n m)
      over m n = elim (cases_lt m n) [
        | inl lt ↦ rw (lt-ltb m n lt, lt-leb n m lt) refl
        | inr le ↦ rw (le-ltb m n le, le-leb n m le) refl
      ]

      by : (o : ℕ) (r : Option Order)
          → some_and (is_against_rules s (issued_of (tables version s).desk)) (option_map (λ (order : Order). record { container = c; order = o; ticket = order.ticket }) r)
          ≡ some_and (λ ticket. not (holds_well s c ticket)) (option_map (λ (order : Order). order.ticket) r)
      by o None = refl
      by o (Some order) =
          let t = order.ticket in
          broken (nat_lt s.settings.hands (count_by (λ (other : ContainerOrder). nat_eq t other.ticket) (issued_of (tables version s).desk))) (nat_le (held_count s t) s.settings.hands) (is_seated s t) (opens s t c)
          (ap (nat_lt s.settings.hands) (held_is version t) ∙ over s.settings.hands (held_count s t))

      at : (p : Option ℕ)
          → some_and (is_against_rules s (issued_of (tables version s).desk)) (option_and_then (λ o. option_map (λ (order : Order). record { container = c; order = o; ticket = order.ticket }) (nth s.orders o)) p)
          ≡ some_and (λ ticket. not (holds_well s c ticket)) (option_and_then (λ o. option_map (λ (order : Order). order.ticket) (nth s.orders o)) p)
      at None = refl
      at (Some o) = by o (nth s.orders o)

  -- a container is out against a rule where one of those that are out is
  pub breaks_is : (version : Version) → breaks_day_rules s ≡ are_against_rules s (issued_of (tables version s).desk)
  breaks_is version =
      let loans = issued_of (tables version s).desk in
      sym (
      ap (list_any (is_against_rules s loans)) (loans_are version)
      ∙ any_filtered (is_against_rules s loans) lent (containers s)
      ∙ any_agree (λ c. some_and (is_against_rules s loans) (lent c)) (is_held_against_rules s) (containers s) (is_against version)
      )

  -- ---- one rule after the other

  pub one_by_one : (loans : List ContainerOrder)
      → are_against_rules s loans ≡ (list_any (has_too_many s.settings.hands loans) loans || (list_any (is_without_seat s) loans || list_any (is_closed_to s) loans))
  one_by_one loans =
      any_of_both (has_too_many s.settings.hands loans) (λ loan. is_without_seat s loan || is_closed_to s loan) loans
      ∙ ap (λ b. list_any (has_too_many s.settings.hands loans) loans || b) (any_of_both (is_without_seat s) (is_closed_to s) loans)

  pub seats_tell : (version : Version) (loans : List ContainerOrder)
      → list_any (has_no_row (tables version s).desk) loans ≡ list_any (is_without_seat s) loans
  seats_tell version loans =
      any_agree (has_no_row (tables version s).desk) (is_without_seat s) loans (λ loan. ap not (sits_by_row loan.ticket 1 s.seats))

-- ---- tickets that stand too often

pub over_is : (hands : ℕ) (loans : List ContainerOrder)
    → number_occurs_more_than hands (map (λ (loan : ContainerOrder). loan.ticket) loans) ≡ list_any (has_too_many hands loans) loans
over_is hands loans =
    let ticket : ContainerOrder → ℕ = λ loan. loan.ticket in
    list_any-map (λ k. nat_lt hands (count_by (nat_eq k) (map ticket loans))) ticket loans
    ∙ any_agree (λ (loan : ContainerOrder). nat_lt hands (count_by (nat_eq loan.ticket) (map ticket loans))) (has_too_many hands loans) loans
    (λ loan. ap (nat_lt hands) (count_map (nat_eq loan.ticket) ticket loans))

-- ---- seats, as they are read

pub lacks_is : (d : Rows) (loans : List ContainerOrder) (taken : List TakenSeat) → taken ≡ taken_seats d
    → list_any (λ (loan : ContainerOrder). not (list_any (λ (seat : TakenSeat). nat_eq loan.ticket seat.ticket) taken)) loans ≡ list_any (has_no_row d) loans
lacks_is d loans taken is =
    any_agree (λ (loan : ContainerOrder). not (list_any (λ (seat : TakenSeat). nat_eq loan.ticket seat.ticket) taken)) (has_no_row d) loans
    (λ loan. ap not (ap (list_any (λ (seat : TakenSeat). nat_eq loan.ticket seat.ticket)) is
    ∙ list_any-map (λ (seat : TakenSeat). nat_eq loan.ticket seat.ticket) (λ (row : SeatRow). record { seat = row.seat; ticket = row.ticket }) d.seats))

-- ---- one rule after the other, as they are told

module _ (version : Version) (s : State) (hands : ℕ) (loans : List ContainerOrder) (many : Bool) (same : hands ≡ s.settings.hands) (first : many ≡ list_any (has_too_many hands loans) loans) where
  in_turn : are_against_rules s loans ≡ (many || (list_any (has_no_row (tables version s).desk) loans || list_any (is_closed_to s) loans))
  in_turn =
      one_by_one s loans
      ∙ ap (λ b. b || (list_any (is_without_seat s) loans || list_any (is_closed_to s) loans)) (ap (λ h. list_any (has_too_many h loans) loans) (sym same) ∙ sym first)
      ∙ ap (λ b. many || (b || list_any (is_closed_to s) loans)) (sym (seats_tell s version loans))

  pub by_hands : many ≡ true → true ≡ are_against_rules s loans
  by_hands it = sym (in_turn ∙ ap (λ b. b || (list_any (has_no_row (tables version s).desk) loans || list_any (is_closed_to s) loans)) it)

  module _ (few : many ≡ false) (seatless : Bool) (second : seatless ≡ list_any (has_no_row (tables version s).desk) loans) where
    then_seats : are_against_rules s loans ≡ (seatless || list_any (is_closed_to s) loans)
    then_seats =
        in_turn ∙ ap (λ b. b || (list_any (has_no_row (tables version s).desk) loans || list_any (is_closed_to s) loans)) few
        ∙ ap (λ b. b || list_any (is_closed_to s) loans) (sym second)

    pub by_seats : seatless ≡ true → true ≡ are_against_rules s loans
    by_seats it = sym (then_seats ∙ ap (λ b. b || list_any (is_closed_to s) loans) it)

    pub by_openness : seatless ≡ false → (closed : Bool) → closed ≡ list_any (is_closed_to s) loans
        → closed ≡ are_against_rules s loans
    by_openness none closed is = is ∙ sym (then_seats ∙ ap (λ b. b || list_any (is_closed_to s) loans) none)
