-- What the rows of the seats tell: who sits where, and which seat is free.
use Rattle.std.proofs.Common.{◌≡◌, ℕ, suc, ◌+◌, ◌<◌, ◌≤◌, pos, Bool, true, false, not, cond, ◌||◌, nat_eq, List, []}
use Rattle.std.proofs.Common.{◌∷◌, length, map, filter, Option, Some, None, inl, inr, refl, sym, ap, subst, ◌∙◌, arith}
use Rattle.office_tables.proofs.numbered.Counted.{below_less}
use Rattle.office_tables.specs.OrderedInsertion.{put_by}
use Rattle.desk_store.specs.Seats.{seated}
use Rattle.refinement.proofs.Common.{SeatRow, SitOnce, cases_Bool, eqb-true, find, free_seat, is_none, is_seat_of}
use Rattle.refinement.proofs.Common.{is_some, is_some-map, list_any, nat_tests, option_map, or_parts, place_of}
use Rattle.refinement.proofs.Common.{range_with_len, rise, same_number, seat_rows_from, sit}
use Rattle.refinement.proofs.HoldingRows.{greater}

abbrev number_of : SeatRow → ℕ
number_of s = s.seat

-- ---- places, counted on from a number

from_zero : (o : Option ℕ) → option_map (λ k. 0 + k) o ≡ o
from_zero None = refl
from_zero (Some k) = let e : 0 + k ≡ k = omega arith in ap Some e

one_further : (n : ℕ) (o : Option ℕ) → option_map (λ k. suc n + k) o ≡ option_map (λ k. n + k) (option_map suc o)
one_further n None = refl
one_further n (Some k) = let e : suc n + k ≡ n + suc k = omega arith in ap Some e

pub some_placed : {X : Type 0} (test : X → Bool) (xs : List X) → is_some (place_of test xs) ≡ list_any test xs
some_placed test [] = refl
some_placed test (x ∷ xs) = at (test x) (is_some-map suc (place_of test xs) ∙ some_placed test xs)
  where
    at : (b : Bool) → is_some (option_map suc (place_of test xs)) ≡ list_any test xs
        → is_some (cond b (Some 1) (option_map suc (place_of test xs))) ≡ (b || list_any test xs)
    at true e = refl
    at false e = e

next_place : (o : Option ℕ) (k : ℕ) → option_map suc o ≡ Some k → (j : ℕ) × (o ≡ Some j) × (k ≡ suc j)
next_place None k e = absurd (cc)
next_place (Some j) k e = let same : suc j ≡ k = cc in (j, refl, sym same)

from_one : {X : Type 0} (test : X → Bool) (xs : List X) (k : ℕ) → place_of test xs ≡ Some k → 1 ≤ k
from_one test [] k e = absurd (cc)
from_one test (x ∷ xs) k e = at (test x) e
  where
    at : (b : Bool) → cond b (Some 1) (option_map suc (place_of test xs)) ≡ Some k → 1 ≤ k
    at true e = let same : 1 ≡ k = cc in omega (arith, same)
    at false e = let next = (next_place (place_of test xs) k e).2 in omega (arith, next)

-- ---- who sits where

module _ (t : ℕ) where
  seat_found : (n : ℕ) (seats : List (Option ℕ))
      → option_map number_of (find (λ (s : SeatRow). nat_eq t s.ticket) (seat_rows_from (suc n) seats)) ≡ option_map (λ k. n + k) (place_of (is_seat_of t) seats)
  seat_found n [] = refl
  seat_found n (None ∷ seats) = seat_found (suc n) seats ∙ one_further n (place_of (is_seat_of t) seats)
  seat_found n (Some u ∷ seats) =
      at (nat_eq t u) (seat_found (suc n) seats ∙ one_further n (place_of (is_seat_of t) seats))
    where
      at : (b : Bool)
          → option_map number_of (find (λ (s : SeatRow). nat_eq t s.ticket) (seat_rows_from (suc (suc n)) seats)) ≡ option_map (λ k. n + k) (option_map suc (place_of (is_seat_of t) seats))
          → option_map number_of (cond b (Some (let r : SeatRow = record { seat = suc n; ticket = u } in r)) (find (λ (s : SeatRow). nat_eq t s.ticket) (seat_rows_from (suc (suc n)) seats)))
          ≡ option_map (λ k. n + k) (cond b (Some 1) (option_map suc (place_of (is_seat_of t) seats)))
      at true rest = let e : suc n ≡ n + 1 = omega arith in ap Some e
      at false rest = rest

  -- the row of a ticket names its seat
  pub seat_is : (seats : List (Option ℕ))
      → option_map number_of (find (λ (s : SeatRow). nat_eq t s.ticket) (seat_rows_from 1 seats)) ≡ place_of (is_seat_of t) seats
  seat_is seats = seat_found 0 seats ∙ from_zero (place_of (is_seat_of t) seats)

  -- a ticket has a row exactly where it sits
  pub sits_by_row : (n : ℕ) (seats : List (Option ℕ))
      → list_any (λ (s : SeatRow). nat_eq t s.ticket) (seat_rows_from n seats) ≡ list_any (is_seat_of t) seats
  sits_by_row n [] = refl
  sits_by_row n (None ∷ seats) = sits_by_row (suc n) seats
  sits_by_row n (Some u ∷ seats) = ap (λ b. nat_eq t u || b) (sits_by_row (suc n) seats)

-- ---- the rows are by number

none_below : (n k : ℕ) (seats : List (Option ℕ)) → k < n
    → list_any (nat_eq k) (map number_of (seat_rows_from n seats)) ≡ false
none_below n k [] less = refl
none_below n k (None ∷ seats) less = none_below (suc n) k seats (omega (arith, less))
none_below n k (Some u ∷ seats) less =
    let apart : nat_eq k n ≡ false = grind (arith, nat_tests, less) in
    rw apart (none_below (suc n) k seats (omega (arith, less)))

kept_above : (n k : ℕ) (seats : List (Option ℕ)) → k < n
    → filter (λ (s : SeatRow). not (nat_eq k s.seat)) (seat_rows_from n seats) ≡ seat_rows_from n seats
kept_above n k [] less = refl
kept_above n k (None ∷ seats) less = kept_above (suc n) k seats (omega (arith, less))
kept_above n k (Some u ∷ seats) less =
    let apart : nat_eq k n ≡ false = grind (arith, nat_tests, less) in
    rw apart (ap (λ rows. (let r : SeatRow = record { seat = n; ticket = u } in r) ∷ rows) (kept_above (suc n) k seats (omega (arith, less))))

put_first : (n : ℕ) (x : SeatRow) (seats : List (Option ℕ)) → x.seat < n
    → put_by (λ (s : SeatRow). pos s.seat) x (seat_rows_from n seats) ≡ x ∷ seat_rows_from n seats
put_first n x [] less = refl
put_first n x (None ∷ seats) less = put_first (suc n) x seats (omega (arith, less))
put_first n x (Some u ∷ seats) less = rw (greater n x.seat less) refl

-- ---- the least seat that is free

module _ (taken : List ℕ) where
  free_found : (n : ℕ) (seats : List (Option ℕ))
      → ((k : ℕ) → n < k → list_any (nat_eq k) taken ≡ list_any (nat_eq k) (map number_of (seat_rows_from (suc n) seats)))
      → find (λ seat. not (list_any (nat_eq seat) taken)) (range_with_len (suc n) (length seats)) ≡ option_map (λ k. n + k) (place_of is_none seats)
  free_found n [] same = refl
  free_found n (None ∷ seats) same =
      let free = same (suc n) (omega arith) ∙ none_below (suc (suc n)) (suc n) seats (omega arith) in
      let e : suc n ≡ n + 1 = omega arith in
      rw free (ap Some e)
  free_found n (Some u ∷ seats) same =
      let here : list_any (nat_eq (suc n)) taken ≡ true =
      same (suc n) (omega arith)
      ∙ ap (λ b. b || list_any (nat_eq (suc n)) (map number_of (seat_rows_from (suc (suc n)) seats))) (same_number (suc n)) in
      let e : suc (suc n) ≡ suc n + 1 = omega arith in
      let rest = free_found (suc n) seats (λ k less.
      let apart : nat_eq k (suc n) ≡ false = grind (arith, nat_tests, less) in
      same k (omega (arith, less)) ∙ ap (λ b. b || list_any (nat_eq k) (map number_of (seat_rows_from (suc (suc n)) seats))) apart) in
      rw here (subst (λ m. find (λ seat. not (list_any (nat_eq seat) taken)) (range_with_len m (length seats)) ≡ option_map (λ k. n + k) (option_map suc (place_of is_none seats))) e (rest ∙ one_further n (place_of is_none seats)))

pub free_is : (taken : List ℕ) (seats : List (Option ℕ))
    → ((k : ℕ) → list_any (nat_eq k) taken ≡ list_any (nat_eq k) (map number_of (seat_rows_from 1 seats)))
    → free_seat taken (length seats) ≡ place_of is_none seats
free_is taken seats same = free_found taken 0 seats (λ k less. same k) ∙ from_zero (place_of is_none seats)

-- nobody sits on a free seat
free_from : (n k : ℕ) (seats : List (Option ℕ)) → place_of is_none seats ≡ Some k
    → list_any (λ (s : SeatRow). nat_eq (n + k) s.seat) (seat_rows_from (suc n) seats) ≡ false
free_from n k [] e = absurd (cc)
free_from n k (None ∷ seats) e = let same : 1 ≡ k = cc in none_seat (suc (suc n)) (n + k) seats (omega (arith, same))
  where
    none_seat : (n k : ℕ) (seats : List (Option ℕ)) → k < n
        → list_any (λ (s : SeatRow). nat_eq k s.seat) (seat_rows_from n seats) ≡ false
    none_seat n k [] less = refl
    none_seat n k (None ∷ seats) less = none_seat (suc n) k seats (omega (arith, less))
    none_seat n k (Some u ∷ seats) less =
        let apart : nat_eq k n ≡ false = grind (arith, nat_tests, less) in
        rw apart (none_seat (suc n) k seats (omega (arith, less)))
free_from n k (Some u ∷ seats) e =
    let next = next_place (place_of is_none seats) k e in
    let is = next.2 in
    let least = from_one is_none seats next.0 next.1 in
    let apart : nat_eq (n + k) (suc n) ≡ false = grind (arith, nat_tests, is, least) in
    let there : suc n + next.0 ≡ n + k = omega (arith, is) in
    rw apart (subst (λ m. list_any (λ (s : SeatRow). nat_eq m s.seat) (seat_rows_from (suc (suc n)) seats) ≡ false) there (free_from (suc n) next.0 seats next.1))

pub is_free : (k : ℕ) (seats : List (Option ℕ)) → place_of is_none seats ≡ Some k
    → list_any (λ (s : SeatRow). nat_eq k s.seat) (seat_rows_from 1 seats) ≡ false
is_free k seats e = let same : 0 + k ≡ k = omega arith in subst (λ m. list_any (λ (s : SeatRow). nat_eq m s.seat) (seat_rows_from 1 seats) ≡ false) same (free_from 0 k seats e)

-- ---- a ticket takes a seat, and leaves it

module _ (t : ℕ) where
  sat_from : (n k : ℕ) (seats : List (Option ℕ)) → place_of is_none seats ≡ Some k
      → seat_rows_from (suc n) (sit t seats) ≡ seated (n + k) (Some t) (seat_rows_from (suc n) seats)
  sat_from n k [] e = absurd (cc)
  sat_from n k (None ∷ seats) e =
      let same : 1 ≡ k = cc in
      let at : suc n ≡ n + k = omega (arith, same) in
      subst (λ m. (let r : SeatRow = record { seat = suc n; ticket = t } in r) ∷ seat_rows_from (suc (suc n)) seats ≡ seated m (Some t) (seat_rows_from (suc (suc n)) seats)) at
      (sym (put_first (suc (suc n)) (record { seat = suc n; ticket = t }) seats (omega arith)))
  sat_from n k (Some u ∷ seats) e =
      let next = next_place (place_of is_none seats) k e in
      let is = next.2 in
      let least = from_one is_none seats next.0 next.1 in
      let there : suc n + next.0 ≡ n + k = omega (arith, is) in
      rw (below_less (suc n) (n + k) (omega (arith, is, least)))
      (ap (λ rows. (let r : SeatRow = record { seat = suc n; ticket = u } in r) ∷ rows) (subst (λ m. seat_rows_from (suc (suc n)) (sit t seats) ≡ seated m (Some t) (seat_rows_from (suc (suc n)) seats)) there (sat_from (suc n) next.0 seats next.1)))

  pub sat : (k : ℕ) (seats : List (Option ℕ)) → place_of is_none seats ≡ Some k
      → seat_rows_from 1 (sit t seats) ≡ seated k (Some t) (seat_rows_from 1 seats)
  sat k seats e = let same : 0 + k ≡ k = omega arith in subst (λ m. seat_rows_from 1 (sit t seats) ≡ seated m (Some t) (seat_rows_from 1 seats)) same (sat_from 0 k seats e)

  stays : (seats : List (Option ℕ)) → list_any (is_seat_of t) seats ≡ false → rise t seats ≡ seats
  stays [] none = refl
  stays (None ∷ seats) none = ap (λ l. None ∷ l) (stays seats none)
  stays (Some u ∷ seats) none =
      let parts = or_parts (nat_eq t u) (list_any (is_seat_of t) seats) none in
      rw parts.0 (ap (λ l. Some u ∷ l) (stays seats parts.1))

  risen_from : (n k : ℕ) (seats : List (Option ℕ)) → SitOnce seats → place_of (is_seat_of t) seats ≡ Some k
      → seat_rows_from (suc n) (rise t seats) ≡ seated (n + k) None (seat_rows_from (suc n) seats)
  risen_from n k [] once e = absurd (cc)
  risen_from n k (None ∷ seats) once e =
      let next = next_place (place_of (is_seat_of t) seats) k e in
      let is = next.2 in
      let there : suc n + next.0 ≡ n + k = omega (arith, is) in
      subst (λ m. seat_rows_from (suc (suc n)) (rise t seats) ≡ seated m None (seat_rows_from (suc (suc n)) seats)) there (risen_from (suc n) next.0 seats once next.1)
  risen_from n k (Some u ∷ seats) once e = elim (cases_Bool (nat_eq t u)) [
    | inl here ↦
        let first : Some 1 ≡ Some k =
        sym (ap (λ b. cond b (Some 1) (option_map suc (place_of (is_seat_of t) seats))) here) ∙ e in
        let one : 1 ≡ k = cc in
        let at : nat_eq (n + k) (suc n) ≡ true = grind (arith, nat_tests, one) in
        let mine = eqb-true t u here in
        let alone = stays seats (subst (λ v. list_any (is_seat_of v) seats ≡ false) (sym mine) once.0) in
        rw (here, at) (ap (seat_rows_from (suc (suc n))) alone ∙ sym (kept_above (suc (suc n)) (n + k) seats (omega (arith, one))))
    | inr apart ↦
        let further : option_map suc (place_of (is_seat_of t) seats) ≡ Some k =
        sym (ap (λ b. cond b (Some 1) (option_map suc (place_of (is_seat_of t) seats))) apart) ∙ e in
        let next = next_place (place_of (is_seat_of t) seats) k further in
        let is = next.2 in
        let least = from_one (is_seat_of t) seats next.0 next.1 in
        let not_here : nat_eq (n + k) (suc n) ≡ false = grind (arith, nat_tests, is, least) in
        let there : suc n + next.0 ≡ n + k = omega (arith, is) in
        rw (apart, not_here) (ap (λ rows. (let r : SeatRow = record { seat = suc n; ticket = u } in r) ∷ rows) (subst (λ m. seat_rows_from (suc (suc n)) (rise t seats) ≡ seated m None (seat_rows_from (suc (suc n)) seats)) there (risen_from (suc n) next.0 seats once.1 next.1)))
  ]

  pub risen : (k : ℕ) (seats : List (Option ℕ)) → SitOnce seats → place_of (is_seat_of t) seats ≡ Some k
      → seat_rows_from 1 (rise t seats) ≡ seated k None (seat_rows_from 1 seats)
  risen k seats once e = let same : 0 + k ≡ k = omega arith in subst (λ m. seat_rows_from 1 (rise t seats) ≡ seated m None (seat_rows_from 1 seats)) same (risen_from 0 k seats once e)
