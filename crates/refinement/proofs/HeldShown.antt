-- How many containers are out with a ticket: its orders that are out, in the rows.
use Rattle.std.proofs.Common.{◌≡◌, ℕ, zero, suc, ◌+◌, ◌<◌, ◌≤◌, Bool, true, false, cond, ◌&&◌, nat_eq, List, [], ◌∷◌}
use Rattle.std.proofs.Common.{length, Option, Some, None, inl, inr, refl, sym, ap, subst, ◌∙◌, arith}
use Rattle.std.proofs.Math.Bool.{and-false}
use Rattle.std.proofs.lemmas.List.Sums.{sum_by-cons, sum_by_push}
use Rattle.desk_core.specs.declared.reader.Place.TheVariants.{Desk}
use Rattle.office_core.proofs.Counts.{numbered_from_one}
use Rattle.office_core.proofs.Filed.{out_with}
use Rattle.office_core.proofs.OrderLaws.{out_stands, stands_out}
use Rattle.office_core.proofs.Orders.{out_is}
use Rattle.office_core.proofs.Places.{out_known}
use Rattle.office_core.specs.State.{Done, State}
use Rattle.refinement.proofs.Common.{Cancelled, Ended, IsSoundOffice, Order, OrderRow, Out, Place, Shelf, Standing}
use Rattle.refinement.proofs.Common.{Version, Waiting, WithItsReader, cases_Bool, cases_eq, container_of, containers}
use Rattle.refinement.proofs.Common.{count_by, false≢true, flipped, held_count, held_with, is_by, is_container}
use Rattle.refinement.proofs.Common.{is_out_for, is_out_with, is_some, nth, numbered_within, numbers_from, numbers_to}
use Rattle.refinement.proofs.Common.{order_out, order_row, other_number, rows_from, same_number, slice_get, some_and}
use Rattle.refinement.proofs.Common.{standing, stands, state_number, sum_by, tables, to_from}

abbrev bit : Bool → ℕ
bit b = cond b 1 0

-- ---- sums

pub same_sum : {X : Type 0} (f g : X → ℕ) → ((x : X) → f x ≡ g x) → (xs : List X) → sum_by f xs ≡ sum_by g xs
same_sum f g same [] = refl
same_sum f g same (x ∷ xs) =
    sum_by-cons f x xs ∙ ap (λ n. n + sum_by f xs) (same x) ∙ ap (λ n. g x + n) (same_sum f g same xs)
    ∙ sym (sum_by-cons g x xs)

sum_none : {X : Type 0} (f : X → ℕ) → ((x : X) → f x ≡ 0) → (xs : List X) → sum_by f xs ≡ 0
sum_none f none [] = refl
sum_none f none (x ∷ xs) = let a = sum_by-cons f x xs in let b = none x in let c = sum_none f none xs in omega (arith, a, b, c)

sum_both : {X : Type 0} (f g : X → ℕ) (xs : List X) → sum_by (λ x. f x + g x) xs ≡ sum_by f xs + sum_by g xs
sum_both f g [] = refl
sum_both f g (x ∷ xs) =
    let a = sum_by-cons (λ x. f x + g x) x xs in
    let b = sum_by-cons f x xs in
    let c = sum_by-cons g x xs in
    let rest = sum_both f g xs in
    omega (arith, a, b, c, rest)

swapped : {X Y : Type 0} (f : X → Y → ℕ) (xs : List X) (ys : List Y)
    → sum_by (λ x. sum_by (f x) ys) xs ≡ sum_by (λ y. sum_by (λ x. f x y) xs) ys
swapped f [] ys = sym (sum_none (λ y. 0) (λ y. refl) ys)
swapped f (x ∷ xs) ys =
    sum_by-cons (λ x. sum_by (f x) ys) x xs ∙ ap (λ n. sum_by (f x) ys + n) (swapped f xs ys)
    ∙ sym (sum_both (f x) (λ y. sum_by (λ x. f x y) xs) ys)
    ∙ same_sum (λ y. f x y + sum_by (λ x. f x y) xs) (λ y. sum_by (λ x. f x y) (x ∷ xs)) (λ y. sym (sum_by-cons (λ x. f x y) x xs)) ys

-- ---- one number among the first ones

none_yet : (k n : ℕ) → n < k → sum_by (λ m. bit (nat_eq m k)) (numbers_to n) ≡ 0
none_yet k zero less = refl
none_yet k (suc n) less =
    let a = sum_by_push (λ m. bit (nat_eq m k)) (numbers_to n) (suc n) in
    let b = none_yet k n (omega (arith, less)) in
    let c = ap bit (other_number (suc n) k (λ e. omega (arith, e, less))) in
    omega (arith, a, b, c)

just_one : (k n : ℕ) → 1 ≤ k → k ≤ n → sum_by (λ m. bit (nat_eq m k)) (numbers_to n) ≡ 1
just_one k zero low high = absurd (omega (arith, low, high))
just_one k (suc n) low high =
    let a = sum_by_push (λ m. bit (nat_eq m k)) (numbers_to n) (suc n) in
    elim (cases_eq k (suc n)) [
      | inl last ↦
          let b = none_yet k n (omega (arith, last)) in
          let c = ap bit (ap (nat_eq (suc n)) last ∙ same_number (suc n)) in
          omega (arith, a, b, c)
      | inr ne ↦
          let b = just_one k n low (omega (arith, high, ne)) in
          let c = ap bit (other_number (suc n) k (λ e. ne (sym e))) in
          omega (arith, a, b, c)
    ]

-- ---- rows, and their numbers

module _ {X R : Type 0} (row : ℕ → X → R) (p : R → Bool) (all : List X) where
  abbrev at_number : ℕ → Bool
  at_number n = some_and (λ x. p (row n x)) (nth all n)

  counted_from : (m : ℕ) (xs : List X) → ((j : ℕ) → nth all (suc m + j) ≡ slice_get xs j)
      → count_by p (rows_from row (suc m) xs) ≡ count_by at_number (numbers_from (suc m) (length xs))
  counted_from m [] are = refl
  counted_from m (x ∷ xs) are =
      let first : nth all (suc m) ≡ Some x = (let e : suc m ≡ suc m + 0 = omega arith in ap (nth all) e) ∙ are 0 in
      let rest = counted_from (suc m) xs (λ j. (let e : suc (suc m) + j ≡ suc m + suc j = omega arith in ap (nth all) e) ∙ are (suc j)) in
      sum_by-cons (λ r. bit (p r)) (row (suc m) x) (rows_from row (suc (suc m)) xs)
      ∙ ap (λ n. bit (p (row (suc m) x)) + n) rest
      ∙ ap (λ o. bit (some_and (λ x. p (row (suc m) x)) o) + count_by at_number (numbers_from (suc (suc m)) (length xs))) (sym first)
      ∙ sym (sum_by-cons (λ n. bit (at_number n)) (suc m) (numbers_from (suc (suc m)) (length xs)))

  pub counted_by_number : count_by p (rows_from row 1 all) ≡ count_by at_number (numbers_to (length all))
  counted_by_number =
      counted_from 0 all (λ j. let e : 1 + j ≡ suc j = omega arith in ap (nth all) e)
      ∙ ap (count_by at_number) (sym (to_from (length all)))

-- ---- containers that are out, and orders that are

state_two : (x : Option Standing) → nat_eq (state_number x) 2 ≡ true → x ≡ Some WithItsReader
state_two None e = absurd (false≢true e)
state_two (Some Waiting) e = absurd (false≢true e)
state_two (Some WithItsReader) e = refl
state_two (Some (Ended Done)) e = absurd (false≢true e)
state_two (Some (Ended Cancelled)) e = absurd (false≢true e)

by_number : (t : ℕ) (b : Bool) (o : Option Order)
    → some_and (λ (order : Order). nat_eq t order.ticket && b) o ≡ (b && some_and (λ (order : Order). nat_eq order.ticket t) o)
by_number t true None = refl
by_number t false None = refl
by_number t true (Some order) = and_true (nat_eq t order.ticket) ∙ flipped t order.ticket
  where
    and_true : (b : Bool) → (b && true) ≡ b
    and_true true = refl
    and_true false = refl
by_number t false (Some order) = and-false (nat_eq t order.ticket)

module _ (s : State) (sound : IsSoundOffice s) (t : ℕ) where
  -- the container is out with that order, and the order is the ticket's
  abbrev holds : ℕ → ℕ → Bool
  holds c o = is_out_for o (s.place c) && is_by s t o

  abbrev is_out_now : ℕ → Bool
  is_out_now o = nat_eq (state_number (standing s o)) 2

  by_an_order : (o : ℕ) → is_by s t o ≡ true → is_some (nth s.orders o) ≡ true
  by_an_order o h = at (nth s.orders o) h
    where
      at : (r : Option Order) → some_and (λ (order : Order). nat_eq order.ticket t) r ≡ true → is_some r ≡ true
      at None h = absurd (false≢true h)
      at (Some order) h = refl

  -- of one container

  by_its_order : (k : ℕ)
      → sum_by (λ o. bit (nat_eq o k && is_by s t o)) (numbers_to (length s.orders)) ≡ bit (is_by s t k)
  by_its_order k = elim (cases_Bool (is_by s t k)) [
    | inl mine ↦
        same_sum (λ o. bit (nat_eq o k && is_by s t o)) (λ o. bit (nat_eq o k)) (λ o. ap bit (at_mine mine o)) (numbers_to (length s.orders))
        ∙ just_one k (length s.orders) (numbered_from_one s.orders k (by_an_order k mine)) (numbered_within s.orders k (by_an_order k mine))
        ∙ sym (ap bit mine)
    | inr other ↦ sum_none (λ o. bit (nat_eq o k && is_by s t o)) (λ o. ap bit (at_other other o)) (numbers_to (length s.orders)) ∙ sym (ap bit other)
  ]
    where
      at_mine : is_by s t k ≡ true → (o : ℕ) → (nat_eq o k && is_by s t o) ≡ nat_eq o k
      at_mine mine o = elim (cases_eq o k) [
        | inl e ↦ subst (λ n. (nat_eq n k && is_by s t n) ≡ nat_eq n k) (sym e) (rw (same_number k) mine)
        | inr ne ↦ rw (other_number o k ne) refl
      ]

      at_other : is_by s t k ≡ false → (o : ℕ) → (nat_eq o k && is_by s t o) ≡ false
      at_other other o = elim (cases_eq o k) [
        | inl e ↦ subst (λ n. (nat_eq n k && is_by s t n) ≡ false) (sym e) (rw (same_number k) other)
        | inr ne ↦ rw (other_number o k ne) refl
      ]

  of_container : (c : ℕ) → sum_by (λ o. bit (holds c o)) (numbers_to (length s.orders)) ≡ bit (is_out_with s t c)
  of_container c = at (s.place c)
    where
      at : (p : Place)
          → sum_by (λ o. bit (is_out_for o p && is_by s t o)) (numbers_to (length s.orders)) ≡ bit (some_and (is_by s t) (order_out p))
      at Shelf = sum_none (λ o. 0) (λ o. refl) (numbers_to (length s.orders))
      at Desk = sum_none (λ o. 0) (λ o. refl) (numbers_to (length s.orders))
      at (Out k) = by_its_order k

  -- of one order

  of_order : (o : ℕ) → sum_by (λ c. bit (holds c o)) (containers s) ≡ bit (is_out_now o && is_by s t o)
  of_order o = elim (cases_Bool (is_out_now o)) [
    | inl out ↦
        let filed = sound.sound.desk.filed in
        let at = out_stands (container_of s o) (λ k. stands o (s.queue k)) (λ k. is_out_for o (s.place k)) (s.past o) (state_two (standing s o) out) in
        let c = at.0 in
        let alone = out_with (container_of s o) (λ k. stands o (s.queue k)) (λ k. is_out_for o (s.place k)) (s.past o) c (filed.each o) at.2 in
        let there : is_container s c ≡ true =
        out_known s c o filed sound.sound.desk.orders (out_is o (s.place c) at.2) in
        let only : (k : ℕ) → is_out_for o (s.place k) ≡ nat_eq k c =
        λ k. elim (cases_eq k c) [
          | inl e ↦ subst (λ n. is_out_for o (s.place n) ≡ nat_eq n c) (sym e) (at.2 ∙ sym (same_number c))
          | inr ne ↦ alone.in_no_other k ne ∙ sym (other_number k c ne)
        ] in
        same_sum (λ c. bit (holds c o)) (λ k. bit (nat_eq k c && is_by s t o)) (λ k. ap (λ b. bit (b && is_by s t o)) (only k)) (containers s)
        ∙ once (is_by s t o) c (numbered_from_one s.catalogue.containers c there) (numbered_within s.catalogue.containers c there)
        ∙ sym (ap (λ b. bit (b && is_by s t o)) out)
    | inr not ↦
        sum_none (λ c. bit (holds c o)) (λ c. ap (λ b. bit (b && is_by s t o)) (nowhere not c)) (containers s)
        ∙ sym (ap (λ b. bit (b && is_by s t o)) not)
  ]
    where
      once : (b : Bool) (c : ℕ) → 1 ≤ c → c ≤ length s.catalogue.containers
          → sum_by (λ k. bit (nat_eq k c && b)) (containers s) ≡ bit b
      once true c low high =
          same_sum (λ k. bit (nat_eq k c && true)) (λ k. bit (nat_eq k c)) (λ k. ap bit (and_true (nat_eq k c))) (containers s)
          ∙ just_one c (length s.catalogue.containers) low high
        where
          and_true : (b : Bool) → (b && true) ≡ b
          and_true true = refl
          and_true false = refl
      once false c low high = sum_none (λ k. bit (nat_eq k c && false)) (λ k. ap bit (and-false (nat_eq k c))) (containers s)

      nowhere : is_out_now o ≡ false → (c : ℕ) → is_out_for o (s.place c) ≡ false
      nowhere not c = elim (cases_Bool (is_out_for o (s.place c))) [
        | inl h ↦
            let w = out_with (container_of s o) (λ k. stands o (s.queue k)) (λ k. is_out_for o (s.place k)) (s.past o) c (sound.sound.desk.filed.each o) h in
            let it = stands_out (container_of s o) (λ k. stands o (s.queue k)) (λ k. is_out_for o (s.place k)) (s.past o) c w in
            absurd (false≢true (sym not ∙ ap (λ st. nat_eq (state_number st) 2) it))
        | inr h ↦ h
      ]

  -- the ticket's orders that are out are as many as the containers that are out with it
  pub held_shown : (version : Version) → held_with t (tables version s).desk ≡ held_count s t
  held_shown version =
      counted_by_number (order_row s) (λ (row : OrderRow). nat_eq t row.ticket && nat_eq row.state 2) s.orders
      ∙ same_sum (λ o. bit (some_and (λ (order : Order). nat_eq t order.ticket && is_out_now o) (nth s.orders o))) (λ o. bit (is_out_now o && is_by s t o)) (λ o. ap bit (by_number t (is_out_now o) (nth s.orders o))) (numbers_to (length s.orders))
      ∙ same_sum (λ o. bit (is_out_now o && is_by s t o)) (λ o. sum_by (λ c. bit (holds c o)) (containers s)) (λ o. sym (of_order o)) (numbers_to (length s.orders))
      ∙ sym (swapped (λ c o. bit (holds c o)) (containers s) (numbers_to (length s.orders)))
      ∙ same_sum (λ c. sum_by (λ o. bit (holds c o)) (numbers_to (length s.orders))) (λ c. bit (is_out_with s t c)) of_container (containers s)
