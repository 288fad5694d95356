-- What the desk's commands do to the rows of orders, and what the rows say.
use Rattle.std.proofs.Common.{◌≡◌, ◌≢◌, ℕ, zero, suc, ◌+◌, ◌<◌, ◌≤◌, Bool, true, false, cond, ◌&&◌, ◌||◌, List, [], ◌∷◌}
use Rattle.std.proofs.Common.{length, Option, Some, None, Ok, refl, sym, ap, ◌∙◌, subst, inl, inr, arith}
use Rattle.std.specs.Prelude.{nat_eq, map, filter_map, unwrap_or}
use Rattle.desk_core.specs.declared.reader.Place.TheVariants.{Desk}
use Rattle.office_core.proofs.PassedChecks.{passed_issue}
use Rattle.office_core.proofs.Steps.{step_at}
use Rattle.office_core.specs.Words.{stands}
use Rattle.office_core.specs.declared.command.Command.TheVariants as command
use Rattle.office_core.specs.declared.done.Done.TheVariants as done
use Rattle.state_encoding.proofs.Common.{AllByRecursion, AreFiled, AreGoodPlaces, Cancelled, Done, End, Ended}
use Rattle.state_encoding.proofs.Common.{ExactlyOne, HoldingRow, IsAscending, IsFiled, IsSoundDesk, OneRowChanges}
use Rattle.state_encoding.proofs.Common.{OnlyMoves, Order, OrderRow, Out, Place, ReadsBack, Reply, Shelf, Standing}
use Rattle.state_encoding.proofs.Common.{State, Waiting, WithItsReader, and_parts, below_none, cases_Bool, cases_eq}
use Rattle.state_encoding.proofs.Common.{cons_option, container_of, containers, end_of_state, eqb-true, false≢true}
use Rattle.state_encoding.proofs.Common.{filter, first, fun_ext, goes_same, holding_row, holding_rows, is_by, is_desk}
use Rattle.state_encoding.proofs.Common.{is_issued, is_out_for, is_some, issued, no_order, none_to, nth}
use Rattle.state_encoding.proofs.Common.{numbered_from_one, numbered_within, numbers_to, only_issues, option_and_then}
use Rattle.state_encoding.proofs.Common.{option_map, or_cases, order_from, order_row, order_rows, other_number, past_in}
use Rattle.state_encoding.proofs.Common.{place_in, reader_from, reader_row, rows_from, same_number, slice_get, some_and}
use Rattle.state_encoding.proofs.Common.{standing, stands_as, stands_out, stands_waiting, state_number, step, waiting}
use Rattle.state_encoding.proofs.Common.{waiting_for, waiting_stands, with_state}

-- where one order moves, one row changes

row_at : (s t : State) (o : ℕ) → OnlyMoves s t o → (n : ℕ) (order : Order)
    → order_row t n order ≡ cond (nat_eq n o) (record (order_row s n order) { state = state_number (standing t o) }) (order_row s n order)
row_at s t o m n order = at (nat_eq n o) refl
  where
    at : (b : Bool) → nat_eq n o ≡ b
        → order_row t n order ≡ cond b (record (order_row s n order) { state = state_number (standing t o) }) (order_row s n order)
    at true e = ap (λ k. record { id = n; ticket = order.ticket; container = order.container; day = order.day; state = state_number (standing t k) }) (eqb-true n o e)
    at false e =
        let ne : n ≢ o = λ same. false≢true (sym e ∙ (ap (λ k. nat_eq k o) same ∙ same_number o)) in
        ap (λ x. record { id = n; ticket = order.ticket; container = order.container; day = order.day; state = state_number x })
        (goes_same s t n (m.orders n ne) (m.queues n ne) (m.places n ne) (m.past n ne))

rows_moved_from : (s t : State) (o : ℕ) → OnlyMoves s t o → (n : ℕ) (orders : List Order)
    → rows_from (order_row t) n orders ≡ with_state o (state_number (standing t o)) (rows_from (order_row s) n orders)
rows_moved_from s t o m n [] = refl
rows_moved_from s t o m n (x ∷ xs) =
    ap (λ row. row ∷ rows_from (order_row t) (suc n) xs) (row_at s t o m n x)
    ∙ ap (λ rows. cond (nat_eq n o) (record (order_row s n x) { state = state_number (standing t o) }) (order_row s n x) ∷ rows) (rows_moved_from s t o m (suc n) xs)

pub rows_moved : (s t : State) (o : ℕ) → OnlyMoves s t o → t.orders ≡ s.orders
    → order_rows t ≡ with_state o (state_number (standing t o)) (order_rows s)
rows_moved s t o m e = ap (rows_from (order_row t) 1) e ∙ rows_moved_from s t o m 1 s.orders

-- Order adds a row

-- The queue is what the rows say

-- two ascending lists of the same numbers are one
same_ascending : (ms ns : List ℕ) → IsAscending ms → IsAscending ns → ((k : ℕ) → stands k ms ≡ stands k ns) → ms ≡ ns
same_ascending [] [] a b h = refl
same_ascending [] (n ∷ ns) a b h = absurd (false≢true (h n ∙ ap (λ x. x || stands n ns) (same_number n)))
same_ascending (m ∷ ms) [] a b h = absurd (false≢true (sym (h m) ∙ ap (λ x. x || stands m ms) (same_number m)))
same_ascending (m ∷ ms) (n ∷ ns) a b h =
    let same = heads in
    ap (λ k. k ∷ ms) same ∙ ap (λ l. n ∷ l) (same_ascending ms ns a.1 b.1 (λ k. rest k same))
  where
    in_tail : (x y : ℕ) (ys : List ℕ) → AllByRecursion (λ k. y < k) ys → stands x (y ∷ ys) ≡ true → y ≤ x
    in_tail x y ys l e = elim (or_cases (nat_eq x y) (stands x ys) e) [ inl k ↦ (let q = eqb-true x y k in omega (arith, q)) | inr k ↦ past x y ys l k ]
      where
        past : (x y : ℕ) (ys : List ℕ) → AllByRecursion (λ k. y < k) ys → stands x ys ≡ true → y ≤ x
        past x y [] l k = absurd (false≢true k)
        past x y (z ∷ zs) l k = elim (or_cases (nat_eq x z) (stands x zs) k) [ inl q ↦ (let e = eqb-true x z q in let lt = l.0 in omega (arith, e, lt)) | inr q ↦ past x y zs l.1 q ]

    heads : m ≡ n
    heads =
        let x = in_tail m n ns b.0 (sym (h m) ∙ ap (λ x. x || stands m ms) (same_number m)) in
        let y = in_tail n m ms a.0 (h n ∙ ap (λ x. x || stands n ns) (same_number n)) in
        omega (arith, x, y)

    rest : (k : ℕ) → m ≡ n → stands k ms ≡ stands k ns
    rest k same =
        elim (cases_eq k m) [
          | inl e ↦ ap (λ j. stands j ms) e ∙ (below_none m ms a.0 ∙ sym (ap (λ j. stands j ns) (e ∙ same) ∙ below_none n ns b.0))
          | inr ne ↦ sym (ap (λ x. x || stands k ms) (other_number k m ne)) ∙ (h k ∙ ap (λ x. x || stands k ns) (other_number k n (λ e. ne (e ∙ sym same))))
        ]

-- what the rows from n on say of k
said : State → ℕ → ℕ → List Order → List ℕ
said s c n orders = waiting_for c (rows_from (order_row s) n orders)

row_waits : State → ℕ → ℕ → Order → Bool
row_waits s c n order = nat_eq order.container c && nat_eq (state_number (standing s n)) 1

keep : (b : Bool) (row : OrderRow) (rows : List OrderRow)
    → map (λ row. row.id) (cond b (row ∷ rows) rows) ≡ cond b (row.id ∷ map (λ row. row.id) rows) (map (λ row. row.id) rows)
keep true row rows = refl
keep false row rows = refl

said_from : (s : State) (c n : ℕ) (orders : List Order)
    → (AllByRecursion (λ k. n ≤ k) (said s c n orders)) × IsAscending (said s c n orders)
unfolding said
said_from s c n [] = (tt, tt)
said_from s c n (x ∷ xs) =
    let r = said_from s c (suc n) xs in
    let b = nat_eq x.container c && nat_eq (state_number (standing s n)) 1 in
    let P : List ℕ → Type 0 = λ ks. AllByRecursion (λ k. n ≤ k) ks × IsAscending ks in
    subst P (sym (keep b (order_row s n x) (filter (λ row. nat_eq row.container c && nat_eq row.state 1) (rows_from (order_row s) (suc n) xs)))) (at b (waiting_for c (rows_from (order_row s) (suc n) xs)) r.0 r.1)
  where
    weaker : (ks : List ℕ) → AllByRecursion (λ k. suc n ≤ k) ks → AllByRecursion (λ k. n ≤ k) ks
    weaker [] h = tt
    weaker (k ∷ ks) h = (let l = h.0 in omega (arith, l), weaker ks h.1)

    strict : (ks : List ℕ) → AllByRecursion (λ k. suc n ≤ k) ks → AllByRecursion (λ k. n < k) ks
    strict [] h = tt
    strict (k ∷ ks) h = (h.0, strict ks h.1)

    at : (b : Bool) (ks : List ℕ) → AllByRecursion (λ k. suc n ≤ k) ks → IsAscending ks
        → AllByRecursion (λ k. n ≤ k) (cond b (n ∷ ks) ks) × IsAscending (cond b (n ∷ ks) ks)
    at true ks h a = ((omega arith, weaker ks h), (strict ks h, a))
    at false ks h a = (weaker ks h, a)

at_first : (n : ℕ) (rest : List ℕ) (b : Bool) → AllByRecursion (λ k. n < k) rest → stands n (cond b (n ∷ rest) rest) ≡ b
at_first n rest true h = ap (λ x. x || stands n rest) (same_number n)
at_first n rest false h = below_none n rest h

past_first : (k n : ℕ) (rest : List ℕ) (b : Bool) → k ≢ n → stands k (cond b (n ∷ rest) rest) ≡ stands k rest
past_first k n rest true ne = ap (λ x. x || stands k rest) (other_number k n ne)
past_first k n rest false ne = refl

said_stands : (s : State) (c n : ℕ) (orders : List Order) (j : ℕ)
    → stands (n + j) (said s c n orders) ≡ some_and (row_waits s c (n + j)) (slice_get orders j)
unfolding said row_waits
said_stands s c n [] j = refl
said_stands s c n (x ∷ xs) zero =
    let e : n + 0 ≡ n = omega arith in
    let b = nat_eq x.container c && nat_eq (state_number (standing s n)) 1 in
    let rows = filter (λ row. nat_eq row.container c && nat_eq row.state 1) (rows_from (order_row s) (suc n) xs) in
    subst (λ k. stands k (said s c n (x ∷ xs)) ≡ (nat_eq x.container c && nat_eq (state_number (standing s k)) 1)) (sym e)
    (ap (stands n) (keep b (order_row s n x) rows) ∙ at_first n (map (λ row. row.id) rows) b (said_from s c (suc n) xs).0)
said_stands s c n (x ∷ xs) (suc j) =
    let e : suc n + j ≡ n + suc j = omega arith in
    let ne : n + suc j ≢ n = omega arith in
    let b = nat_eq x.container c && nat_eq (state_number (standing s n)) 1 in
    let rows = filter (λ row. nat_eq row.container c && nat_eq row.state 1) (rows_from (order_row s) (suc n) xs) in
    ap (stands (n + suc j)) (keep b (order_row s n x) rows)
    ∙ past_first (n + suc j) n (map (λ row. row.id) rows) b ne
    ∙ subst (λ k. stands k (said s c (suc n) xs) ≡ some_and (λ order. nat_eq order.container c && nat_eq (state_number (standing s k)) 1) (slice_get xs j)) e (said_stands s c (suc n) xs j)

state_one : (x : Option Standing) → nat_eq (state_number x) 1 ≡ true → x ≡ Some Waiting
state_one None e = absurd (false≢true e)
state_one (Some Waiting) e = refl
state_one (Some WithItsReader) e = absurd (false≢true e)
state_one (Some (Ended Done)) e = absurd (false≢true e)
state_one (Some (Ended Cancelled)) e = absurd (false≢true e)

same_Bool : (a b : Bool) → (a ≡ true → b ≡ true) → (b ≡ true → a ≡ true) → a ≡ b
same_Bool true true f g = refl
same_Bool true false f g = sym (f refl)
same_Bool false true f g = g refl
same_Bool false false f g = refl

both : (a b : Bool) → a ≡ true → b ≡ true → (a && b) ≡ true
both true b e f = f
both false b e f = absurd (false≢true e)

queue_row : (s : State) (c k : ℕ) (r : Option Order) → AreFiled s → nth s.orders k ≡ r
    → some_and (row_waits s c k) r ≡ stands k (s.queue c)
unfolding row_waits
queue_row s c k None f e = same_Bool false (stands k (s.queue c)) (λ h. absurd (false≢true h))
    (λ w.
    let x = waiting (container_of s k) (λ c. stands k (s.queue c)) (λ c. is_out_for k (s.place c)) (s.past k) c (f.each k) w in
    let none = ap (option_map (λ order. order.container)) e in
    let it = x.for_it in
    absurd (cc))
queue_row s c k (Some order) f e =
    let here : container_of s k ≡ Some order.container = ap (option_map (λ order. order.container)) e in
    same_Bool (nat_eq order.container c && nat_eq (state_number (standing s k)) 1) (stands k (s.queue c))
    (λ h.
    let p = and_parts (nat_eq order.container c) (nat_eq (state_number (standing s k)) 1) h in
    let a = waiting_stands (container_of s k) (λ c. stands k (s.queue c)) (λ c. is_out_for k (s.place c)) (s.past k) (state_one (standing s k) p.1) in
    let q = eqb-true order.container c p.0 in
    let there = a.1 in
    let same : a.0 ≡ c = cc in
    subst (λ m. stands k (s.queue m) ≡ true) same a.2)
    (λ w.
    let x = waiting (container_of s k) (λ c. stands k (s.queue c)) (λ c. is_out_for k (s.place c)) (s.past k) c (f.each k) w in
    let it = x.for_it in
    let same : order.container ≡ c = cc in
    let st = stands_waiting (container_of s k) (λ c. stands k (s.queue c)) (λ c. is_out_for k (s.place c)) (s.past k) c it w in
    both (nat_eq order.container c) (nat_eq (state_number (standing s k)) 1) (ap (λ m. nat_eq m c) same ∙ same_number c) (ap (λ x. nat_eq (state_number x) 1) st))

-- the queue is the waiting rows by number
pub queue_is : (s : State) → AreFiled s → (c : ℕ) → waiting_for c (order_rows s) ≡ s.queue c
unfolding said
queue_is s f c =
    let a = said_from s c 1 s.orders in
    same_ascending (waiting_for c (order_rows s)) (s.queue c) a.1 (f.queues c) at
  where
    none_at_zero : (ks : List ℕ) → AllByRecursion (λ k. 1 ≤ k) ks → stands 0 ks ≡ false
    none_at_zero ks h = below_none 0 ks h

    at : (k : ℕ) → stands k (waiting_for c (order_rows s)) ≡ stands k (s.queue c)
    at zero = none_at_zero (waiting_for c (order_rows s)) (said_from s c 1 s.orders).0 ∙ sym ((f.each 0).0 c)
    at (suc j) =
        let e : 1 + j ≡ suc j = omega arith in
        subst (λ k. stands k (said s c 1 s.orders) ≡ some_and (row_waits s c k) (slice_get s.orders j)) e (said_stands s c 1 s.orders j)
        ∙ queue_row s c (suc j) (nth s.orders (suc j)) f refl

-- The places and the past

-- the row of n, where it is c's
own_row : (c n : ℕ) (rows : List HoldingRow) (p : Place) → nat_eq n c ≡ true → (p ≡ Shelf → place_in rows c ≡ Shelf)
    → place_in (cons_option (holding_row n p) rows) c ≡ p
own_row c n rows Shelf e h = h refl
own_row c n rows Desk e h = ap (λ b. cond b Desk (place_in rows c)) e
own_row c n rows (Out o) e h = ap (λ b. cond b (Out o) (place_in rows c)) e

other_row : (c n : ℕ) (rows : List HoldingRow) (p : Place) → nat_eq n c ≡ false
    → place_in (cons_option (holding_row n p) rows) c ≡ place_in rows c
other_row c n rows Shelf e = refl
other_row c n rows Desk e = ap (λ b. cond b Desk (place_in rows c)) e
other_row c n rows (Out o) e = ap (λ b. cond b (Out o) (place_in rows c)) e

if_shelf : (b : Bool) (p : Place) → p ≡ Shelf → cond b p Shelf ≡ Shelf
if_shelf true p e = e
if_shelf false p e = refl

place_among : (place : ℕ → Place) (c : ℕ) (ns : List ℕ)
    → place_in (filter_map (λ n. holding_row n (place n)) ns) c ≡ cond (stands c ns) (place c) Shelf
place_among place c [] = refl
place_among place c (n ∷ ns) =
    let rows = filter_map (λ n. holding_row n (place n)) ns in
    let ih = place_among place c ns in
    elim (cases_eq c n) [
      | inl same ↦
          own_row c n rows (place n) (ap (nat_eq n) same ∙ same_number n) (λ e. ih ∙ if_shelf (stands c ns) (place c) (ap place same ∙ e))
          ∙ sym (ap (λ b. cond (b || stands c ns) (place c) Shelf) (ap (λ m. nat_eq m n) same ∙ same_number n) ∙ ap place same)
      | inr ne ↦ other_row c n rows (place n) (other_number n c (λ k. ne (sym k))) ∙ (ih ∙ sym (ap (λ b. cond (b || stands c ns) (place c) Shelf) (other_number c n ne)))
    ]

stands_to : (n c : ℕ) → 1 ≤ c → c ≤ n → stands c (numbers_to n) ≡ true
stands_to n c l h = elim (cases_Bool (stands c (numbers_to n))) [ inl e ↦ e | inr e ↦ absurd (false≢true (sym (none_to (nat_eq c) n c e l h) ∙ same_number c)) ]

place_there : (s : State) (c : ℕ) (b : Bool) → is_some (nth s.catalogue.containers c) ≡ b → AreGoodPlaces s
    → cond (stands c (containers s)) (s.place c) Shelf ≡ s.place c
place_there s c true e g =
    ap (λ b. cond b (s.place c) Shelf) (stands_to (length s.catalogue.containers) c (numbered_from_one s.catalogue.containers c e) (numbered_within s.catalogue.containers c e))
place_there s c false e g = if_shelf (stands c (containers s)) (s.place c) (g.known c e) ∙ sym (g.known c e)

place_is : (s : State) → AreGoodPlaces s → (c : ℕ) → place_in (holding_rows s) c ≡ s.place c
place_is s g c = place_among s.place c (containers s) ∙ place_there s c (is_some (nth s.catalogue.containers c)) refl g

rows_get : {X Y : Type 0} (row : ℕ → X → Y) (n : ℕ) (xs : List X) (j : ℕ)
    → slice_get (rows_from row n xs) j ≡ option_map (row (n + j)) (slice_get xs j)
rows_get row n [] j = refl
rows_get row n (x ∷ xs) zero = let e : n ≡ n + 0 = omega arith in ap (λ k. Some (row k x)) e
rows_get row n (x ∷ xs) (suc j) = let e : suc n + j ≡ n + suc j = omega arith in rows_get row (suc n) xs j ∙ ap (λ k. option_map (row k) (slice_get xs j)) e

end_at : (a b : Bool) (p : Option End) → ExactlyOne a b (is_some p)
    → end_of_state (state_number (cond a (Some Waiting) (cond b (Some WithItsReader) (option_map Ended p)))) ≡ p
end_at true false None x = refl
end_at false true None x = refl
end_at false false (Some Done) x = refl
end_at false false (Some Cancelled) x = refl
end_at true false (Some p) x = absurd x
end_at true true None x = absurd x
end_at true true (Some p) x = absurd x
end_at false true (Some p) x = absurd x
end_at false false None x = absurd x

end_is : (k : Option ℕ) (w h : ℕ → Bool) (p : Option End) (c : ℕ) → k ≡ Some c → IsFiled k w h p
    → end_of_state (state_number (stands_as k w h p)) ≡ p
end_is k w h p c e f = let g = subst (λ k. IsFiled k w h p) e f in ap (λ k. end_of_state (state_number (stands_as k w h p))) e ∙ end_at (w c) (h c) p g.0

past_row : (s : State) (o : ℕ) (r : Option Order) → AreFiled s → nth s.orders o ≡ r
    → option_and_then (λ row. end_of_state row.state) (option_map (order_row s o) r) ≡ s.past o
past_row s o None f e =
    let none = ap (option_map (λ order. order.container)) e in
    sym (no_order (container_of s o) (λ c. stands o (s.queue c)) (λ c. is_out_for o (s.place c)) (s.past o) none (f.each o)).2
past_row s o (Some order) f e =
    end_is (container_of s o) (λ c. stands o (s.queue c)) (λ c. is_out_for o (s.place c)) (s.past o) order.container (ap (option_map (λ order. order.container)) e) (f.each o)

past_is : (s : State) → AreFiled s → (o : ℕ) → past_in (order_rows s) o ≡ s.past o
past_is s f zero = past_row s zero None f refl
past_is s f (suc j) =
    let e : 1 + j ≡ suc j = omega arith in
    ap (option_and_then (λ row. end_of_state row.state)) (rows_get (order_row s) 1 s.orders j ∙ ap (λ k. option_map (order_row s k) (slice_get s.orders j)) e)
    ∙ past_row s (suc j) (nth s.orders (suc j)) f refl

pub rows_back : {X Y : Type 0} (row : ℕ → X → Y) (back : Y → X) → ((n : ℕ) (x : X) → back (row n x) ≡ x)
    → (n : ℕ) (xs : List X) → map back (rows_from row n xs) ≡ xs
rows_back row back h n [] = refl
rows_back row back h n (x ∷ xs) =
    ap (λ y. y ∷ map back (rows_from row (suc n) xs)) (h n x) ∙ ap (λ l. x ∷ l) (rows_back row back h (suc n) xs)

-- the rows of a sound desk say so
pub reads_back : (s : State) → IsSoundDesk s → ReadsBack s
reads_back s g = record { readers = rows_back reader_row reader_from (λ n x. refl) 1 s.readers; orders = rows_back (order_row s) order_from (λ n x. refl) 1 s.orders; places = fun_ext (place_is s g.places); queues = fun_ext (queue_is s g.filed); past = fun_ext (past_is s g.filed) }

-- An accepted Issue

abbrev reply_of : ℕ → Reply
reply_of o = Ok (done.Issue o)

issue_rows_at : (s : State) (c t o : ℕ) (q : List ℕ) → s.queue c ≡ q → is_desk (s.place c) ≡ true
    → some_and (is_by s t) (first q) ≡ true → AreFiled s → Ok (done.Issue (unwrap_or (first q) 0)) ≡ reply_of o
    → order_rows (issued s c q) ≡ with_state o 2 (order_rows s)
issue_rows_at s c t o [] e d b f r = absurd (false≢true b)
issue_rows_at s c t o (p ∷ os) e d b f r =
    let same : p ≡ o = cc in
    let u = issued s c (p ∷ os) in
    let l = stands_out (container_of u p) (λ k. stands p (u.queue k)) (λ k. is_out_for p (u.place k)) (u.past p) c (is_issued s c p os e f) in
    rows_moved s u p (only_issues s c p os e d) refl
    ∙ ap (λ x. with_state p (state_number x) (order_rows s)) l
    ∙ ap (λ n. with_state n 2 (order_rows s)) same

pub issue_rows : (s : State) (c t o : ℕ) → AreFiled s → (step s (command.Issue c t)).1 ≡ Ok (done.Issue o)
    → order_rows (step s (command.Issue c t)).0 ≡ with_state o 2 (order_rows s)
issue_rows s c t o f =
    step_at (λ u reply. reply ≡ Ok (done.Issue o) → order_rows u ≡ with_state o 2 (order_rows s)) s (command.Issue c t)
    (λ why r. absurd (cc))
    (λ ok r. issue_rows_at s c t o (s.queue c) refl (passed_issue s c t ok).at_desk (passed_issue s c t ok).first_waits f r)

pub one_row_changes : (s : State) → IsSoundDesk s → OneRowChanges s
one_row_changes s g = record { issue = λ c t o. issue_rows s c t o g.filed }
