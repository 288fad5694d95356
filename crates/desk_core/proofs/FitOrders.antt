-- Orders as they are judged from the values at hand.
use Rattle.std.proofs.Common.{◌≡◌, ℕ, ◌+◌, ◌<◌, ◌≤◌, Bool, true, false, not, ◌&&◌, ◌||◌, List, map, filter, length}
use Rattle.std.proofs.Common.{refl, sym, ap, ◌∙◌, inl, inr, arith, nat_eq, nat_le, nat_lt}
use Rattle.std.proofs.lemmas.Bool.{eq-eqb, lt-ltb}
use Rattle.std.proofs.lemmas.Cmp.{int_eq_equiv}
use Rattle.std.specs.declared.cmp.Ordering.{Ordering}
use Rattle.desk_core.specs.DeskCauses as causes
use Rattle.desk_core.specs.DeskRows as desk
use Rattle.desk_core.specs.KeyCounts.{key_count, key_occurs_more_than}
use Rattle.desk_core.proofs.Common.{Around, Equal, Greater, In, Less, OrderRow, Surrounds, and_left, and_parts}
use Rattle.desk_core.proofs.Common.{and_right, any_none, are_numbered_from, asking, asking_cmp, cases_Bool, cases_lt}
use Rattle.desk_core.proofs.Common.{cases_order, count_by, eqb_comm, int_cmp, int_eq, int_le, is_between, is_day_number}
use Rattle.desk_core.proofs.Common.{is_eq, is_fit_order, le-leb, le-ltb, length-map, list_all, list_all-map, list_any}
use Rattle.desk_core.proofs.Common.{list_any-map, lt-leb, most_orders, nat_cmp, ne_eqb, not-false, order_record}
use Rattle.desk_core.proofs.Common.{ordering_then, placing, placing_cmp, waits_or_is_out}
use Rattle.desk_core.proofs.Counts.{any_count, count_agree, count_filter, count_map, count_split}
use Rattle.desk_core.proofs.NumberedRows.{numbered_map, once}
use Rattle.desk_core.proofs.Tests.{all_agree, all_and, all_filter, and_same, and_then, any_agree_in, not_any, not_over}
use Rattle.desk_core.proofs.FitReaders.{registered}

-- ---- keys that compare equal

nat_same : (x y : ℕ) → is_eq (nat_cmp x y) ≡ nat_eq x y
nat_same x y = elim (cases_order x y) [
  | inl e ↦ let le : y ≤ x = omega arith in rw (le-ltb x y le, eq-eqb x y e) refl
  | inr n ↦ elim n [
    | inl lt ↦ rw (ne_eqb x y (λ e. absurd (omega arith)), lt-ltb x y lt) refl
    | inr gt ↦ let le : y ≤ x = omega arith in rw (ne_eqb x y (λ e. absurd (omega arith)), le-ltb x y le) refl
  ]
]

then_same : (o q : Ordering) → is_eq (ordering_then o q) ≡ (is_eq o && is_eq q)
then_same Less q = refl
then_same Equal q = refl
then_same Greater q = refl

-- ---- a key that stands too often, told from the rows

rows_over : {K : Type 0} (cmp : K → K → Ordering) (key : OrderRow → K) (most : ℕ) (rows : List OrderRow)
    → not (key_occurs_more_than cmp most (map key rows)) ≡ list_all (λ row. nat_le (count_by (λ other. is_eq (cmp (key row) (key other))) rows) most) rows
rows_over cmp key most rows =
    ap not (list_any-map (λ k. nat_lt most (key_count cmp k (map key rows))) key rows)
    ∙ not_any (λ row. nat_lt most (key_count cmp (key row) (map key rows))) rows
    ∙ all_agree (λ row. not (nat_lt most (key_count cmp (key row) (map key rows)))) (λ row. nat_le (count_by (λ other. is_eq (cmp (key row) (key other))) rows) most) rows
    (λ row i. not_over most (key_count cmp (key row) (map key rows)) ∙ ap (λ n. nat_le n most) (count_map (λ k. is_eq (cmp (key row) k)) key rows))

-- ---- as many of a day as may be

same_day : (row other : OrderRow)
    → is_eq (placing_cmp (placing row) (placing other)) ≡ causes.is_of_the_day (order_record row) (order_record other)
same_day row other =
    then_same (nat_cmp row.ticket other.ticket) (int_cmp row.day other.day)
    ∙ and_same (is_eq (nat_cmp row.ticket other.ticket)) (nat_eq other.ticket row.ticket) (int_eq row.day other.day) (int_eq other.day row.day)
    (nat_same row.ticket other.ticket ∙ eqb_comm row.ticket other.ticket) (int_eq_equiv.symm row.day other.day)

abbrev within_daily : ℕ → List OrderRow → OrderRow → Bool
within_daily daily orders row =
    nat_le (count_by (λ (other : OrderRow). causes.is_of_the_day (order_record row) (order_record other)) orders) daily

daily_told : (daily : ℕ) (orders : List OrderRow)
    → not (key_occurs_more_than placing_cmp daily (map placing orders)) ≡ list_all (within_daily daily orders) orders
daily_told daily orders =
    rows_over placing_cmp placing daily orders
    ∙ all_agree (λ row. nat_le (count_by (λ other. is_eq (placing_cmp (placing row) (placing other))) orders) daily) (within_daily daily orders) orders
    (λ row i. ap (λ n. nat_le n daily) (count_agree (λ other. is_eq (placing_cmp (placing row) (placing other))) (λ other. causes.is_of_the_day (order_record row) (order_record other)) orders (λ other j. same_day row other)))

-- ---- no two that ask for the same

same_ask : (row other : OrderRow)
    → is_eq (asking_cmp (asking row) (asking other)) ≡ (nat_eq row.ticket other.ticket && nat_eq row.container other.container)
same_ask row other =
    then_same (nat_cmp row.ticket other.ticket) (nat_cmp row.container other.container)
    ∙ and_same (is_eq (nat_cmp row.ticket other.ticket)) (nat_eq row.ticket other.ticket) (is_eq (nat_cmp row.container other.container)) (nat_eq row.container other.container)
    (nat_same row.ticket other.ticket) (nat_same row.container other.container)

abbrev asks_once : List OrderRow → OrderRow → Bool
asks_once orders row = not (list_any (λ (other : OrderRow). causes.are_twice (order_record row) (order_record other)) orders)

one_more : (n m : ℕ) → n ≡ m + 1 → nat_le n 1 ≡ nat_le m 0
one_more n m e = elim (cases_lt 0 m) [
  | inl lt ↦ let more : 1 < n = omega (arith, e, lt) in rw (lt-leb n 1 more, lt-leb m 0 lt) refl
  | inr le ↦ let least : n ≤ 1 = omega (arith, e, le) in rw (le-leb n 1 least, le-leb m 0 le) refl
]

module _ (orders : List OrderRow) (numbered : are_numbered_from (λ (row : OrderRow). row.id) 1 orders ≡ true) (row : OrderRow) (there : In row orders) where
  abbrev asks : OrderRow → Bool
  asks other = waits_or_is_out other && is_eq (asking_cmp (asking row) (asking other))

  abbrev itself : OrderRow → Bool
  itself other = nat_eq other.id row.id

  -- it is not live, so it is nobody's double
  idle : waits_or_is_out row ≡ false → asks_once orders row ≡ true
  idle f = ap not (any_none (λ (other : OrderRow). causes.are_twice (order_record row) (order_record other)) orders
      (λ other i. and_right (not (nat_eq row.id other.id)) _ (and_left (waits_or_is_out row) _ f)))

  asks_itself : waits_or_is_out row ≡ true → asks row ≡ true
  asks_itself t =
      and_same (waits_or_is_out row) true (is_eq (asking_cmp (asking row) (asking row))) true t
      (same_ask row row ∙ and_same (nat_eq row.ticket row.ticket) true (nat_eq row.container row.container) true (eq-eqb row.ticket row.ticket refl) (eq-eqb row.container row.container refl))

  double : waits_or_is_out row ≡ true → (other : OrderRow)
      → causes.are_twice (order_record row) (order_record other) ≡ (not (itself other) && asks other)
  double t other =
      and_same (not (nat_eq row.id other.id)) (not (itself other)) _ (asks other) (ap not (eqb_comm row.id other.id))
      (ap (λ b. b && (waits_or_is_out other && (nat_eq row.ticket other.ticket && nat_eq row.container other.container))) t
      ∙ ap (λ b. waits_or_is_out other && b) (sym (same_ask row other)))

  live : waits_or_is_out row ≡ true → nat_le (count_by asks orders) 1 ≡ asks_once orders row
  live t =
      let others = count_by (λ other. not (itself other) && asks other) orders in
      let split = count_split itself asks orders in
      let own = once (λ (r : OrderRow). r.id) asks 1 orders row numbered there (asks_itself t) in
      let sum : count_by asks orders ≡ others + 1 = split ∙ ap (λ n. others + n) own in
      one_more (count_by asks orders) others sum
      ∙ sym (not_over 0 others)
      ∙ ap not (sym (any_count (λ other. not (itself other) && asks other) orders))
      ∙ ap not (any_agree_in (λ other. not (itself other) && asks other) (λ (other : OrderRow). causes.are_twice (order_record row) (order_record other)) orders (λ other i. sym (double t other)))

  asked : (not (waits_or_is_out row) || nat_le (count_by (λ other. is_eq (asking_cmp (asking row) (asking other))) (filter waits_or_is_out orders)) 1) ≡ asks_once orders row
  asked =
      ap (λ n. not (waits_or_is_out row) || nat_le n 1) (count_filter (λ other. is_eq (asking_cmp (asking row) (asking other))) waits_or_is_out orders)
      ∙ elim (cases_Bool (waits_or_is_out row)) [
        | inl t ↦ ap (λ b. not b || nat_le (count_by asks orders) 1) t ∙ live t
        | inr f ↦ ap (λ b. not b || nat_le (count_by asks orders) 1) f ∙ sym (idle f)
      ]

asked_told : (orders : List OrderRow) → are_numbered_from (λ (row : OrderRow). row.id) 1 orders ≡ true
    → not (key_occurs_more_than asking_cmp 1 (map asking (filter waits_or_is_out orders))) ≡ list_all (asks_once orders) orders
asked_told orders numbered =
    rows_over asking_cmp asking 1 (filter waits_or_is_out orders)
    ∙ all_filter (λ row. nat_le (count_by (λ other. is_eq (asking_cmp (asking row) (asking other))) (filter waits_or_is_out orders)) 1) waits_or_is_out orders
    ∙ all_agree (λ row. not (waits_or_is_out row) || nat_le (count_by (λ other. is_eq (asking_cmp (asking row) (asking other))) (filter waits_or_is_out orders)) 1) (asks_once orders) orders
    (λ row i. asked orders numbered row i)

-- ---- all together

regroup : (a b c d e x : Bool) → (a && (b && (c && (d && (e && x))))) ≡ ((a && (b && (c && (d && e)))) && x)
regroup true true true true e x = refl
regroup true true true false e x = refl
regroup true true false d e x = refl
regroup true false c d e x = refl
regroup false b c d e x = refl

module _ (s : Around) (a : causes.Around) (d : desk.Desk) (orders : List OrderRow) (h : Surrounds s a d) (e : d.orders ≡ map order_record orders) where
  row_told : (row : OrderRow)
      → causes.is_good_order a d (order_record row) ≡ (is_fit_order s row && (within_daily s.daily orders row && asks_once orders row))
  row_told row =
      regroup (causes.is_registered d row.ticket) (a.is_container row.container) (is_between 1 4 row.state) (is_day_number row.day) (int_le row.day a.day) _
      ∙ and_same _ (is_fit_order s row) _ (within_daily s.daily orders row && asks_once orders row)
      (and_same (causes.is_registered d row.ticket) (is_between 1 s.readers row.ticket) _ _ (registered s a d h row.ticket)
      (and_same (a.is_container row.container) (list_any (nat_eq row.container) s.containers) _ _ (h.containers row.container)
      (ap (λ today. is_between 1 4 row.state && (is_day_number row.day && int_le row.day today)) h.day)))
      (and_same _ (within_daily s.daily orders row) _ (asks_once orders row)
      (ap (λ xs. nat_le (count_by (causes.is_of_the_day (order_record row)) xs) a.daily) e
      ∙ ap (λ n. nat_le n a.daily) (count_map (causes.is_of_the_day (order_record row)) order_record orders)
      ∙ ap (λ n. nat_le (count_by (λ (other : OrderRow). causes.is_of_the_day (order_record row) (order_record other)) orders) n) h.daily)
      (ap (λ xs. not (list_any (causes.are_twice (order_record row)) xs)) e ∙ ap not (list_any-map (causes.are_twice (order_record row)) order_record orders)))

  numbers_told : are_numbered_from (λ n. n) 1 (map (λ (row : OrderRow). row.id) orders) ≡ are_numbered_from (λ (row : desk.OrderRow). row.id) 1 d.orders
  numbers_told =
      numbered_map (λ n. n) (λ (row : OrderRow). row.id) 1 orders
      ∙ sym (numbered_map (λ (row : desk.OrderRow). row.id) order_record 1 orders)
      ∙ ap (are_numbered_from (λ (row : desk.OrderRow). row.id) 1) (sym e)

  each_told : are_numbered_from (λ (row : OrderRow). row.id) 1 orders ≡ true
      → list_all (causes.is_good_order a d) d.orders
      ≡ (list_all (is_fit_order s) orders && (not (key_occurs_more_than placing_cmp s.daily (map placing orders)) && not (key_occurs_more_than asking_cmp 1 (map asking (filter waits_or_is_out orders)))))
  each_told numbered =
      ap (list_all (causes.is_good_order a d)) e
      ∙ list_all-map (causes.is_good_order a d) order_record orders
      ∙ all_agree (λ row. causes.is_good_order a d (order_record row)) (λ row. is_fit_order s row && (within_daily s.daily orders row && asks_once orders row)) orders (λ row i. row_told row)
      ∙ all_and (is_fit_order s) (λ row. within_daily s.daily orders row && asks_once orders row) orders
      ∙ ap (λ b. list_all (is_fit_order s) orders && b)
      (all_and (within_daily s.daily orders) (asks_once orders) orders
      ∙ and_same (list_all (within_daily s.daily orders) orders) (not (key_occurs_more_than placing_cmp s.daily (map placing orders))) (list_all (asks_once orders) orders) _ (sym (daily_told s.daily orders)) (sym (asked_told orders numbered)))

  abbrev pub plain : Bool
  plain = are_numbered_from (λ n. n) 1 (map (λ (row : OrderRow). row.id) orders) && (nat_le (length orders) most_orders && list_all (is_fit_order s) orders)

  pub orders_told : causes.are_good_orders a d ≡ (plain && (not (key_occurs_more_than placing_cmp s.daily (map placing orders)) && not (key_occurs_more_than asking_cmp 1 (map asking (filter waits_or_is_out orders)))))
  orders_told =
      and_then (are_numbered_from (λ (row : desk.OrderRow). row.id) 1 d.orders) (are_numbered_from (λ n. n) 1 (map (λ (row : OrderRow). row.id) orders)) _ _ (sym numbers_told)
      (λ t. and_same (nat_le (length d.orders) most_orders) (nat_le (length orders) most_orders) _ _ (ap (λ n. nat_le n most_orders) (ap length e ∙ length-map orders order_record))
      (each_told (sym (numbered_map (λ (row : desk.OrderRow). row.id) order_record 1 orders) ∙ ap (are_numbered_from (λ (row : desk.OrderRow). row.id) 1) (sym e) ∙ t)))
      ∙ three (are_numbered_from (λ n. n) 1 (map (λ (row : OrderRow). row.id) orders)) (nat_le (length orders) most_orders) (list_all (is_fit_order s) orders) _
    where
      three : (n l t x : Bool) → (n && (l && (t && x))) ≡ ((n && (l && t)) && x)
      three true true t x = refl
      three true false t x = refl
      three false l t x = refl

  -- ---- as it is judged, one after the other

  abbrev keeps : Bool
  keeps = not (key_occurs_more_than placing_cmp s.daily (map placing orders))

  abbrev asks_well : Bool
  asks_well = not (key_occurs_more_than asking_cmp 1 (map asking (filter waits_or_is_out orders)))

  abbrev IsPlainly : List ℕ → Bool → Type 0
  IsPlainly numbers b = b ≡ (are_numbered_from (λ n. n) 1 numbers && (nat_le (length orders) most_orders && list_all (is_fit_order s) orders))

  judged : (numbers : List ℕ) (b : Bool) → numbers ≡ map (λ (row : OrderRow). row.id) orders → IsPlainly numbers b
      → causes.are_good_orders a d ≡ (b && (keeps && asks_well))
  judged numbers b n p =
      orders_told
      ∙ ap (λ v. v && (keeps && asks_well)) (sym (p ∙ ap (λ ns. are_numbered_from (λ n. n) 1 ns && (nat_le (length orders) most_orders && list_all (is_fit_order s) orders)) n))

  pub not_plain : (numbers : List ℕ) (b : Bool) → numbers ≡ map (λ (row : OrderRow). row.id) orders
      → IsPlainly numbers b → b ≡ false → false ≡ causes.are_good_orders a d
  not_plain numbers b n p f = sym (judged numbers b n p ∙ ap (λ v. v && (keeps && asks_well)) f)

  pub too_many : (numbers : List ℕ) (b k : Bool) → numbers ≡ map (λ (row : OrderRow). row.id) orders
      → IsPlainly numbers b → k ≡ keeps → k ≡ false → false ≡ causes.are_good_orders a d
  too_many numbers b k n p w f =
      sym (judged numbers b n p ∙ and_right b (keeps && asks_well) (ap (λ v. v && asks_well) (sym w ∙ f)))

  pub asked_well : (numbers : List ℕ) (b k o : Bool) → numbers ≡ map (λ (row : OrderRow). row.id) orders
      → IsPlainly numbers b → b ≡ true → k ≡ keeps → k ≡ true → o ≡ asks_well → o ≡ causes.are_good_orders a d
  asked_well numbers b k o n p t w u v =
      v ∙ sym (judged numbers b n p ∙ ap (λ x. x && (keeps && asks_well)) t ∙ ap (λ x. x && asks_well) (sym w ∙ u))

-- orders that have no cause are numbered
pub numbered_orders : (a : causes.Around) (d : desk.Desk) (orders : List OrderRow) → d.orders ≡ map order_record orders
    → causes.orders_are_bad a d ≡ false → are_numbered_from (λ (row : OrderRow). row.id) 1 orders ≡ true
numbered_orders a d orders e bad =
    sym (numbered_map (λ (row : desk.OrderRow). row.id) order_record 1 orders)
    ∙ ap (are_numbered_from (λ (row : desk.OrderRow). row.id) 1) (sym e)
    ∙ (and_parts (are_numbered_from (λ (row : desk.OrderRow). row.id) 1 d.orders) _ (not-false (causes.are_good_orders a d) bad)).0
