-- Rows that are numbered without a gap, in whatever order they were.
use Rattle.std.proofs.Common.{◌≡◌, inl, inr, ℕ, suc, pos, ◌+◌, ◌-◌, ◌<◌, ◌≤◌, List, [], ◌∷◌, length, Bool, true, false}
use Rattle.std.proofs.Common.{cond, ◌&&◌, ◌||◌, nat_eq, nat_lt, Option, Some, None, is_none, filter_map, get_or}
use Rattle.std.proofs.Common.{Ordering, refl, sym, ap, ap₂, subst, ◌∙◌, arith}
use Rattle.std.proofs.Math.Nat.{le_refl}
use Rattle.std.proofs.lemmas.Bool.{eqb-true, eq-eqb}
use Rattle.std.specs.Cmp.{both_ways}
use Rattle.std.specs.Option.{option_map_or}
use Rattle.sqlite_value.specs.Order.{value_cmp}
use Rattle.isad_core.specs.Words.{are_numbered_from}
use Rattle.desk_core.specs.Orders.{put_in_order, in_order}
use Rattle.office_tables.specs.Cells.{has_unread}
use Rattle.office_tables.proofs.Common.{AllByRecursion, Int, IsPermutation, IsSorted, IsTotalOrder, Row, all_weaker}
use Rattle.office_tables.proofs.Common.{and_parts, cases_Bool, cases_lt, column, cons_option, false≢true, int_cmp}
use Rattle.office_tables.proofs.Common.{is_lt, length_permutation, list_any, list_any-IsPermutation, ltb-false}
use Rattle.office_tables.proofs.Common.{ltb-true, on_total, or_parts, or_right, value_cmp-Int, value_cmp_total}
use Rattle.office_tables.proofs.numbered.Counted.{below_less}
use Rattle.office_tables.proofs.Sorted.{head_below}

-- the number of the one is less
abbrev pub by : {X : Type 0} → (X → ℕ) → X → X → Bool
by number a b = nat_lt (number a) (number b)

module _ {X : Type 0} (number : X → ℕ) where
  abbrev pub is_at : ℕ → X → Bool
  is_at i x = nat_eq i (number x)

  is_here : (i : ℕ) (x : X) → i ≡ number x → is_at i x ≡ true
  is_here i x same = eq-eqb i (number x) same

  not_here : (i : ℕ) (x : X) (b : Bool) → (i ≡ number x → ⊥) → (is_at i x || b) ≡ true → b ≡ true
  not_here i x b other h = elim (cases_Bool (is_at i x)) [
    | inl is ↦ absurd (other (eqb-true i (number x) is))
    | inr isnt ↦ sym (ap (λ c. c || b) isnt) ∙ h
  ]

  -- none is above a later one
  abbrev pub Up : List X → Type 0
  Up [] = Unit {0}
  Up (x ∷ xs) = AllByRecursion (λ y. number x ≤ number y) xs × Up xs

  has_each : (n : ℕ) (xs : List X) → are_numbered_from number n xs ≡ true → (i : ℕ) → n ≤ i → i < n + length xs
      → list_any (is_at i) xs ≡ true
  has_each n [] h i low high = absurd (omega (arith, high))
  has_each n (x ∷ xs) h i low high =
      let p = and_parts (nat_eq (number x) n) (are_numbered_from number (suc n) xs) h in
      let e : number x ≡ n = eqb-true (number x) n p.0 in
      elim (cases_lt n i) [
        | inl more ↦ or_right (is_at i x) (list_any (is_at i) xs) (has_each (suc n) xs p.1 i (omega (arith, more)) (omega (arith, high)))
        | inr here ↦ let same : i ≡ number x = omega (arith, here, low, e) in ap (λ b. b || list_any (is_at i) xs) (is_here i x same)
      ]

  none_above : (i b : ℕ) (xs : List X) → i < b → AllByRecursion (λ y. b ≤ number y) xs → list_any (is_at i) xs ≡ true
      → ⊥
  none_above i b [] low all h = false≢true h
  none_above i b (x ∷ xs) low all h =
      none_above i b xs low all.1 (not_here i x _ (λ same. omega (arith, same, low, all.0)) h)

  not_first : (n : ℕ) (x : X) (xs : List X) → n < number x → Up (x ∷ xs) → list_any (is_at n) (x ∷ xs) ≡ true → ⊥
  not_first n x xs low up h = none_above n (number x) xs low up.0 (not_here n x _ (λ same. omega (arith, same, low)) h)

  too_many : (xs : List X) (n k : ℕ) → Up xs → length xs < k
      → ((i : ℕ) → n ≤ i → i < n + k → list_any (is_at i) xs ≡ true) → ⊥
  too_many [] n k up few all = false≢true (all n (le_refl n) (omega (arith, few)))
  too_many (x ∷ xs) n k up few all = elim (cases_lt n (number x)) [
    | inl below ↦ not_first n x xs below up (all n (le_refl n) (omega (arith, few)))
    | inr above ↦ too_many xs (n + 1) (k - 1) up.1 (omega (arith, few)) (λ i low high. not_here i x _ (λ same. omega (arith, same, low, above)) (all i (omega (arith, low)) (omega (arith, high, few))))
  ]

  numbered : (xs : List X) (n : ℕ) → Up xs → ((i : ℕ) → n ≤ i → i < n + length xs → list_any (is_at i) xs ≡ true)
      → are_numbered_from number n xs ≡ true
  numbered [] n up all = refl
  numbered (x ∷ xs) n up all = elim (cases_lt n (number x)) [
    | inl below ↦ absurd (not_first n x xs below up (all n (le_refl n) (omega arith)))
    | inr above ↦ elim (cases_lt (number x) n) [
      | inl under ↦ absurd (too_many xs n (length xs + 1) up.1 (omega arith) (λ i low high. not_here i x _ (λ same. omega (arith, same, low, under)) (all i low (omega (arith, high)))))
      | inr least ↦ let same : number x ≡ n = omega (arith, above, least) in
          ap₂ ◌&&◌ (eq-eqb (number x) n same) (numbered xs (suc n) up.1 (λ i low high. not_here i x _ (λ e. omega (arith, e, low, same)) (all i (omega (arith, low)) (omega (arith, high)))))
    ]
  ]

  pub numbered_alike : (xs ys : List X) (n : ℕ) → Up xs → Up ys → length xs ≡ length ys
      → ((i : ℕ) → list_any (is_at i) xs ≡ list_any (is_at i) ys)
      → are_numbered_from number n xs ≡ are_numbered_from number n ys
  numbered_alike xs ys n up down long same = both_ways (are_numbered_from number n xs) (are_numbered_from number n ys)
      (λ h. numbered ys n down (λ i low high. sym (same i) ∙ has_each n xs h i low (omega (arith, high, long))))
      (λ h. numbered xs n up (λ i low high. same i ∙ has_each n ys h i low (omega (arith, high, long))))

  -- ---- in order

  all_put : (P : X → Type 0) (x : X) (ys : List X) → P x → AllByRecursion P ys
      → AllByRecursion P (put_in_order (by number) x ys)
  all_put P x [] p all = (p, tt)
  all_put P x (y ∷ ys) p all =
      elim (by number y x) as (λ b. AllByRecursion P (cond b (y ∷ put_in_order (by number) x ys) (x ∷ y ∷ ys))) [ true ↦ (all.0, all_put P x ys p all.1) | false ↦ (p, all) ]

  up_put : (x : X) (ys : List X) → Up ys → Up (put_in_order (by number) x ys)
  up_put x [] up = (tt, tt)
  up_put x (y ∷ ys) up = at (up_put x ys up.1) (by number y x) refl
    where
      at : Up (put_in_order (by number) x ys) → (b : Bool) → by number y x ≡ b
          → Up (cond b (y ∷ put_in_order (by number) x ys) (x ∷ y ∷ ys))
      at more true h =
          let low : number y < number x = ltb-true (number y) (number x) h in
          (all_put (λ z. number y ≤ number z) x ys (omega (arith, low)) up.0, more)
      at more false h =
          let low : number x ≤ number y = ltb-false (number y) (number x) h in
          ((low, all_weaker (λ z. number y ≤ number z) (λ z. number x ≤ number z) (λ z k. omega (arith, k, low)) ys up.0), up)

  pub up_ordered : (xs : List X) → Up (in_order (by number) xs)
  up_ordered [] = tt
  up_ordered (x ∷ xs) = up_put x (in_order (by number) xs) (up_ordered xs)

  -- ---- in order they are the same

  any_put : (p : X → Bool) (before : X → X → Bool) (x : X) (ys : List X)
      → list_any p (put_in_order before x ys) ≡ (p x || list_any p ys)
  any_put p before x [] = refl
  any_put p before x (y ∷ ys) = at (any_put p before x ys) (before y x)
    where
      swapped : (a b c : Bool) → (b || (a || c)) ≡ (a || (b || c))
      swapped true true c = refl
      swapped true false c = refl
      swapped false true c = refl
      swapped false false c = refl

      at : list_any p (put_in_order before x ys) ≡ (p x || list_any p ys) → (b : Bool)
          → list_any p (cond b (y ∷ put_in_order before x ys) (x ∷ y ∷ ys)) ≡ (p x || (p y || list_any p ys))
      at more true = ap (λ c. p y || c) more ∙ swapped (p x) (p y) (list_any p ys)
      at more false = refl

  pub any_ordered : (p : X → Bool) (before : X → X → Bool) (xs : List X)
      → list_any p (in_order before xs) ≡ list_any p xs
  any_ordered p before [] = refl
  any_ordered p before (x ∷ xs) = any_put p before x (in_order before xs) ∙ ap (λ b. p x || b) (any_ordered p before xs)

  length_put : (before : X → X → Bool) (x : X) (ys : List X) → length (put_in_order before x ys) ≡ suc (length ys)
  length_put before x [] = refl
  length_put before x (y ∷ ys) = at (length_put before x ys) (before y x)
    where
      at : length (put_in_order before x ys) ≡ suc (length ys) → (b : Bool)
          → length (cond b (y ∷ put_in_order before x ys) (x ∷ y ∷ ys)) ≡ suc (suc (length ys))
      at more true = ap suc more
      at more false = refl

  pub length_ordered : (before : X → X → Bool) (xs : List X) → length (in_order before xs) ≡ length xs
  length_ordered before [] = refl
  length_ordered before (x ∷ xs) = length_put before x (in_order before xs) ∙ ap suc (length_ordered before xs)

-- ---- rows that are read

module _ {X : Type 0} (read : Row → Option X) where
  pub any_read : (p : X → Bool) (rows : List Row)
      → list_any p (filter_map read rows) ≡ list_any (λ row. option_map_or p (read row) false) rows
  any_read p [] = refl
  any_read p (row ∷ rows) = at (any_read p rows) (read row)
    where
      at : list_any p (filter_map read rows) ≡ list_any (λ row. option_map_or p (read row) false) rows → (o : Option X)
          → list_any p (cons_option o (filter_map read rows)) ≡ (option_map_or p o false || list_any (λ row. option_map_or p (read row) false) rows)
      at more None = more
      at more (Some x) = ap (λ b. p x || b) more

  pub length_read : (rows : List Row) → has_unread read rows ≡ false → length (filter_map read rows) ≡ length rows
  length_read [] all = refl
  length_read (row ∷ rows) all = at (length_read rows (or_parts _ _ all).1) (read row) (or_parts _ _ all).0
    where
      at : length (filter_map read rows) ≡ length rows → (o : Option X) → is_none o ≡ false
          → length (cons_option o (filter_map read rows)) ≡ suc (length rows)
      at more None h = absurd (false≢true (sym h))
      at more (Some x) h = ap suc more

  module _ (number : X → ℕ) (keyed : (row : Row) (x : X) → read row ≡ Some x → column row 0 ≡ Int (pos (number x))) where
    abbrev pub by_key : Row → Row → Ordering
    by_key a b = value_cmp (column a 0) (column b 0)

    by_key_total : IsTotalOrder by_key
    by_key_total = on_total (λ (r : Row). column r 0) value_cmp_total

    tail_sorted : (y : Row) (ys : List Row) → IsSorted by_key (y ∷ ys) → IsSorted by_key ys
    tail_sorted y ys up = λ k d low high. subst (λ n. is_lt (by_key (get_or (y ∷ ys) n d) (get_or ys k d)) ≡ false) {x = suc k + 1} {y = suc (k + 1)} (omega arith) (up (suc k) d (omega arith) (omega arith))

    not_less : (a b : ℕ) → is_lt (int_cmp (pos b) (pos a)) ≡ false → a ≤ b
    not_less a b h = elim (cases_lt b a) [
      | inl less ↦ absurd (false≢true (sym h ∙ ap is_lt (below_less b a less)))
      | inr fine ↦ fine
    ]

    above : (y : Row) (n : X) → read y ≡ Some n → (ys : List Row) → AllByRecursion (λ z. is_lt (by_key z y) ≡ false) ys
        → AllByRecursion (λ m. number n ≤ number m) (filter_map read ys)
    above y n is [] all = tt
    above y n is (z ∷ ys) all = at (above y n is ys all.1) (read z) refl
      where
        at : AllByRecursion (λ m. number n ≤ number m) (filter_map read ys) → (o : Option X) → read z ≡ o
            → AllByRecursion (λ m. number n ≤ number m) (cons_option o (filter_map read ys))
        at more None read_z = more
        at more (Some m) read_z =
            (not_less (number n) (number m) (ap is_lt (sym (value_cmp-Int (pos (number m)) (pos (number n)))) ∙ ap₂ (λ a b. is_lt (value_cmp a b)) (sym (keyed z m read_z)) (sym (keyed y n is)) ∙ all.0), more)

    pub up_read : (ys : List Row) → IsSorted by_key ys → Up number (filter_map read ys)
    up_read [] sorted = tt
    up_read (y ∷ ys) sorted = at (up_read ys (tail_sorted y ys sorted)) (read y) refl
      where
        at : Up number (filter_map read ys) → (o : Option X) → read y ≡ o
            → Up number (cons_option o (filter_map read ys))
        at more None is = more
        at more (Some n) is = (above y n is ys (head_below by_key by_key_total y ys sorted), more)

    -- a table's rows, read in the order of their keys, are numbered where the table's are
    pub read_by_number : (table ys : List Row) → IsPermutation table ys → IsSorted by_key ys
        → has_unread read table ≡ false
        → are_numbered_from number 1 (filter_map read ys) ≡ are_numbered_from number 1 (in_order (by number) (filter_map read table))
    read_by_number table ys same sorted all =
        let all' : has_unread read ys ≡ false =
        sym (list_any-IsPermutation (λ row. is_none (read row)) table ys same) ∙ all in
        numbered_alike number (filter_map read ys) (in_order (by number) (filter_map read table)) 1 (up_read ys sorted) (up_ordered number (filter_map read table))
        (length_read ys all' ∙ length_permutation table ys same ∙ sym (length_read table all) ∙ sym (length_ordered number (by number) (filter_map read table)))
        (λ i. any_read (is_at number i) ys ∙ sym (list_any-IsPermutation (λ row. option_map_or (is_at number i) (read row) false) table ys same) ∙ sym (any_read (is_at number i) table) ∙ sym (any_ordered number (is_at number i) (by number) (filter_map read table)))
