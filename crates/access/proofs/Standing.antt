-- Numbers that ascend: equal ones stand side by side, so that one stands there more than so many times exactly where it stands again
-- that many places further on.
use Rattle.std.proofs.Common.{◌≡◌, ℕ, zero, suc, ◌+◌, ◌-◌, ◌<◌, ◌≤◌, Bool, true, false, ◌||◌, cond, List, [], ◌∷◌}
use Rattle.std.proofs.Common.{length, get_or, drop, drop-cons, refl, sym, ap, ◌∙◌, inl, inr, arith, zero-add, nat_eq}
use Rattle.std.proofs.Common.{nat_lt}
use Rattle.std.proofs.lemmas.Bool.Decides.{nat_tests}
use Rattle.std.proofs.lemmas.List.Sums.{sum_by-cons}
use Rattle.std.proofs.lemmas.Option.{slice_get-get_or, slice_get_past}
use Rattle.std.specs.List.Sorted.{IsPermutation}
use Rattle.access.proofs.Common.{IsNonDecreasing, any_agree, cases_Bool, cases_eq, count_by, eq-eqb, le-ltb}
use Rattle.access.proofs.Common.{length-drop, list_any, list_any-IsPermutation, lt-ltb, ltb-false, ne_eqb}
use Rattle.access.proofs.Common.{number_occurs_more_than, slice_get, some_and, sum_by-IsPermutation}

-- ---- one number

abbrev times : ℕ → List ℕ → ℕ
times x ys = count_by (nat_eq x) ys

one_more : (x y : ℕ) (ys : List ℕ) → times x (y ∷ ys) ≡ cond (nat_eq x y) 1 0 + times x ys
one_more x y ys = sum_by-cons (λ z. cond (nat_eq x z) 1 0) y ys

-- it does not stand among greater ones
none_greater : (x : ℕ) (ys : List ℕ) → ((j : ℕ) → j < length ys → x < get_or ys j 0) → times x ys ≡ 0
none_greater x [] less = refl
none_greater x (y ∷ ys) less =
    let lt : x < y = less 0 (omega arith) in
    one_more x y ys ∙ ap (λ b. cond b 1 0 + times x ys) (ne_eqb x y (λ e. absurd (omega (arith, e, lt)))) ∙ zero-add (times x ys) ∙ none_greater x ys (λ j l. less (suc j) (omega (arith, l)))

not_at : (x most : ℕ) (ys : List ℕ) → ((j : ℕ) → j < length ys → x < get_or ys j 0)
    → some_and (nat_eq x) (slice_get ys most) ≡ false
not_at x most [] less = refl
not_at x zero (y ∷ ys) less = let lt : x < y = less 0 (omega arith) in ne_eqb x y (λ e. absurd (omega (arith, e, lt)))
not_at x (suc most) (y ∷ ys) less = not_at x most ys (λ j l. less (suc j) (omega (arith, l)))

fewer : (m n : ℕ) → nat_lt (suc m) (1 + n) ≡ nat_lt m n
fewer m n = elim (cases_Bool (nat_lt m n)) [
  | inl t ↦ grind (arith, nat_tests, t)
  | inr f ↦ grind (arith, nat_tests, f)
]

-- of a number with none below it
least_stands : (x most : ℕ) (ys : List ℕ) → ((j : ℕ) → j < length ys → x ≤ get_or ys j 0) → IsNonDecreasing ys
    → nat_lt most (times x ys) ≡ some_and (nat_eq x) (slice_get ys most)
least_stands x most [] low up = le-ltb most 0 (omega arith)
least_stands x most (y ∷ ys) low up = elim (cases_eq x y) [
  | inl e ↦ ap (nat_lt most) (one_more x y ys ∙ ap (λ b. cond b 1 0 + times x ys) (eq-eqb x y e)) ∙ again most (eq-eqb x y e) (λ m. least_stands x m ys (λ j l. low (suc j) (omega (arith, l))) (λ i j d le l. up (suc i) (suc j) d (omega (arith, le)) (omega (arith, l))))
  | inr ne ↦
      let here : x ≤ y = low 0 (omega arith) in
      let apart : x < y = omega (arith, here, ne) in
      let less : (j : ℕ) → j < length (y ∷ ys) → x < get_or (y ∷ ys) j 0 =
      λ j l. (let above : y ≤ get_or (y ∷ ys) j 0 = up 0 j 0 (omega arith) l in omega (arith, above, apart)) in
      ap (nat_lt most) (none_greater x (y ∷ ys) less) ∙ le-ltb most 0 (omega arith) ∙ sym (not_at x most (y ∷ ys) less)
]
  where
    again : (m : ℕ) → nat_eq x y ≡ true → ((k : ℕ) → nat_lt k (times x ys) ≡ some_and (nat_eq x) (slice_get ys k))
        → nat_lt m (1 + times x ys) ≡ some_and (nat_eq x) (slice_get (y ∷ ys) m)
    again zero same rest = lt-ltb 0 (1 + times x ys) (omega arith) ∙ sym same
    again (suc m) same rest = fewer m (times x ys) ∙ rest m

-- ---- all of them

-- one of them stands again, so many places further on
abbrev pub stands_again : ℕ → List ℕ → Bool
stands_again most [] = false
stands_again most (x ∷ xs) = some_and (nat_eq x) (slice_get (x ∷ xs) most) || stands_again most xs

pub again_is : (most : ℕ) (xs : List ℕ) → IsNonDecreasing xs → stands_again most xs ≡ number_occurs_more_than most xs
again_is most [] up = refl
again_is most (x ∷ xs) up =
    let later : IsNonDecreasing xs = λ i j d le l. up (suc i) (suc j) d (omega (arith, le)) (omega (arith, l)) in
    ap (λ b. b || stands_again most xs) (sym (least_stands x most (x ∷ xs) (λ j l. up 0 j 0 (omega arith) l) up))
    ∙ ap (λ b. nat_lt most (times x (x ∷ xs)) || b) (again_is most xs later)
    ∙ at (nat_lt most (times x (x ∷ xs))) refl
  where
    at : (b : Bool) → nat_lt most (times x (x ∷ xs)) ≡ b
        → (b || number_occurs_more_than most xs) ≡ (b || list_any (λ n. nat_lt most (times n (x ∷ xs))) xs)
    at true e = refl
    at false e = any_agree (λ n. nat_lt most (times n xs)) (λ n. nat_lt most (times n (x ∷ xs))) xs (λ n. elim (cases_eq n x) [
      | inl same ↦
          let few = ltb-false most (times x (x ∷ xs)) e in
          let more = one_more x x xs in
          let here = eq-eqb x x refl in
          let le : times x xs ≤ most = fit (nat_eq x x) (times x xs) (times x (x ∷ xs)) more few in
          let within : times x (x ∷ xs) ≤ most = few in
          ap (λ k. nat_lt most (times k xs)) same ∙ le-ltb most (times x xs) le ∙ sym (le-ltb most (times x (x ∷ xs)) within) ∙ sym (ap (λ k. nat_lt most (times k (x ∷ xs))) same)
      | inr other ↦ ap (nat_lt most) (sym (one_more n x xs ∙ ap (λ b. cond b 1 0 + times n xs) (ne_eqb n x other) ∙ zero-add (times n xs)))
    ])
      where
        fit : (b : Bool) (n m : ℕ) → m ≡ cond b 1 0 + n → m ≤ most → n ≤ most
        fit true n m is le = omega (arith, is, le)
        fit false n m is le = omega (arith, is, le)

-- ---- the loop

shifted : (k m : ℕ) (xs : List ℕ) → slice_get (drop k xs) m ≡ slice_get xs (k + m)
shifted zero m xs = let e : m ≡ 0 + m = omega arith in ap (slice_get xs) e
shifted (suc k) m [] = refl
shifted (suc k) m (x ∷ xs) = let e : suc (k + m) ≡ suc k + m = omega arith in shifted k m xs ∙ ap (slice_get (x ∷ xs)) e

-- what is left from one place on
left_at : (most i : ℕ) (xs : List ℕ) → most ≤ i → i < length xs
    → stands_again most (drop (i - most) xs) ≡ (nat_eq (get_or xs (i - most) 0) (get_or xs i 0) || stands_again most (drop (i + 1 - most) xs))
left_at most i xs le lt =
    let k = i - most in
    let low : k < length xs = omega (arith, le, lt) in
    let there : k + most ≡ i = omega (arith, le) in
    let next : suc k ≡ i + 1 - most = omega (arith, le) in
    let split = drop-cons xs k 0 low in
    ap (stands_again most) split
    ∙ ap (λ o. some_and (nat_eq (get_or xs k 0)) o || stands_again most (drop (suc k) xs)) (ap (λ l. slice_get l most) (sym split) ∙ shifted k most xs ∙ ap (slice_get xs) there ∙ slice_get-get_or xs i 0 lt)
    ∙ ap (λ n. nat_eq (get_or xs k 0) (get_or xs i 0) || stands_again most (drop n xs)) next

pub found_again : (most i : ℕ) (xs : List ℕ) → most ≤ i → i < length xs
    → stands_again most (drop (i - most) xs) ≡ stands_again most xs → get_or xs (i - most) 0 ≡ get_or xs i 0
    → IsNonDecreasing xs → true ≡ number_occurs_more_than most xs
found_again most i xs le lt so same up =
    sym (ap (λ b. b || stands_again most (drop (i + 1 - most) xs)) (eq-eqb (get_or xs (i - most) 0) (get_or xs i 0) same)) ∙ sym (left_at most i xs le lt) ∙ so ∙ again_is most xs up

pub not_yet : (most i : ℕ) (xs : List ℕ) → most ≤ i → i < length xs
    → stands_again most (drop (i - most) xs) ≡ stands_again most xs → (get_or xs (i - most) 0 ≡ get_or xs i 0 → ⊥)
    → stands_again most (drop (i + 1 - most) xs) ≡ stands_again most xs
not_yet most i xs le lt so other =
    sym (ap (λ b. b || stands_again most (drop (i + 1 - most) xs)) (ne_eqb (get_or xs (i - most) 0) (get_or xs i 0) other)) ∙ sym (left_at most i xs le lt) ∙ so

too_short : (most : ℕ) (xs : List ℕ) → length xs ≤ most → stands_again most xs ≡ false
too_short most [] le = refl
too_short most (x ∷ xs) le = ap (λ o. some_and (nat_eq x) o || stands_again most xs) (slice_get_past (x ∷ xs) most le) ∙ too_short most xs (omega (arith, le))

pub never_again : (most i : ℕ) (xs : List ℕ) → most ≤ i → length xs ≤ i
    → stands_again most (drop (i - most) xs) ≡ stands_again most xs → IsNonDecreasing xs
    → false ≡ number_occurs_more_than most xs
never_again most i xs le end so up =
    sym (too_short most (drop (i - most) xs) (omega (arith, length-drop (i - most) xs, end, le))) ∙ so
    ∙ again_is most xs up

-- ---- in whatever order they come

pub over_permuted : (most : ℕ) (xs ys : List ℕ) → IsPermutation xs ys
    → number_occurs_more_than most ys ≡ number_occurs_more_than most xs
over_permuted most xs ys p =
    any_agree (λ k. nat_lt most (times k ys)) (λ k. nat_lt most (times k xs)) ys (λ k. ap (nat_lt most) (sum_by-IsPermutation (λ y. cond (nat_eq k y) 1 0) xs ys p))
    ∙ sym (list_any-IsPermutation (λ k. nat_lt most (times k xs)) xs ys p)
