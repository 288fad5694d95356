-- Lists in which nothing stands twice.
use Rattle.std.proofs.Common.{◌≡◌, ℕ, suc, ◌<◌, ◌≤◌, Bool, true, false, ◌||◌, List, [], ◌∷◌, Option, Some, None, length}
use Rattle.std.proofs.Common.{refl, sym, ap, ◌∙◌, nat_eq, inl, inr, arith, get_or, drop}
use Rattle.std.specs.List.{IsDistinct}
use Rattle.std.specs.List.Sorted.{IsPermutation}
use Rattle.tree_core.proofs.Common.{AllByRecursion, IsDistinct-IsPermutation, IsNonDecreasing, IsPermutation-sym}
use Rattle.tree_core.proofs.Common.{cases_Bool, cases_eq, drop_all, eq-eqb, false≢true, list_any, ne_eqb, option_eq}
use Rattle.tree_core.proofs.Common.{or_from, or_parts, repeats}
use Rattle.tree_core.proofs.Lists.{In}
use Rattle.tree_core.proofs.LoopItems.{item_left}

none_of_all : {X : Type 0} (e : X → X → Bool) (x : X) (ys : List X) → AllByRecursion (λ y. e x y ≡ false) ys
    → list_any (e x) ys ≡ false
none_of_all e x [] h = refl
none_of_all e x (y ∷ ys) h = or_from (e x y) (list_any (e x) ys) h.0 (none_of_all e x ys h.1)

all_of_none : {X : Type 0} (e : X → X → Bool) (x : X) (ys : List X) → list_any (e x) ys ≡ false
    → AllByRecursion (λ y. e x y ≡ false) ys
all_of_none e x [] h = tt
all_of_none e x (y ∷ ys) h = let p = or_parts (e x y) (list_any (e x) ys) h in (p.0, all_of_none e x ys p.1)

-- nothing stands twice where all are distinct, and the other way round
pub repeats_distinct : {X : Type 0} (e : X → X → Bool) (xs : List X) → IsDistinct e xs → repeats e xs ≡ false
unfolding IsDistinct
repeats_distinct e [] d = refl
repeats_distinct e (x ∷ xs) d =
    or_from (list_any (e x) xs) (repeats e xs) (none_of_all e x xs d.0) (repeats_distinct e xs d.1)

pub distinct_repeats : {X : Type 0} (e : X → X → Bool) (xs : List X) → repeats e xs ≡ false → IsDistinct e xs
unfolding IsDistinct
distinct_repeats e [] h = tt
distinct_repeats e (x ∷ xs) h = let p = or_parts (list_any (e x) xs) (repeats e xs) h in (all_of_none e x xs p.0, distinct_repeats e xs p.1)

pub repeats-permutation : {X : Type 0} (e : X → X → Bool) → ((x y : X) → e x y ≡ e y x) → (xs ys : List X)
    → IsPermutation xs ys → repeats e ys ≡ repeats e xs
repeats-permutation e flips xs ys p = elim (cases_Bool (repeats e xs)) [
  | inl t ↦ elim (cases_Bool (repeats e ys)) [
    | inl s ↦ s ∙ sym t
    | inr f ↦ absurd (false≢true (sym (repeats_distinct e xs (IsDistinct-IsPermutation e flips ys xs (IsPermutation-sym xs ys p) (distinct_repeats e ys f))) ∙ t))
  ]
  | inr f ↦ repeats_distinct e ys (IsDistinct-IsPermutation e flips xs ys p (distinct_repeats e xs f)) ∙ sym f
]

-- ---- numbers that rise: the same ones stand side by side
abbrev pub adjacent_from : Option ℕ → List ℕ → Bool
adjacent_from last [] = false
adjacent_from last (x ∷ xs) = option_eq nat_eq last (Some x) || adjacent_from (Some x) xs

none_lower : (y : ℕ) (xs : List ℕ) → ((x : ℕ) → In x xs → y < x) → list_any (nat_eq y) xs ≡ false
none_lower y [] h = refl
none_lower y (x ∷ xs) h =
    let lt = h x (inl refl) in
    rw (ne_eqb y x (λ e. absurd (omega (arith, lt)))) (none_lower y xs (λ z i. h z (inr i)))

abbrev Rises : List ℕ → Type 0
Rises [] = Unit {0}
Rises (x ∷ xs) = ((y : ℕ) → In y xs → x ≤ y) × Rises xs

rises : (xs : List ℕ) → IsNonDecreasing xs → Rises xs
rises [] up = tt
rises (x ∷ xs) up = (above x xs (λ k lt. up 0 (suc k) 0 (omega arith) (omega arith)), rises xs (λ i j d le lt. up (suc i) (suc j) d (omega arith) (omega arith)))
  where
    above : (x : ℕ) (xs : List ℕ) → ((k : ℕ) → k < length xs → x ≤ get_or xs k 0) → (y : ℕ) → In y xs → x ≤ y
    above x [] h y i = absurd i
    above x (z ∷ zs) h y (inl e) = let le = h 0 (omega arith) in omega (arith, le, e)
    above x (z ∷ zs) h y (inr i) = above x zs (λ k lt. h (suc k) (omega arith)) y i

adjacent_after : (y : ℕ) (xs : List ℕ) → ((x : ℕ) → In x xs → y ≤ x) → Rises xs
    → adjacent_from (Some y) xs ≡ (list_any (nat_eq y) xs || repeats nat_eq xs)
adjacent_after y [] low up = refl
adjacent_after y (x ∷ xs) low up =
    let rest = adjacent_after x xs up.0 up.1 in
    elim (cases_eq y x) [
      | inl e ↦ rw (eq-eqb y x e) refl
      | inr n ↦
          let lt : y < x = let le = low x (inl refl) in omega (arith, n, le) in
          rw (ne_eqb y x n, none_lower y xs (λ z i. let le = up.0 z i in omega (arith, lt, le))) rest
    ]

pub adjacent-rising : (xs : List ℕ) → IsNonDecreasing xs → adjacent_from None xs ≡ repeats nat_eq xs
adjacent-rising [] up = refl
adjacent-rising (x ∷ xs) up = let r = rises (x ∷ xs) up in adjacent_after x xs r.0 r.1

-- ---- the loop over rising ids
pub twice_here : (last : Option ℕ) (xs : List ℕ) (i x : ℕ) → i < length xs → x ≡ get_or xs i x
    → option_eq nat_eq last (Some x) ≡ true → adjacent_from last (drop i xs) ≡ adjacent_from None xs
    → IsNonDecreasing xs → true ≡ repeats nat_eq xs
twice_here last xs i x lt is here so_far up =
    let now : adjacent_from last (drop i xs) ≡ true = ap (adjacent_from last) (item_left xs i x lt is) ∙ rw here refl in
    sym now ∙ so_far ∙ adjacent-rising xs up

pub twice_nowhere : (last : Option ℕ) (xs : List ℕ) (i : ℕ) → length xs ≤ i
    → adjacent_from last (drop i xs) ≡ adjacent_from None xs → IsNonDecreasing xs → false ≡ repeats nat_eq xs
twice_nowhere last xs i le so_far up = sym (ap (adjacent_from last) (drop_all i xs le)) ∙ so_far ∙ adjacent-rising xs up
