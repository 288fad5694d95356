-- What is read of a unit's rows: its cells in their order.
use Rattle.std.proofs.Common.{◌≡◌, ℕ, zero, suc, ◌+◌, ◌≤◌, ◌<◌, pos, List, [], ◌∷◌, length, map, filter, get_or, Option}
use Rattle.std.proofs.Common.{Some, None, Ordering, Less, nat_eq, refl, sym, ap, ap₂, ◌∙◌, arith, inl, inr}
use Rattle.isad_core.specs.declared.values.Values.{Values}
use Rattle.catalogue_statements.proofs.Common.{AllByRecursion, BoxKey, Bytes, IsPermutation, IsPermutation-map}
use Rattle.catalogue_statements.proofs.Common.{IsPermutation-trans, IsSorted, IsTotalOrder, Rises, all-get_or, all_from}
use Rattle.catalogue_statements.proofs.Common.{all_weaker, ascending-map, below_less, box_number, cases_lt}
use Rattle.catalogue_statements.proofs.Common.{counted_from, element_number, eqb-true, get_or-map, had, has_filtered}
use Rattle.catalogue_statements.proofs.Common.{int_cmp, int_cmp_total, is_lt, length-map, numbered_containers}
use Rattle.catalogue_statements.proofs.Common.{numbered_texts, on_total, only_order, ordering_then, texts_from}
use Rattle.catalogue_statements.proofs.Common.{tied_itself}
use Rattle.catalogue_statements.proofs.Numbered.{counted_rises}

module _ {B : Type 0} where
  -- by the number of the cell
  abbrev pub by_first : ℕ × B → ℕ × B → Ordering
  by_first a b = int_cmp (pos a.0) (pos b.0)

  by_first_total : IsTotalOrder by_first
  by_first_total = on_total (λ (c : ℕ × B). pos c.0) int_cmp_total

  module _ {A : Type 0} (unit_of : A → ℕ) (cell_of : A → ℕ × B) where
    abbrev by_unit : A → A → Ordering
    by_unit a b = ordering_then (int_cmp (pos (unit_of a)) (pos (unit_of b))) (int_cmp (pos (cell_of a).0) (pos (cell_of b).0))

    by_unit_same : (n : ℕ) (a b : A) → unit_of a ≡ n → unit_of b ≡ n → by_unit a b ≡ by_first (cell_of a) (cell_of b)
    by_unit_same n a b is_a is_b =
        ap (λ o. ordering_then o (int_cmp (pos (cell_of a).0) (pos (cell_of b).0))) (ap₂ (λ x y. int_cmp (pos x) (pos y)) is_a is_b ∙ tied_itself int_cmp_total (pos n))

    in_order : (n : ℕ) (ys : List A) → AllByRecursion (λ a. unit_of a ≡ n) ys → IsSorted by_unit ys
        → IsSorted by_first (map cell_of ys)
    in_order n [] theirs sorted = λ k d low high. absurd (omega (arith, high))
    in_order n (y ∷ ys) theirs sorted = λ k d low high.
        let within : k + 1 < length (y ∷ ys) = rw (length-map (y ∷ ys) cell_of) at high in
        let before : k < length (y ∷ ys) = omega (arith, within) in
        let next = get_or (y ∷ ys) (k + 1) y in
        let this = get_or (y ∷ ys) k y in
        let is_next = all-get_or (λ a. unit_of a ≡ n) (y ∷ ys) (k + 1) y theirs within in
        let is_this = all-get_or (λ a. unit_of a ≡ n) (y ∷ ys) k y theirs before in
        rw (get_or-map cell_of (y ∷ ys) (k + 1) y d within, get_or-map cell_of (y ∷ ys) k y d before) (ap is_lt (sym (by_unit_same n next this is_next is_this)) ∙ sorted k y low within)

    -- the rows of a unit in the order of their numbers tell its cells
    pub cells_read : (n : ℕ) (cells : List (ℕ × B)) (xs ys : List A) → Rises by_first cells
        → IsPermutation cells (map cell_of (filter (λ a. nat_eq n (unit_of a)) xs))
        → IsPermutation (filter (λ a. nat_eq n (unit_of a)) xs) ys → IsSorted by_unit ys → map cell_of ys ≡ cells
    cells_read n cells xs ys up tell same sorted =
        let mine = λ (a : A). nat_eq n (unit_of a) in
        let theirs : AllByRecursion (λ a. unit_of a ≡ n) ys =
        all_from (λ a. unit_of a ≡ n) ys (λ a h. sym (eqb-true n (unit_of a) (has_filtered mine xs a (had (filter mine xs) ys same a h)).1)) in
        only_order by_first by_first_total cells (map cell_of ys) up (in_order n ys theirs sorted) (IsPermutation-trans cells (map cell_of (filter mine xs)) (map cell_of ys) tell (IsPermutation-map cell_of (filter mine xs) ys same))

-- ---- texts

number_low : (i : ℕ) → i < 3 → element_number i ≡ i + 1
number_low zero h = refl
number_low (suc zero) h = refl
number_low (suc (suc zero)) h = refl
number_low (suc (suc (suc i))) h = absurd (omega (arith, h))

number_high : (i : ℕ) → 3 ≤ i → element_number i ≡ i + 2
number_high zero h = absurd (omega (arith, h))
number_high (suc zero) h = absurd (omega (arith, h))
number_high (suc (suc zero)) h = absurd (omega (arith, h))
number_high (suc (suc (suc i))) h = omega arith

pub number_rises : (i j : ℕ) → i < j → element_number i < element_number j
number_rises i j h = elim (cases_lt i 3) [
  | inl low ↦ elim (cases_lt j 3) [
    | inl other ↦ omega (arith, number_low i low, number_low j other, h)
    | inr high ↦ omega (arith, number_low i low, number_high j high, h)
  ]
  | inr high ↦ let other : 3 ≤ j = omega (arith, high, h) in omega (arith, number_high i high, number_high j other, h)
]

texts_above : (k n : ℕ) (texts : List (Option Bytes)) → k < n
    → AllByRecursion (λ (t : ℕ × Bytes). k < t.0) (texts_from n texts)
texts_above k n [] h = tt
texts_above k n (None ∷ texts) h = texts_above k (n + 1) texts (omega (arith, h))
texts_above k n (Some t ∷ texts) h = (h, texts_above k (n + 1) texts (omega (arith, h)))

texts_rise : (n : ℕ) (texts : List (Option Bytes))
    → Rises (λ (a b : ℕ × Bytes). int_cmp (pos (element_number a.0)) (pos (element_number b.0))) (texts_from n texts)
texts_rise n [] = tt
texts_rise n (None ∷ texts) = texts_rise (n + 1) texts
texts_rise n (Some t ∷ texts) =
    (all_weaker (λ (x : ℕ × Bytes). n < x.0) (λ (x : ℕ × Bytes). int_cmp (pos (element_number n)) (pos (element_number x.0)) ≡ Less) (λ x h. below_less (element_number n) (element_number x.0) (number_rises n x.0 h)) (texts_from (n + 1) texts) (texts_above n (n + 1) texts (omega arith)), texts_rise (n + 1) texts)

pub elements_in_order : (values : Values) → Rises by_first (numbered_texts values)
elements_in_order values = ascending-map (λ a b. by_first a b ≡ Less) (λ (t : ℕ × Bytes). (let c : ℕ × Bytes = (element_number t.0, t.1) in c)) (texts_from 0 values.texts) (texts_rise 0 values.texts)

-- ---- containers

pub housings_in_order : (boxes : List BoxKey) (values : Values) → Rises by_first (numbered_containers boxes values)
housings_in_order boxes values = ascending-map (λ a b. by_first a b ≡ Less) (λ (box : ℕ × BoxKey). (let c : ℕ × ℕ = (box.0, box_number boxes box.1) in c)) (counted_from 1 values.boxes) (counted_rises 1 values.boxes)

second_of : (boxes bs : List BoxKey) (n : ℕ)
    → map (λ (c : ℕ × ℕ). c.1) (map (λ (box : ℕ × BoxKey). (let c : ℕ × ℕ = (box.0, box_number boxes box.1) in c)) (counted_from n bs)) ≡ map (box_number boxes) bs
second_of boxes [] n = refl
second_of boxes (b ∷ bs) n = ap (λ l. box_number boxes b ∷ l) (second_of boxes bs (n + 1))

pub numbers_told : (boxes : List BoxKey) (values : Values)
    → map (λ (c : ℕ × ℕ). c.1) (numbered_containers boxes values) ≡ map (box_number boxes) values.boxes
numbers_told boxes values = second_of boxes values.boxes 1
