-- Rows that are put among others.
use Rattle.std.proofs.Common.{◌≡◌, ◌≢◌, inl, inr, ℕ, zero, suc, ◌≤◌, ◌<◌, ℤ, pos, List, [], ◌∷◌, map, length, get_or}
use Rattle.std.proofs.Common.{Bool, true, false, not, ◌&&◌, ◌||◌, Ordering, Less, Equal, Greater, refl, sym, ap, subst}
use Rattle.std.proofs.Common.{◌∙◌, arith}
use Rattle.sqlite.specs.Order.{value_cmp}
use Rattle.sqlite_trees.proofs.TreeLemmas.{IsTable-put_row}
use Rattle.office_tables.proofs.Common.{AllByRecursion, Has, Int, IsNonDecreasingBy, IsNonDecreasingBy-short}
use Rattle.office_tables.proofs.Common.{IsPermutation, IsPermutation-cons, IsPermutation-refl, IsPermutation-swap}
use Rattle.office_tables.proofs.Common.{IsPermutation-trans, IsTable, Rises, Row, all_has, ascending_from_map}
use Rattle.office_tables.proofs.Common.{ascending_weaker, int_cmp, is_eq, is_taken, match_ordering, put_by, put_row}
use Rattle.office_tables.proofs.Common.{rowid}
use Rattle.office_tables.proofs.Rows.{by_key, compared, table_rises}
use Rattle.office_tables.proofs.numbered.Counted.{less_below}

module _ {A : Type 0} (row : A → Row) (key : A → ℤ) (keyed : (x : A) → rowid (row x) ≡ Int (key x)) where
  pub put_rows : (new : A) (xs : List A) → put_row (row new) (map row xs) ≡ map row (put_by key new xs)
  put_rows new [] = refl
  put_rows new (x ∷ xs) =
      ap (λ o. match_ordering o (row x ∷ put_row (row new) (map row xs)) (row new ∷ map row xs) (row new ∷ row x ∷ map row xs)) (compared row key keyed x new)
      ∙ elim (int_cmp (key x) (key new)) as (λ o. match_ordering o (row x ∷ put_row (row new) (map row xs)) (row new ∷ map row xs) (row new ∷ row x ∷ map row xs) ≡ map row (match_ordering o (x ∷ put_by key new xs) (new ∷ xs) (new ∷ x ∷ xs))) [
        | Less ↦ ap (λ l. row x ∷ l) (put_rows new xs)
        | Equal ↦ refl
        | Greater ↦ refl
      ]

  pub put_rises : (new : A) (xs : List A) → Rises (by_key row key keyed) xs
      → Rises (by_key row key keyed) (put_by key new xs)
  put_rises new xs up =
      let table : IsTable (map row (put_by key new xs)) =
      subst IsTable (put_rows new xs) (IsTable-put_row (row new) (map row xs) (table_rises row key keyed xs up)) in
      ascending_weaker (λ a b. value_cmp (rowid (row a)) (rowid (row b)) ≡ Less) (λ a b. int_cmp (key a) (key b) ≡ Less) (λ a b h. sym (compared row key keyed a b) ∙ h) (put_by key new xs)
      (ascending_from_map (λ a b. value_cmp (rowid a) (rowid b) ≡ Less) row (put_by key new xs) table)

pub not_taken : (b : Bool) → (not b && true) ≡ true → b ≡ false
not_taken true h = absurd (let e : false ≡ true = h in cc)
not_taken false h = refl

free : (o : Ordering) (rest : Bool) → (is_eq o || rest) ≡ false → (o ≢ Equal) × (rest ≡ false)
free Less rest h = ((λ e. let k : is_eq Less ≡ is_eq Equal = ap is_eq e in let f : false ≡ true = k in cc), h)
free Equal rest h = absurd (let e : true ≡ false = h in cc)
free Greater rest h = ((λ e. let k : is_eq Greater ≡ is_eq Equal = ap is_eq e in let f : false ≡ true = k in cc), h)

module _ {A : Type 0} (row : A → Row) (key : A → ℤ) (keyed : (x : A) → rowid (row x) ≡ Int (key x)) where
  pub fresh_key : (new : A) (xs : List A) → is_taken (map row xs) (row new) ≡ false
      → AllByRecursion (λ x. int_cmp (key x) (key new) ≢ Equal) xs
  fresh_key new [] h = tt
  fresh_key new (x ∷ xs) h =
      let k : (is_eq (int_cmp (key x) (key new)) || is_taken (map row xs) (row new)) ≡ false =
      ap (λ o. is_eq o || is_taken (map row xs) (row new)) (sym (compared row key keyed x new)) ∙ h in
      let both = free (int_cmp (key x) (key new)) (is_taken (map row xs) (row new)) k in
      (both.0, fresh_key new xs both.1)

-- a record with a new key is one more
pub put_more : {A : Type 0} (key : A → ℤ) (new : A) (xs : List A)
    → AllByRecursion (λ x. int_cmp (key x) (key new) ≢ Equal) xs → IsPermutation (new ∷ xs) (put_by key new xs)
put_more key new [] fresh = IsPermutation-refl (new ∷ [])
put_more key new (x ∷ xs) fresh = at (put_more key new xs fresh.1) (int_cmp (key x) (key new)) fresh.0
  where
    at : IsPermutation (new ∷ xs) (put_by key new xs) → (o : Ordering) → o ≢ Equal
        → IsPermutation (new ∷ x ∷ xs) (match_ordering o (x ∷ put_by key new xs) (new ∷ xs) (new ∷ x ∷ xs))
    at rest Less h =
        IsPermutation-trans (new ∷ x ∷ xs) (x ∷ new ∷ xs) (x ∷ put_by key new xs) (IsPermutation-swap (new ∷ x ∷ xs) (x ∷ new ∷ xs) 0 1 (omega arith) (omega arith) refl) (IsPermutation-cons x (new ∷ xs) (put_by key new xs) rest)
    at rest Equal h = absurd (h refl)
    at rest Greater h = IsPermutation-refl (new ∷ x ∷ xs)

at_most : (a b : ℕ) → int_cmp (pos a) (pos b) ≡ Less → a ≤ b
at_most a b h = omega (arith, less_below a b h)

pub has_at : {A : Type 0} (xs : List A) (k : ℕ) (d : A) → k < length xs → Has xs (get_or xs k d)
has_at [] k d low = absurd (omega (arith, low))
has_at (x ∷ xs) zero d low = inl refl
has_at (x ∷ xs) (suc k) d low = inr (has_at xs k d (omega (arith, low)))

module _ {A : Type 0} (number : A → ℕ) where
  step : (x : A) (xs : List A) → AllByRecursion (λ y. int_cmp (pos (number x)) (pos (number y)) ≡ Less) xs
      → IsNonDecreasingBy number xs
      → (i j : ℕ) (d : A) → i ≤ j → j < suc (length xs) → number (get_or (x ∷ xs) i d) ≤ number (get_or (x ∷ xs) j d)
  step x xs low rest zero zero d le lt = omega arith
  step x xs low rest zero (suc j) d le lt =
      at_most (number x) (number (get_or xs j d)) (all_has (λ y. int_cmp (pos (number x)) (pos (number y)) ≡ Less) xs (get_or xs j d) low (has_at xs j d (omega (arith, lt))))
  step x xs low rest (suc i) zero d le lt = absurd (omega (arith, le))
  step x xs low rest (suc i) (suc j) d le lt = rest i j d (omega (arith, le)) (omega (arith, lt))

  -- numbers that rise do not fall
  pub not_falling : (xs : List A) → Rises (λ a b. int_cmp (pos (number a)) (pos (number b))) xs
      → IsNonDecreasingBy number xs
  not_falling [] up = IsNonDecreasingBy-short number [] (omega arith)
  not_falling (x ∷ xs) up = step x xs up.0 (not_falling xs up.1)
