-- A row that is looked up by its number, among those of a list.
use Rattle.std.proofs.Common.{◌≡◌, ℕ, zero, suc, ◌+◌, true, false, nat_eq, List, [], ◌∷◌, Some, None, refl, ap, subst}
use Rattle.std.proofs.Common.{◌∙◌, arith}
use Rattle.refinement.proofs.Common.{find, nat_tests, nth, option_map, rows_from, same_number, slice_get}

pub other : (n j : ℕ) → nat_eq (n + suc j) n ≡ false
other n j = grind (arith, nat_tests)

not_zero : (n : ℕ) → nat_eq 0 (suc n) ≡ false
not_zero n = grind (arith, nat_tests)

module _ {X R : Type 0} (row : ℕ → X → R) (key : R → ℕ) (numbers : (n : ℕ) (x : X) → key (row n x) ≡ n) where
  found_from : (n j : ℕ) (xs : List X)
      → find (λ r. nat_eq (n + j) (key r)) (rows_from row n xs) ≡ option_map (row (n + j)) (slice_get xs j)
  found_from n j [] = refl
  found_from n zero (x ∷ xs) =
      let e : n + 0 ≡ n = omega arith in
      let here : nat_eq (n + 0) (key (row n x)) ≡ true =
      ap (λ k. nat_eq (n + 0) k) (numbers n x) ∙ ap (λ k. nat_eq k n) e ∙ same_number n in
      rw here (ap (λ k. Some (row k x)) (let back : n ≡ n + 0 = omega arith in back))
  found_from n (suc j) (x ∷ xs) =
      let there : nat_eq (n + suc j) (key (row n x)) ≡ false =
      ap (λ k. nat_eq (n + suc j) k) (numbers n x) ∙ other n j in
      let e : suc n + j ≡ n + suc j = omega arith in
      rw there (subst (λ k. find (λ r. nat_eq k (key r)) (rows_from row (suc n) xs) ≡ option_map (row k) (slice_get xs j)) e (found_from (suc n) j xs))

  none_at_zero : (n : ℕ) (xs : List X) → find (λ r. nat_eq 0 (key r)) (rows_from row (suc n) xs) ≡ None
  none_at_zero n [] = refl
  none_at_zero n (x ∷ xs) =
      let there : nat_eq 0 (key (row (suc n) x)) ≡ false = ap (λ k. nat_eq 0 k) (numbers (suc n) x) ∙ not_zero n in
      rw there (none_at_zero (suc n) xs)

  pub found_row : (t : ℕ) (xs : List X)
      → find (λ r. nat_eq t (key r)) (rows_from row 1 xs) ≡ option_map (row t) (nth xs t)
  found_row zero xs = none_at_zero 0 xs
  found_row (suc j) xs = let e : 1 + j ≡ suc j = omega arith in subst (λ k. find (λ r. nat_eq k (key r)) (rows_from row 1 xs) ≡ option_map (row k) (slice_get xs j)) e (found_from 1 j xs)
