-- Rows that name one of some other rows, which are numbered from 1, as a line names its run.
use Rattle.std.proofs.Common.{◌≡◌, ◌≤◌, ◌<◌, ℕ, false, nat_eq, List, [], ◌∷◌, filter, length, refl, arith}
use Rattle.desk_store.proofs.Common.{AllByRecursion, IsNumberOf, all_weaker, nat_tests}

module _ {R A : Type 0} (number : A → ℕ) where
  -- where there are more rows, they still do
  pub widened : (old new : List R) → length old ≤ length new → (xs : List A)
      → AllByRecursion (λ x. IsNumberOf old (number x)) xs → AllByRecursion (λ x. IsNumberOf new (number x)) xs
  widened old new more =
      all_weaker (λ x. IsNumberOf old (number x)) (λ x. IsNumberOf new (number x)) (λ x is. let low = is.1 in (is.0, omega (arith, low, more)))

  -- none names a number after the last
  pub none_after : (rows : List R) (n : ℕ) → length rows < n → (xs : List A)
      → AllByRecursion (λ x. IsNumberOf rows (number x)) xs → filter (λ x. nat_eq n (number x)) xs ≡ []
  none_after rows n over [] all = refl
  none_after rows n over (x ∷ xs) all =
      let low = all.0.1 in
      let other : nat_eq n (number x) ≡ false = grind (arith, nat_tests, low, over) in
      rw other (none_after rows n over xs all.1)
