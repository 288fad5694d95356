-- Rows and their numbers.
use Rattle.std.specs.Prelude.{◌≡◌, ℕ, suc, ℤ, pos, List, [], ◌∷◌, map, IsPermutation, ⊤}
use Rattle.std.specs.Ordering.{int_cmp}
use Rattle.sqlite.specs.Order.{Row}
use Rattle.sqlite.specs.State.{State}
use Rattle.sqlite.specs.Table.{Table}
use Rattle.office_tables.specs.Order.{Rises}

-- the rows have the numbers from n on, without a gap
abbrev pub AreCountedFrom : {R : Type 0} → (R → ℕ) → ℕ → List R → Type 0
AreCountedFrom number n [] = ⊤
AreCountedFrom number n (row ∷ rows) = (number row ≡ n) × AreCountedFrom number (suc n) rows

abbrev pub AreCounted : {R : Type 0} → (R → ℕ) → List R → Type 0
AreCounted number = AreCountedFrom number 1

-- the rows are in ascending order of their numbers, none of them twice
abbrev pub AreByNumber : {R : Type 0} → (R → ℕ) → List R → Type 0
AreByNumber number = Rises (λ a b. int_cmp (pos (number a)) (pos (number b)))

-- the table has these rows, in any order, each with a number of its own
pub record HasNumbered {R : Type 0} (cells : ℤ × R → Row) (there : List Row) (rows : List R) : Type 0 where
  pub numbered : List (ℤ × R)
  pub are : there ≡ map cells numbered
  pub rise : Rises (λ a b. int_cmp a.0 b.0) numbered
  pub tell : IsPermutation rows (map (λ n. n.1) numbered)

-- the same for a table of a state
abbrev pub HoldsNumbered : {R : Type 0} → Table → (ℤ × R → Row) → State → List R → Type 0
HoldsNumbered table cells s = HasNumbered cells (s.now.trees table.tree)
