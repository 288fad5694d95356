-- Definitions about numbers and lists that the rules use.
use Rattle.std.specs.Prelude.{ℕ, suc, Bool, true, false, ◌&&◌, List, [], ◌∷◌, Option, Some, None, nat_eq, nat_le}
use Rattle.std.specs.List.{list_any}

abbrev pub is_between : ℕ → ℕ → ℕ → Bool
is_between low high b = nat_le low b && nat_le b high

-- whether the number is in the list
abbrev pub stands : ℕ → List ℕ → Bool
stands n ns = list_any (nat_eq n) ns

-- there is a value, and it passes the test
abbrev pub some_and : {X : Type 0} → (X → Bool) → Option X → Bool
some_and test None = false
some_and test (Some x) = test x

-- the rows, in key order, are numbered from n on, without a gap
abbrev pub are_numbered_from : {R : Type 0} → (R → ℕ) → ℕ → List R → Bool
are_numbered_from number n [] = true
are_numbered_from number n (row ∷ rows) = nat_eq (number row) n && are_numbered_from number (suc n) rows
