-- Functions of the rules that are not about a reading room.
use Rattle.std.specs.Prelude.{ℕ, zero, suc, Bool, true, false, not, cond, List, [], ◌∷◌, ◌++◌, Option, Some, None}
use Rattle.std.specs.Prelude.{nat_eq, slice_get, option_map, filter}
pub use Rattle.isad_core.specs.Words.{some_and, stands}

-- the n-th of a list, counted from 1
abbrev pub nth : {X : Type 0} → List X → ℕ → Option X
nth xs zero = None
nth xs (suc n) = slice_get xs n

-- the numbers from 1 to n
abbrev pub numbers_to : ℕ → List ℕ
numbers_to zero = []
numbers_to (suc n) = numbers_to n ++ suc n ∷ []

-- the function with another value at n
abbrev pub update_at : {X : Type 0} → (ℕ → X) → ℕ → X → ℕ → X
update_at f n x m = cond (nat_eq n m) x (f m)

-- the first that passes
abbrev pub first_that : {X : Type 0} → (X → Bool) → List X → Option X
first_that test [] = None
first_that test (x ∷ xs) = cond (test x) (Some x) (first_that test xs)

-- the place of the first that passes, counted from 1
abbrev pub place_of : {X : Type 0} → (X → Bool) → List X → Option ℕ
place_of test [] = None
place_of test (x ∷ xs) = cond (test x) (Some 1) (option_map suc (place_of test xs))

-- the first of a list
abbrev pub first : {X : Type 0} → List X → Option X
first [] = None
first (x ∷ xs) = Some x

abbrev pub is_empty : {X : Type 0} → List X → Bool
is_empty [] = true
is_empty (x ∷ xs) = false

-- the list without the number
abbrev pub without : ℕ → List ℕ → List ℕ
without n ns = filter (λ m. not (nat_eq n m)) ns
