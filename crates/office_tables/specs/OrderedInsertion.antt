-- A record in its place among others.
use Rattle.std.specs.Prelude.{ℤ, List, [], ◌∷◌}
use Rattle.std.specs.Ordering.{int_cmp, match_ordering}

-- the records with this one at its place; it replaces the one that has its key
abbrev pub put_by : {A : Type 0} → (A → ℤ) → A → List A → List A
put_by key new [] = new ∷ []
put_by key new (x ∷ xs) = match_ordering (int_cmp (key x) (key new)) (x ∷ put_by key new xs) (new ∷ xs) (new ∷ x ∷ xs)
