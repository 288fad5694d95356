-- Sorted lists.
use Rattle.std.specs.Prelude.{Bool, if◌then◌else◌, List, [], ◌∷◌}
use Rattle.std.specs.List.Sorted.{IsPermutation, IsSortedBy, IsStableBy}

-- x inserted into a sorted list: after all elements that are before it, and no further
abbrev pub put_in_order : {X : Type 0} → (X → X → Bool) → X → List X → List X
put_in_order is_before x [] = x ∷ []
put_in_order is_before x (y ∷ ys) =
    if is_before y x then y ∷ put_in_order is_before x ys else x ∷ y ∷ ys

-- the sorted list; two elements keep their order if neither is before the other
abbrev pub in_order : {X : Type 0} → (X → X → Bool) → List X → List X
in_order is_before [] = []
in_order is_before (x ∷ xs) = put_in_order is_before x (in_order is_before xs)

-- ys is xs in order: the same elements, none before an element ahead of it, and equal ones in their original order
pub record IsInOrder {X : Type 0} (is_before : X → X → Bool) (xs ys : List X) : Type 0 where
  pub same : IsPermutation xs ys
  pub sorted : IsSortedBy is_before ys
  pub stable : IsStableBy is_before xs ys
