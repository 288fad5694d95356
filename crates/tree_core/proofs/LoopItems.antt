-- The item of a loop over a list: it stands at its place in the list.
use Rattle.std.proofs.Common.{◌≡◌, ◌∙◌, ℕ, ◌+◌, ◌<◌, List, [], ◌∷◌, ◌++◌, length, map, take, drop, get_or, ap, sym}
use Rattle.tree_core.proofs.Common.{drop_more, map_more, take_more}

module _ {A : Type 0} (xs : List A) (i : ℕ) (x : A) (low : i < length xs) (is : x ≡ get_or xs i x) where
  -- with it, one item more is taken
  pub item_taken : take (i + 1) xs ≡ take i xs ++ x ∷ []
  item_taken = take_more xs i x low ∙ ap (λ y. take i xs ++ y ∷ []) (sym is)

  -- the same, where something is made of each
  pub item_made : {B : Type 0} (f : A → B) → map f (take (i + 1) xs) ≡ map f (take i xs) ++ f x ∷ []
  item_made f = map_more f xs i x low ∙ ap (λ y. map f (take i xs) ++ f y ∷ []) (sym is)

  -- it is the first of the items that are left
  pub item_left : drop i xs ≡ x ∷ drop (i + 1) xs
  item_left = drop_more xs i x low ∙ ap (λ y. y ∷ drop (i + 1) xs) (sym is)
