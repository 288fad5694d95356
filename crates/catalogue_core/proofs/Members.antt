-- What stands in a list.
use Rattle.std.proofs.Common.{◌≡◌, Bool, true, List, [], ◌∷◌, inl, inr, sym, ap, ◌∙◌}
use Rattle.catalogue_core.proofs.Common.{StandsIn, list_any, or_left, or_right}
pub use Rattle.tree_core.proofs.Members.{In-filter as has_filtered}

pub some_from : {X : Type 0} (p : X → Bool) (xs : List X) (x : X) → StandsIn x xs → p x ≡ true → list_any p xs ≡ true
some_from p [] x h passes = absurd h
some_from p (y ∷ xs) x (inl same) passes = or_left _ _ (ap p (sym same) ∙ passes)
some_from p (y ∷ xs) x (inr later) passes = or_right _ _ (some_from p xs x later passes)
