-- A unit that is looked up by its number.
use Rattle.std.proofs.Common.{◌≡◌, ℕ, Bool, true, false, cond, List, [], ◌∷◌, find, Some, option_map, refl, sym, ◌∙◌}
use Rattle.std.specs.Prelude.{◌||◌}
use Rattle.catalogue_store.proofs.Common.{Forest, RepresentsUnits, Trees, Unit, has_id, has_unit, is_some, list_any}
use Rattle.catalogue_store.proofs.Common.{list_any-IsPermutation, nodes}

some_there : {X Y : Type 0} (tell : X → Y) (p : X → Bool) (xs : List X)
    → is_some (option_map tell (find p xs)) ≡ list_any p xs
some_there tell p [] = refl
some_there tell p (x ∷ xs) = at (p x) (some_there tell p xs)
  where
    at : (b : Bool) → is_some (option_map tell (find p xs)) ≡ list_any p xs
        → is_some (option_map tell (cond b (Some x) (find p xs))) ≡ (b || list_any p xs)
    at true e = refl
    at false e = e

-- the row with this number says whether there is such a unit
pub unit_there : {Y : Type 0} (db : Trees) (f : Forest Unit) (at : RepresentsUnits db f) (tell : Unit → Y) (n : ℕ)
    → is_some (option_map tell (find (has_id n) at.units)) ≡ has_unit f n
unit_there db f at tell n =
    some_there tell (has_id n) at.units ∙ sym (list_any-IsPermutation (has_id n) (nodes f) at.units at.are)
