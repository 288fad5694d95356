-- Units that are looked for.
use Rattle.std.proofs.Common.{◌≡◌, inl, inr, ℕ, List, [], ◌∷◌, map, filter, Bool, true, ◌&&◌, slice_get, refl, nat_eq}
use Rattle.std.proofs.Common.{arith}
use Rattle.catalogue_core.specs.UnitLookup.{FindsUnit}
use Rattle.catalogue_statements.proofs.Common.{Forest, Has, IsPermutation, IsPermutation-sym, Unit, cases_Bool, had}
use Rattle.catalogue_statements.proofs.Common.{has_filtered, has_id, has_kept, list_any, nat_tests, nodes, some_from}
use Rattle.catalogue_statements.proofs.Common.{some_has}

pub itself : (n : ℕ) → nat_eq n n ≡ true
itself n = grind (arith, nat_tests)

pub finds_first : (is : Unit → Bool) (f : Forest Unit) (units ys : List Unit) → IsPermutation (nodes f) units
    → IsPermutation (filter is units) ys → FindsUnit is f (slice_get (map (λ (u : Unit). u.id) ys) 0)
finds_first is f units [] all some = elim (cases_Bool (list_any is (nodes f))) [
  | inr none ↦ none
  | inl there ↦ absurd (
      let x = some_has is (nodes f) there in
      had [] (filter is units) some' x.0 (has_kept is units x.0 (in_units x.0 x.1) x.2))
]
  where
    some' : IsPermutation [] (filter is units)
    some' = IsPermutation-sym (filter is units) [] some

    in_units : (u : Unit) → Has (nodes f) u → Has units u
    in_units u h = had units (nodes f) (IsPermutation-sym (nodes f) units all) u h
finds_first is f units (y ∷ ys) all some =
    let from = has_filtered is units y (had (filter is units) (y ∷ ys) some y (inl refl)) in
    some_from (λ u. is u && has_id y.id u) (nodes f) y (had (nodes f) units all y from.0) (passes y from.1)
  where
    passes : (u : Unit) → is u ≡ true → (is u && has_id u.id u) ≡ true
    passes u h = rw (h, itself u.id) refl
