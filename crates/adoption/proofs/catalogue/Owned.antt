-- What rows tell of each unit, among the rows of all units.
use Rattle.std.proofs.Common.{◌≡◌, ℕ, List, [], ◌∷◌, ◌++◌, map, filter, Bool, true, false, nat_eq, refl, sym, ap, ap₂}
use Rattle.std.proofs.Common.{subst, ◌∙◌, append-nil}
use Rattle.std.proofs.lemmas.List.Concat.{flat_map-cons}
use Rattle.std.proofs.lemmas.List.Elements.{filter-append}
use Rattle.std.specs.List.{IsDistinct}
use Rattle.adoption.proofs.Common.{AllByRecursion, In-permutation, IsPermutation, IsPermutation-filter, all_in}
use Rattle.adoption.proofs.Common.{all_of_in, all_weaker, any_of_in, eq-eqb, eqb_comm, filter_all, filter_none}
use Rattle.adoption.proofs.Common.{flat_map, in_flat_map, list_any}

module _ {U A : Type 0} (number : U → ℕ) (key : A → ℕ) (shown : U → List A) (own : (u : U) → AllByRecursion (λ a. key a ≡ number u) (shown u)) where
  abbrev is_of : ℕ → A → Bool
  is_of n a = nat_eq n (key a)

  mine : (u : U) → filter (is_of (number u)) (shown u) ≡ shown u
  mine u = filter_all (is_of (number u)) (shown u) (all_weaker (λ a. key a ≡ number u) (λ a. is_of (number u) a ≡ true) (λ a h. eq-eqb (number u) (key a) (sym h)) (shown u) (own u))

  not_mine : (n : ℕ) (u : U) → nat_eq n (number u) ≡ false → filter (is_of n) (shown u) ≡ []
  not_mine n u h = filter_none (is_of n) (shown u) (all_weaker (λ a. key a ≡ number u) (λ a. is_of n a ≡ false) (λ a k. ap (nat_eq n) k ∙ h) (shown u) (own u))

  none_mine : (n : ℕ) (us : List U) → AllByRecursion (λ m. nat_eq n m ≡ false) (map number us)
      → filter (is_of n) (flat_map shown us) ≡ []
  none_mine n [] h = refl
  none_mine n (u ∷ us) h =
      ap (filter (is_of n)) (flat_map-cons shown u us)
      ∙ (filter-append (is_of n) (shown u) (flat_map shown us)
      ∙ ap₂ ◌++◌ (not_mine n u h.0) (none_mine n us h.1))

  later : (u : U) (rest : List A) (vs : List U) → AllByRecursion (λ m. nat_eq (number u) m ≡ false) (map number vs)
      → AllByRecursion (λ v. filter (is_of (number v)) rest ≡ shown v) vs
      → AllByRecursion (λ v. filter (is_of (number v)) (shown u ++ rest) ≡ shown v) vs
  later u rest [] d h = tt
  later u rest (v ∷ vs) d h = (
    filter-append (is_of (number v)) (shown u) rest ∙ (ap (λ l. l ++ filter (is_of (number v)) rest) (not_mine (number v) u (eqb_comm (number v) (number u) ∙ d.0)) ∙ h.0),
    later u rest vs d.1 h.1,
  )

  all_mine : (us : List U) → IsDistinct nat_eq (map number us)
      → AllByRecursion (λ u. filter (is_of (number u)) (flat_map shown us) ≡ shown u) us
  unfolding IsDistinct
  all_mine [] d = tt
  all_mine (u ∷ us) d = (
    ap (filter (is_of (number u))) (flat_map-cons shown u us)
        ∙ (filter-append (is_of (number u)) (shown u) (flat_map shown us)
        ∙ (ap₂ ◌++◌ (mine u) (none_mine (number u) us d.0) ∙ append-nil (shown u))),
    subst (λ l. AllByRecursion (λ v. filter (is_of (number v)) l ≡ shown v) us) (sym (flat_map-cons shown u us)) (later u (flat_map shown us) us d.0 (all_mine us d.1)),
  )

  module _ (us : List U) (all : List A) (apart : IsDistinct nat_eq (map number us)) (same : IsPermutation (flat_map shown us) all) where
    pub each_has : AllByRecursion (λ u. IsPermutation (shown u) (filter (is_of (number u)) all)) us
    each_has =
        all_weaker (λ u. filter (is_of (number u)) (flat_map shown us) ≡ shown u) (λ u. IsPermutation (shown u) (filter (is_of (number u)) all))
        (λ u h. subst (λ l. IsPermutation l (filter (is_of (number u)) all)) h (IsPermutation-filter (is_of (number u)) (flat_map shown us) all same)) us (all_mine us apart)

    -- each is of some unit
    pub all_owned : AllByRecursion (λ a. list_any (λ u. nat_eq (key a) (number u)) us ≡ true) all
    all_owned = all_of_in (λ a. list_any (λ u. nat_eq (key a) (number u)) us ≡ true) all (λ a i.
        let at = in_flat_map shown us a (In-permutation (flat_map shown us) all a same i) in
        any_of_in (λ u. nat_eq (key a) (number u)) us at.0 at.1 (eq-eqb (key a) (number at.0) (all_in (λ b. key b ≡ number at.0) (shown at.0) a (own at.0) at.2)))
