-- A unit that is found by its number.
use Rattle.std.proofs.Common.{◌≡◌, ℕ, ◌≤◌, List, [], ◌∷◌, length, map, filter, find, slice_get, Some, None, Bool, false}
use Rattle.std.proofs.Common.{nat_eq, refl, sym, ap, ◌∙◌, arith, inl, inr}
use Rattle.catalogue_statements.proofs.Common.{Forest, Has, IsPermutation, IsPermutation-filter, IsPermutation-trans}
use Rattle.catalogue_statements.proofs.Common.{RepresentsUnits, Trees, Unit, cases_Bool, eq-eqb, eqb-true, first_kept}
use Rattle.catalogue_statements.proofs.Common.{had, has, has_filtered, has_id, has_kept, length_permutation, list_any}
use Rattle.catalogue_statements.proofs.Common.{nodes}
use Rattle.catalogue_statements.proofs.NewUnits.{numbered_once}

pub none_left : {A : Type 0} (p : A → Bool) (xs : List A) → list_any p xs ≡ false → filter p xs ≡ []
none_left p [] h = refl
none_left p (x ∷ xs) h =
    let parts : (p x ≡ false) × (list_any p xs ≡ false) = grind arith in
    rw parts.0 (none_left p xs parts.1)

pub empty : {A : Type 0} (xs : List A) → length xs ≤ 0 → xs ≡ []
empty [] h = refl
empty (x ∷ xs) h = absurd (omega (arith, h))

alone : {A : Type 0} (xs : List A) (x : A) → length xs ≤ 1 → Has xs x → slice_get xs 0 ≡ Some x
alone [] x few h = absurd h
alone (y ∷ []) x few (inl e) = ap Some (sym e)
alone (y ∷ []) x few (inr h) = absurd h
alone (y ∷ z ∷ xs) x few h = absurd (omega (arith, few))

-- where the first tells nothing, there is none
pub none_first : {A B : Type 0} (tell : A → B) (ys : List A) → slice_get (map tell ys) 0 ≡ None → ys ≡ []
none_first tell [] e = refl
none_first tell (y ∷ ys) e = absurd (let clash : Some (tell y) ≡ None = e in cc)

-- what the first tells is told by one of them
pub told_first : {A B : Type 0} (tell : A → B) (ys : List A) (told : B) → slice_get (map tell ys) 0 ≡ Some told
    → (y : A) × Has ys y × (told ≡ tell y)
told_first tell [] told e = absurd (let clash : None ≡ Some told = e in cc)
told_first tell (y ∷ ys) told e = (y, inl refl, let same : Some (tell y) ≡ Some told = e in cc)

module _ (db : Trees) (f : Forest Unit) (at : RepresentsUnits db f) (n : ℕ) where
  abbrev kept : List Unit
  kept = filter (has_id n) (nodes f)

  once : length kept ≤ 1
  once = elim (cases_Bool (has (has_id n) f)) [
    | inl there ↦ numbered_once db f at n there
    | inr none ↦ omega (arith, ap length (none_left (has_id n) (nodes f) none))
  ]

  -- a unit that is there is found by its number
  pub found_one : (u : Unit) → Has (nodes f) u → n ≡ u.id → find (has_id n) (nodes f) ≡ Some u
  found_one u there is =
      sym (first_kept (has_id n) (nodes f))
      ∙ alone kept u once (has_kept (has_id n) (nodes f) u there (eq-eqb n u.id is))

  module _ (ys : List Unit) (same : IsPermutation (filter (λ (u : Unit). nat_eq n u.id) at.units) ys) where
    all : IsPermutation kept ys
    all = IsPermutation-trans kept (filter (has_id n) at.units) ys (IsPermutation-filter (has_id n) (nodes f) at.units at.are) same

    -- where a row tells nothing, there is no unit
    pub none_found : {B : Type 0} (tell : Unit → B) → slice_get (map tell ys) 0 ≡ None
        → find (has_id n) (nodes f) ≡ None
    none_found tell e =
        let none : length ys ≡ 0 = omega (arith, ap length (none_first tell ys e)) in
        sym (first_kept (has_id n) (nodes f)) ∙ ap (λ (l : List Unit). slice_get l 0) (empty kept (omega (arith, none, length_permutation kept ys all)))

    -- what a row tells is of the unit
    pub one_told : {B : Type 0} (tell : Unit → B) (told : B) → slice_get (map tell ys) 0 ≡ Some told
        → (u : Unit) × Has (nodes f) u × (n ≡ u.id) × (find (has_id n) (nodes f) ≡ Some u) × (told ≡ tell u)
    one_told tell told e =
        let first = told_first tell ys told e in
        let u = first.0 in
        let is = has_filtered (has_id n) (nodes f) u (had kept ys all u first.1) in
        let id = eqb-true n u.id is.1 in
        (u, is.0, id, found_one u is.0 id, first.2)
