-- What stands in a list, and what tests say of it.
use Rattle.std.proofs.Common.{◌≡◌, ℕ, zero, suc, ◌+◌, ◌≤◌, Bool, true, List, [], ◌∷◌, ◌++◌, Option, Some, None, refl}
use Rattle.std.proofs.Common.{sym, ap, ◌∙◌, subst, inl, inr, arith}
use Rattle.std.specs.Prelude.{map, filter_map}
use Rattle.state_encoding.proofs.Common.{AllByRecursion, StandsIn, and_from, and_parts, cons_option, false≢true}
use Rattle.state_encoding.proofs.Common.{flat_map, flat_map-cons, list_all, list_any, numbers_from, numbers_to}
use Rattle.state_encoding.proofs.Common.{or_cases, or_left, or_right}
pub use Rattle.tree_core.proofs.Lists.{any_agree as any_same, any_none as none_of_in, none_any as none_in}
pub use Rattle.tree_core.proofs.Lists.{In-append as in_append, In-append_left as append_in_left}
pub use Rattle.tree_core.proofs.Lists.{In-append_right as append_in_right}
pub use Rattle.tree_core.proofs.Members.{In-filter as in_filter}

module _ {X : Type 0} where
  pub all_in : (P : X → Type 0) (xs : List X) (x : X) → AllByRecursion P xs → StandsIn x xs → P x
  all_in P [] x h k = absurd k
  all_in P (y ∷ ys) x h k = elim k [ inl e ↦ subst P (sym e) h.0 | inr l ↦ all_in P ys x h.1 l ]

  pub all_of_in : (P : X → Type 0) (xs : List X) → ((x : X) → StandsIn x xs → P x) → AllByRecursion P xs
  all_of_in P [] f = tt
  all_of_in P (y ∷ ys) f = (f y (inl refl), all_of_in P ys (λ x k. f x (inr k)))

  -- tests

  pub test_in : (p : X → Bool) (xs : List X) (x : X) → list_all p xs ≡ true → StandsIn x xs → p x ≡ true
  test_in p [] x h k = absurd k
  test_in p (y ∷ ys) x h k =
      let both = and_parts (p y) (list_all p ys) h in
      elim k [ inl e ↦ ap p e ∙ both.0 | inr l ↦ test_in p ys x both.1 l ]

  pub tests_of_in : (p : X → Bool) (xs : List X) → ((x : X) → StandsIn x xs → p x ≡ true) → list_all p xs ≡ true
  tests_of_in p [] f = refl
  tests_of_in p (y ∷ ys) f = and_from (p y) (list_all p ys) (f y (inl refl)) (tests_of_in p ys (λ x k. f x (inr k)))

  pub some_in : (p : X → Bool) (xs : List X) → list_any p xs ≡ true → (x : X) × StandsIn x xs × (p x ≡ true)
  some_in p [] h = absurd (false≢true h)
  some_in p (y ∷ ys) h =
      elim (or_cases (p y) (list_any p ys) h) [
        | inl e ↦ (y, inl refl, e)
        | inr k ↦ let r = some_in p ys k in (r.0, inr r.1, r.2)
      ]

  pub any_of_in : (p : X → Bool) (xs : List X) (x : X) → StandsIn x xs → p x ≡ true → list_any p xs ≡ true
  any_of_in p [] x k e = absurd k
  any_of_in p (y ∷ ys) x k e =
      elim k [
        | inl s ↦ or_left (p y) (list_any p ys) (ap p (sym s) ∙ e)
        | inr l ↦ or_right (p y) (list_any p ys) (any_of_in p ys x l e)
      ]

module _ {X Y : Type 0} where
  pub in_map : (f : X → Y) (xs : List X) (y : Y) → StandsIn y (map f xs) → (x : X) × StandsIn x xs × (y ≡ f x)
  in_map f [] y k = absurd k
  in_map f (x ∷ xs) y k = elim k [ inl e ↦ (x, inl refl, e) | inr l ↦ let r = in_map f xs y l in (r.0, inr r.1, r.2) ]

  pub in_filter_map : (f : X → Option Y) (xs : List X) (y : Y) → StandsIn y (filter_map f xs)
      → (x : X) × StandsIn x xs × (f x ≡ Some y)
  in_filter_map f [] y k = absurd k
  in_filter_map f (x ∷ xs) y k = at (f x) refl (in_filter_map f xs y) k
    where
      at : (r : Option Y) → f x ≡ r → (StandsIn y (filter_map f xs) → (z : X) × StandsIn z xs × (f z ≡ Some y))
          → StandsIn y (cons_option r (filter_map f xs)) → (z : X) × StandsIn z (x ∷ xs) × (f z ≡ Some y)
      at None e g k = let r = g k in (r.0, inr r.1, r.2)
      at (Some w) e g k = elim k [ inl s ↦ (x, inl refl, e ∙ ap Some (sym s)) | inr l ↦ let r = g l in (r.0, inr r.1, r.2) ]

  pub filter_map_in : (f : X → Option Y) (xs : List X) (x : X) (y : Y) → StandsIn x xs → f x ≡ Some y
      → StandsIn y (filter_map f xs)
  filter_map_in f [] x y k e = absurd k
  filter_map_in f (z ∷ zs) x y k e = at (f z) refl (λ l. filter_map_in f zs x y l e) k
    where
      at : (r : Option Y) → f z ≡ r → (StandsIn x zs → StandsIn y (filter_map f zs)) → StandsIn x (z ∷ zs)
          → StandsIn y (cons_option r (filter_map f zs))
      at None q g k = elim k [ inl s ↦ absurd (let a = ap f s in cc) | inr l ↦ g l ]
      at (Some w) q g k = elim k [ inl s ↦ inl (let a = ap f s in cc) | inr l ↦ inr (g l) ]

  pub in_flat_map : (f : X → List Y) (xs : List X) (y : Y) → StandsIn y (flat_map f xs)
      → (x : X) × StandsIn x xs × StandsIn y (f x)
  in_flat_map f [] y k = absurd k
  in_flat_map f (x ∷ xs) y k =
      elim (in_append (f x) (flat_map f xs) y (subst (StandsIn y) (flat_map-cons f x xs) k)) [
        | inl l ↦ (x, inl refl, l)
        | inr l ↦ let r = in_flat_map f xs y l in (r.0, inr r.1, r.2)
      ]

-- ---- the first numbers

pub numbers_push : (m n : ℕ) → numbers_from m n ++ (n + m) ∷ [] ≡ numbers_from m (suc n)
numbers_push m zero = let e : 0 + m ≡ m = omega arith in ap (λ k. k ∷ []) e
numbers_push m (suc n) =
    let e : suc n + m ≡ n + suc m = omega arith in
    ap (λ k. m ∷ (numbers_from (suc m) n ++ k ∷ [])) e ∙ ap (λ l. m ∷ l) (numbers_push (suc m) n)

pub to_from : (n : ℕ) → numbers_to n ≡ numbers_from 1 n
to_from zero = refl
to_from (suc n) =
    let e : suc n ≡ n + 1 = omega arith in
    ap (λ l. l ++ suc n ∷ []) (to_from n) ∙ (ap (λ k. numbers_from 1 n ++ k ∷ []) e ∙ numbers_push 1 n)

pub in_numbers : (n m : ℕ) → StandsIn m (numbers_to n) → (1 ≤ m) × (m ≤ n)
in_numbers zero m k = absurd k
in_numbers (suc n) m k =
    elim (in_append (numbers_to n) (suc n ∷ []) m k) [
      | inl l ↦ let r = in_numbers n m l in let u = r.1 in (r.0, omega (arith, u))
      | inr l ↦ elim l [ inl e ↦ (omega (arith, e), omega (arith, e)) | inr x ↦ absurd x ]
    ]

pub numbers_in : (n m : ℕ) → 1 ≤ m → m ≤ n → StandsIn m (numbers_to n)
numbers_in zero m l u = absurd (omega (arith, l, u))
numbers_in (suc n) m l u =
    elim (Rattle.std.proofs.lemmas.Bool.cases_eq m (suc n)) [
      | inl e ↦ append_in_right (numbers_to n) (suc n ∷ []) m (inl e)
      | inr ne ↦ append_in_left (numbers_to n) (suc n ∷ []) m (numbers_in n m l (omega (arith, u, ne)))
    ]
