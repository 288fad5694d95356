-- Rows of which no two have the same pair of numbers stand in strict order, once they are put in order.
use Rattle.std.proofs.Common.{◌≡◌, ◌⊎◌, ℕ, ◌<◌, ◌≤◌, List, [], ◌∷◌, Bool, true, false, ◌&&◌, if◌then◌else◌, nat_eq}
use Rattle.std.proofs.Common.{nat_lt, refl, sym, ap, ◌∙◌, inl, inr, arith}
use Rattle.adoption.proofs.Common.{AllByRecursion, AreInOrder, all_weaker, and_parts, cases_eq, eq-eqb, eqb-true}
use Rattle.adoption.proofs.Common.{false≢true, in_order, ltb-false, ltb-true, or_cases, or_parts, put_in_order, then_by}

module _ {X : Type 0} (key second : X → ℕ) where
  abbrev pub IsPairBefore : X → X → Type 0
  IsPairBefore a b = (key a < key b) ⊎ ((key a ≡ key b) × (second a < second b))

  -- the two have the same pair
  abbrev pub is_pair_of : X → X → Bool
  is_pair_of a b = nat_eq (key b) (key a) && nat_eq (second b) (second a)

  abbrev before : X → X → Bool
  before = then_by key second

  is_before : (a b : X) → before a b ≡ true → IsPairBefore a b
  is_before a b h = elim (or_cases (nat_lt (key a) (key b)) (nat_eq (key a) (key b) && nat_lt (second a) (second b)) h) [
    | inl less ↦ inl (ltb-true (key a) (key b) less)
    | inr same ↦ let p = and_parts (nat_eq (key a) (key b)) (nat_lt (second a) (second b)) same in inr (eqb-true (key a) (key b) p.0, ltb-true (second a) (second b) p.1)
  ]

  not_after : (a b : X) → before b a ≡ false → is_pair_of a b ≡ false → IsPairBefore a b
  not_after a b h other =
      let p = or_parts (nat_lt (key b) (key a)) (nat_eq (key b) (key a) && nat_lt (second b) (second a)) h in
      let low : key a ≤ key b = ltb-false (key b) (key a) p.0 in
      elim (cases_eq (key b) (key a)) [
        | inl same ↦
            let e = eq-eqb (key b) (key a) same in
            let not_less : nat_lt (second b) (second a) ≡ false =
            ap (λ t. t && nat_lt (second b) (second a)) (sym e) ∙ p.1 in
            let not_same : nat_eq (second b) (second a) ≡ false =
            ap (λ t. t && nat_eq (second b) (second a)) (sym e) ∙ other in
            let up : second a ≤ second b = ltb-false (second b) (second a) not_less in
            elim (cases_eq (second b) (second a)) [
              | inl s ↦ absurd (false≢true (sym not_same ∙ eq-eqb (second b) (second a) s))
              | inr apart ↦ inr (sym same, omega (arith, up, apart))
            ]
        | inr apart ↦ inl (omega (arith, low, apart))
      ]

  chain : (a b c : X) → IsPairBefore a b → IsPairBefore b c → IsPairBefore a c
  chain a b c (inl h) (inl k) = inl (omega (arith, h, k))
  chain a b c (inl h) (inr k) = let e = k.0 in inl (omega (arith, h, e))
  chain a b c (inr h) (inl k) = let e = h.0 in inl (omega (arith, e, k))
  chain a b c (inr h) (inr k) = let e = h.0 in let f = k.0 in let l = h.1 in let m = k.1 in inr (e ∙ f, omega (arith, l, m))

  all_put : (P : X → Type 0) (x : X) (ys : List X) → P x → AllByRecursion P ys
      → AllByRecursion P (put_in_order before x ys)
  all_put P x [] p all = (p, tt)
  all_put P x (y ∷ ys) p all =
      elim (before y x) as (λ b. AllByRecursion P (if b then y ∷ put_in_order before x ys else x ∷ y ∷ ys)) [ true ↦ (all.0, all_put P x ys p all.1) | false ↦ (p, all) ]

  all_ordered : (P : X → Type 0) (xs : List X) → AllByRecursion P xs → AllByRecursion P (in_order before xs)
  all_ordered P [] all = tt
  all_ordered P (x ∷ xs) all = all_put P x (in_order before xs) all.0 (all_ordered P xs all.1)

  put : (x : X) (ys : List X) → AreInOrder IsPairBefore ys → AllByRecursion (λ y. is_pair_of x y ≡ false) ys
      → AreInOrder IsPairBefore (put_in_order before x ys)
  put x [] up apart = (tt, tt)
  put x (y ∷ ys) up apart = at (put x ys up.1 apart.1) (before y x) refl
    where
      at : AreInOrder IsPairBefore (put_in_order before x ys) → (b : Bool) → before y x ≡ b
          → AreInOrder IsPairBefore (if b then y ∷ put_in_order before x ys else x ∷ y ∷ ys)
      at more true e = (all_put (IsPairBefore y) x ys (is_before y x e) up.0, more)
      at more false e =
          let h = not_after x y e apart.0 in
          ((h, all_weaker (IsPairBefore y) (IsPairBefore x) (λ z k. chain x y z h k) ys up.0), up)

  pub pairs_rise : (xs : List X) → AreInOrder (λ a b. is_pair_of a b ≡ false) xs
      → AreInOrder IsPairBefore (in_order before xs)
  pairs_rise [] apart = tt
  pairs_rise (x ∷ xs) apart =
      put x (in_order before xs) (pairs_rise xs apart.1) (all_ordered (λ y. is_pair_of x y ≡ false) xs apart.0)
