-- Lists that are the same one by one.
use Rattle.std.proofs.Common.{◌≡◌, ℕ, zero, suc, ◌<◌, ◌≤◌, List, [], ◌∷◌, length, slice_index_or, refl, sym, ap, ap₂}
use Rattle.std.proofs.Common.{◌∙◌, arith, ◌⊎◌, inl, inr}
use Rattle.adoption.proofs.Common.{cases_lt}

module _ {A : Type 0} where
  pub any_other : (xs : List A) (j : ℕ) → j < length xs → (d e : A) → slice_index_or xs j d ≡ slice_index_or xs j e
  any_other [] j low d e = absurd (omega (arith, low))
  any_other (x ∷ xs) zero low d e = refl
  any_other (x ∷ xs) (suc j) low d e = any_other xs j (omega (arith, low)) d e

  -- the lists are the same up to here
  abbrev pub AreAlikeTo : ℕ → List A → List A → Type 0
  AreAlikeTo n xs ys = (j : ℕ) → j < n → (d : A) → slice_index_or xs j d ≡ slice_index_or ys j d

  pub alike_all : (xs ys : List A) → length xs ≡ length ys → AreAlikeTo (length ys) xs ys → xs ≡ ys
  alike_all [] [] long h = refl
  alike_all [] (y ∷ ys) long h = absurd (omega (arith, long))
  alike_all (x ∷ xs) [] long h = absurd (omega (arith, long))
  alike_all (x ∷ xs) (y ∷ ys) long h =
      ap₂ ◌∷◌ (h 0 (omega arith) x) (alike_all xs ys (omega (arith, long)) (λ j low d. h (suc j) (omega (arith, low)) d))

  pub alike_next : (n : ℕ) (xs ys : List A) (x y : A) → n < length xs → n < length ys → x ≡ slice_index_or xs n x
      → y ≡ slice_index_or ys n y → x ≡ y → AreAlikeTo n xs ys → AreAlikeTo (suc n) xs ys
  alike_next n xs ys x y low_x low_y at_x at_y same h j low d = here (cases_lt j n)
    where
      here : (j < n) ⊎ (n ≤ j) → slice_index_or xs j d ≡ slice_index_or ys j d
      here (inl before) = h j before d
      here (inr past) = let is : j ≡ n = omega (arith, low, past) in ap (λ k. slice_index_or xs k d) is ∙ any_other xs n low_x d x ∙ sym at_x ∙ same ∙ at_y ∙ any_other ys n low_y y d ∙ ap (λ k. slice_index_or ys k d) (sym is)
