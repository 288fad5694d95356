-- Rows that are numbered one after another.
use Rattle.std.proofs.Common.{◌≡◌, ℕ, suc, ◌+◌, ◌<◌, pos, false, nat_eq, List, [], ◌∷◌, ◌++◌, length, map, Less, inl}
use Rattle.std.proofs.Common.{inr, Bool, true, cond, Greater, Equal, refl, ap, ◌∙◌, arith}
use Rattle.std.specs.Prelude.{nat_lt}
use Rattle.office_tables.proofs.Common.{AllByRecursion, AreCountedFrom, Has, Rises, all_weaker, int_cmp, list_any}
use Rattle.office_tables.proofs.Common.{lt-ltb, ltb-true, nat_tests, or_from, put_by}

pub below_less : (m n : ℕ) → m < n → int_cmp (pos m) (pos n) ≡ Less
below_less m n h = rw (lt-ltb m n h) refl

pub less_below : (m n : ℕ) → int_cmp (pos m) (pos n) ≡ Less → m < n
less_below m n h = ltb-true m n (less_is (nat_lt m n) (nat_lt n m) h)
  where
    less_is : (a b : Bool) → cond a Less (cond b Greater Equal) ≡ Less → a ≡ true
    less_is true b h = refl
    less_is false true h = absurd (cc)
    less_is false false h = absurd (cc)

module _ {A : Type 0} (number : A → ℕ) where
  -- each number is below the next that comes
  pub counted_within : (n : ℕ) (xs : List A) → AreCountedFrom number n xs
      → AllByRecursion (λ x. number x < n + length xs) xs
  counted_within n [] c = tt
  counted_within n (x ∷ xs) c =
      (omega (arith, c.0), all_weaker (λ y. number y < suc n + length xs) (λ y. number y < n + suc (length xs)) (λ y h. omega (arith, h)) xs (counted_within (suc n) xs c.1))

  -- and one has the greatest
  pub counted_last : (n : ℕ) (x : A) (xs : List A) → AreCountedFrom number n (x ∷ xs)
      → (z : A) × Has (x ∷ xs) z × (number z ≡ n + length xs)
  counted_last n x [] c = (x, inl refl, c.0 ∙ omega arith)
  counted_last n x (y ∷ ys) c = let it = counted_last (suc n) y ys c.1 in (it.0, inr it.1, it.2 ∙ omega arith)

  -- one row more
  pub counted_more : (n : ℕ) (xs : List A) (new : A) → AreCountedFrom number n xs → number new ≡ n + length xs
      → AreCountedFrom number n (xs ++ new ∷ [])
  counted_more n [] new c e = (e ∙ omega arith, tt)
  counted_more n (x ∷ xs) new c e = (c.0, counted_more (suc n) xs new c.1 (e ∙ omega arith))

  pub put_end : (n : ℕ) (xs : List A) (new : A) → AreCountedFrom number n xs → number new ≡ n + length xs
      → put_by (λ x. pos (number x)) new xs ≡ xs ++ new ∷ []
  put_end n [] new c e = refl
  put_end n (x ∷ xs) new c e =
      rw (below_less (number x) (number new) (omega (arith, c.0, e))) (ap (λ l. x ∷ l) (put_end (suc n) xs new c.1 (e ∙ omega arith)))

  pub counted_free : (n : ℕ) (xs : List A) (m : ℕ) → AreCountedFrom number n xs → m ≡ n + length xs
      → list_any (λ x. nat_eq m (number x)) xs ≡ false
  counted_free n [] m c e = refl
  counted_free n (x ∷ xs) m c e =
      let apart : nat_eq m (number x) ≡ false = grind (arith, nat_tests, c.0, e) in
      or_from (nat_eq m (number x)) _ apart (counted_free (suc n) xs m c.1 (e ∙ omega arith))

  -- rows that change, but for their numbers
  pub counted_again : (n : ℕ) (f : A → A) → ((x : A) → number (f x) ≡ number x) → (xs : List A)
      → AreCountedFrom number n xs → AreCountedFrom number n (map f xs)
  counted_again n f same [] c = tt
  counted_again n f same (x ∷ xs) c = (same x ∙ c.0, counted_again (suc n) f same xs c.1)

  counted_above : (k n : ℕ) (xs : List A) → k < n → AreCountedFrom number n xs
      → AllByRecursion (λ x. int_cmp (pos k) (pos (number x)) ≡ Less) xs
  counted_above k n [] h c = tt
  counted_above k n (x ∷ xs) h c = (below_less k (number x) (omega (arith, c.0, h)), counted_above k (suc n) xs (omega (arith, h)) c.1)

  pub counted_rises : (n : ℕ) (xs : List A) → AreCountedFrom number n xs
      → Rises (λ a b. int_cmp (pos (number a)) (pos (number b))) xs
  counted_rises n [] c = tt
  counted_rises n (x ∷ xs) c = (counted_above (number x) (suc n) xs (omega (arith, c.0)) c.1, counted_rises (suc n) xs c.1)
