-- Numbers that are looked at one by one.
use Rattle.std.proofs.Common.{◌≡◌, ℕ, zero, suc, ◌+◌, ◌<◌, ◌≤◌, Bool, true, false, List, [], ◌∷◌, length, take, get_or}
use Rattle.std.proofs.Common.{refl, subst, arith}
use Rattle.std.specs.Prelude.{◌&&◌}
use Rattle.access.proofs.Common.{list_all}

-- ---- one more of those that pass

pub all_more : (p : ℕ → Bool) (xs : List ℕ) (i : ℕ) → i < length xs → list_all p (take i xs) ≡ true
    → p (get_or xs i 0) ≡ true → list_all p (take (i + 1) xs) ≡ true
all_more p [] i low so here = absurd (omega (arith, low))
all_more p (x ∷ xs) zero low so here = rw here refl
all_more p (x ∷ xs) (suc i) low so here =
    let e : suc (i + 1) ≡ suc i + 1 = omega arith in
    subst (λ n. list_all p (take n (x ∷ xs)) ≡ true) e (at (p x) so (λ rest. all_more p xs i (omega (arith, low)) rest here))
  where
    at : (b : Bool) → (b && list_all p (take i xs)) ≡ true
        → (list_all p (take i xs) ≡ true → list_all p (take (i + 1) xs) ≡ true)
        → (b && list_all p (take (i + 1) xs)) ≡ true
    at true so more = more so
    at false so more = absurd (cc)

pub not_all : (p : ℕ → Bool) (xs : List ℕ) (i : ℕ) → i < length xs → p (get_or xs i 0) ≡ false → false ≡ list_all p xs
not_all p [] i low here = absurd (omega (arith, low))
not_all p (x ∷ xs) zero low here = rw here refl
not_all p (x ∷ xs) (suc i) low here = at (p x) (not_all p xs i (omega (arith, low)) here)
  where
    at : (b : Bool) → false ≡ list_all p xs → false ≡ (b && list_all p xs)
    at true e = e
    at false e = refl

pub all_of : (p : ℕ → Bool) (xs : List ℕ) (i : ℕ) → length xs ≤ i → list_all p (take i xs) ≡ true → true ≡ list_all p xs
all_of p [] i high so = refl
all_of p (x ∷ xs) zero high so = absurd (omega (arith, high))
all_of p (x ∷ xs) (suc i) high so = at (p x) so (all_of p xs i (omega (arith, high)))
  where
    at : (b : Bool) → (b && list_all p (take i xs)) ≡ true → (list_all p (take i xs) ≡ true → true ≡ list_all p xs)
        → true ≡ (b && list_all p xs)
    at true so rest = rest so
    at false so rest = absurd (cc)
