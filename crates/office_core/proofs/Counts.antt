-- Counting among the first numbers.
use Rattle.std.proofs.Common.{◌≡◌, ◌≢◌, ℕ, zero, suc, ◌+◌, ◌-◌, ◌<◌, ◌≤◌, Bool, true, false, cond, ◌||◌, List, [], ◌∷◌}
use Rattle.std.proofs.Common.{Some, None, refl, sym, ◌∙◌, subst, inl, inr, arith}
use Rattle.office_core.proofs.Common.{cases_Bool, cases_eq, cases_lt, count_by, false≢true, first_that, is_some}
use Rattle.office_core.proofs.Common.{list_any, list_any-append, nth, numbers_to, or_parts, sum_by_push}

abbrev pub count_to : (ℕ → Bool) → ℕ → ℕ
count_to f n = count_by f (numbers_to n)

count_push : (f : ℕ → Bool) (n : ℕ) → count_to f (suc n) ≡ count_to f n + cond (f (suc n)) 1 0
count_push f n = sum_by_push (λ x. cond (f x) 1 0) (numbers_to n) (suc n)

cond_le : (a b : Bool) → (a ≡ true → b ≡ true) → cond a 1 0 ≤ cond b 1 0
cond_le true true h = omega arith
cond_le true false h = absurd (false≢true (h refl))
cond_le false true h = omega arith
cond_le false false h = omega arith

counts_none : (b : Bool) → b ≡ false → cond b 1 0 ≤ 0
counts_none true e = absurd (false≢true (sym e))
counts_none false e = omega arith

counts_one : (b : Bool) → b ≡ true → 1 ≤ cond b 1 0
counts_one true e = omega arith
counts_one false e = absurd (false≢true e)

cond_one : (a : Bool) → cond a 1 0 ≤ 1
cond_one true = omega arith
cond_one false = omega arith

pub count_le : (f g : ℕ → Bool) (n : ℕ) → ((c : ℕ) → c ≤ n → f c ≡ true → g c ≡ true) → count_to f n ≤ count_to g n
count_le f g zero h = omega arith
count_le f g (suc n) h =
    let a = count_push f n in
    let b = count_push g n in
    let r = count_le f g n (λ c l. h c (omega (arith, l))) in
    let e = cond_le (f (suc n)) (g (suc n)) (h (suc n) (omega arith)) in
    omega (arith, a, b, r, e)

pub count_one_more : (f g : ℕ → Bool) (c n : ℕ) → ((k : ℕ) → k ≢ c → f k ≡ true → g k ≡ true)
    → count_to f n ≤ suc (count_to g n)
count_one_more f g c zero h = omega arith
count_one_more f g c (suc n) h =
    let a = count_push f n in
    let b = count_push g n in
    elim (cases_eq (suc n) c) [
      | inl same ↦
          let r = count_le f g n (λ k l. h k (λ e. omega (arith, l, e, same))) in
          let e = cond_one (f (suc n)) in
          omega (arith, a, b, r, e)
      | inr ne ↦
          let r = count_one_more f g c n h in
          let e = cond_le (f (suc n)) (g (suc n)) (h (suc n) ne) in
          omega (arith, a, b, r, e)
    ]

pub count_further : (f : ℕ → Bool) (n m : ℕ) → ((c : ℕ) → f c ≡ true → c ≤ n) → count_to f m ≤ count_to f n
count_further f n zero h = omega arith
count_further f n (suc m) h =
    elim (cases_lt m n) [
      | inl below ↦ at m below
      | inr past ↦
          let a = count_push f m in
          let r = count_further f n m h in
          let z : f (suc m) ≡ false =
          elim (cases_Bool (f (suc m))) [ inl e ↦ absurd (let l = h (suc m) e in omega (arith, l, past)) | inr e ↦ e ] in
          let e = counts_none (f (suc m)) z in
          omega (arith, a, r, e)
    ]
  where
    up : (k d : ℕ) → count_to f k ≤ count_to f (d + k)
    up k zero = let e : zero + k ≡ k = omega arith in subst (λ j. count_to f k ≤ count_to f j) (sym e) (omega arith)
    up k (suc d) =
        let e : suc d + k ≡ suc (d + k) = omega arith in
        let a = count_push f (d + k) in
        let r = up k d in
        subst (λ j. count_to f k ≤ count_to f j) (sym e) (omega (arith, a, r))

    at : (k : ℕ) → k < n → count_to f (suc k) ≤ count_to f n
    at k l = let e : (n - suc k) + suc k ≡ n = omega arith in subst (λ j. count_to f (suc k) ≤ count_to f j) e (up (suc k) (n - suc k))

pub count_some : (f : ℕ → Bool) (n c : ℕ) → 1 ≤ c → c ≤ n → f c ≡ true → 0 < count_to f n
count_some f zero c l u e = absurd (omega arith)
count_some f (suc n) c l u e =
    let a = count_push f n in
    elim (cases_eq c (suc n)) [
      | inl same ↦ let z = counts_one (f (suc n)) (subst (λ k. f k ≡ true) same e) in omega (arith, a, z)
      | inr ne ↦ let r = count_some f n c l (omega arith) e in omega (arith, a, r)
    ]

-- what none of the first n numbers passes

pub none_to : (p : ℕ → Bool) (n c : ℕ) → list_any p (numbers_to n) ≡ false → 1 ≤ c → c ≤ n → p c ≡ false
none_to p zero c h l u = absurd (omega arith)
none_to p (suc n) c h l u =
    let k = or_parts (list_any p (numbers_to n)) (list_any p (suc n ∷ [])) (sym (list_any-append p (numbers_to n) (suc n ∷ [])) ∙ h) in
    elim (cases_eq c (suc n)) [
      | inl same ↦ subst (λ m. p m ≡ false) (sym same) (or_parts (p (suc n)) false k.1).0
      | inr ne ↦ none_to p n c k.0 l (omega arith)
    ]

pub none_that : (p : ℕ → Bool) (ns : List ℕ) → first_that p ns ≡ None → list_any p ns ≡ false
none_that p [] h = refl
none_that p (n ∷ ns) h = at (p n) (none_that p ns) h
  where
    at : (b : Bool) → (first_that p ns ≡ None → list_any p ns ≡ false) → cond b (Some n) (first_that p ns) ≡ None
        → (b || list_any p ns) ≡ false
    at true r e = absurd (cc)
    at false r e = r e

pub numbered_from_one : {X : Type 0} (xs : List X) (n : ℕ) → is_some (nth xs n) ≡ true → 1 ≤ n
numbered_from_one xs zero h = absurd (false≢true h)
numbered_from_one xs (suc n) h = omega arith
