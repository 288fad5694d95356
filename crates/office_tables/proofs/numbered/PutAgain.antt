-- A row that is taken out and then put again: it stands in place of the one that was there.
use Rattle.std.proofs.Common.{◌≡◌, ℕ, ◌<◌, pos, true, false, not, nat_eq, List, [], ◌∷◌, filter, Less, Equal, Greater}
use Rattle.std.proofs.Common.{inl, inr, refl, sym, ap, ◌∙◌, arith}
use Rattle.std.specs.Prelude.{nat_lt}
use Rattle.office_tables.proofs.Common.{AllByRecursion, Rises, all_weaker, cases_Bool, int_cmp, ltb-true, nat_tests}
use Rattle.office_tables.proofs.Common.{put_by}
use Rattle.office_tables.proofs.numbered.Counted.{below_less, less_below}

greater : (m n : ℕ) → n < m → int_cmp (pos m) (pos n) ≡ Greater
greater m n h =
    let e : nat_lt m n ≡ false = grind (arith, nat_tests, h) in
    let k : nat_lt n m ≡ true = grind (arith, nat_tests, h) in
    rw (e, k) refl

equal : (m n : ℕ) → nat_lt m n ≡ false → nat_lt n m ≡ false → int_cmp (pos m) (pos n) ≡ Equal
equal m n e k = rw (e, k) refl

module _ {A : Type 0} (number : A → ℕ) where
  all_kept : (n : ℕ) (xs : List A) → AllByRecursion (λ x. n < number x) xs
      → filter (λ x. not (nat_eq n (number x))) xs ≡ xs
  all_kept n [] h = refl
  all_kept n (x ∷ xs) h =
      let k = h.0 in
      let e : nat_eq n (number x) ≡ false = grind (arith, nat_tests, k) in
      rw e (ap (λ l. x ∷ l) (all_kept n xs h.1))

  put_first : (new : A) (xs : List A) → AllByRecursion (λ x. number new < number x) xs
      → put_by (λ x. pos (number x)) new xs ≡ new ∷ xs
  put_first new [] h = refl
  put_first new (x ∷ xs) h = rw (greater (number x) (number new) h.0) refl

  pub put_gone : (new : A) (xs : List A) → Rises (λ a b. int_cmp (pos (number a)) (pos (number b))) xs
      → put_by (λ x. pos (number x)) new (filter (λ x. not (nat_eq (number new) (number x))) xs) ≡ put_by (λ x. pos (number x)) new xs
  put_gone new [] up = refl
  put_gone new (x ∷ xs) up = elim (cases_Bool (nat_lt (number x) (number new))) [
    | inl before ↦
        let e : nat_eq (number new) (number x) ≡ false = grind (arith, nat_tests, before) in
        rw (e, below_less (number x) (number new) (ltb-true (number x) (number new) before)) (ap (λ l. x ∷ l) (put_gone new xs up.1))
    | inr not_before ↦ elim (cases_Bool (nat_lt (number new) (number x))) [
      | inl after ↦
          let e : nat_eq (number new) (number x) ≡ false = grind (arith, nat_tests, after) in
          let rest = all_kept (number new) xs (all_weaker (λ y. int_cmp (pos (number x)) (pos (number y)) ≡ Less) (λ y. number new < number y) (λ y h. let k = less_below (number x) (number y) h in grind (arith, nat_tests, after, k)) xs up.0) in
          rw e (ap (λ l. put_by (λ x. pos (number x)) new (x ∷ l)) rest)
      | inr not_after ↦
          let e : nat_eq (number new) (number x) ≡ true = grind (arith, nat_tests, not_before, not_after) in
          let above = all_weaker (λ y. int_cmp (pos (number x)) (pos (number y)) ≡ Less) (λ y. number new < number y) (λ y h. let k = less_below (number x) (number y) h in grind (arith, nat_tests, not_after, k)) xs up.0 in
          let here : put_by (λ x. pos (number x)) new (x ∷ xs) ≡ new ∷ xs =
          rw (equal (number x) (number new) not_before not_after) refl in
          rw e (ap (put_by (λ x. pos (number x)) new) (all_kept (number new) xs above) ∙ put_first new xs above ∙ sym here)
    ]
  ]
