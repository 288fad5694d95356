-- Rows that are numbered from 1 without a gap.
use Rattle.std.proofs.Common.{◌≡◌, ℕ, zero, suc, ◌+◌, ◌-◌, ◌<◌, ◌≤◌, Bool, true, false, ◌&&◌, ◌||◌, cond, List, [], ◌∷◌}
use Rattle.std.proofs.Common.{length, Option, Some, None, refl, sym, ap, ◌∙◌, subst, inl, inr, arith, map, nat_eq}
use Rattle.std.proofs.Common.{nat_le, nat_lt, zero-add}
use Rattle.std.proofs.Math.Bool.{or-false}
use Rattle.std.proofs.lemmas.Bool.{eq-eqb, lt-ltb}
use Rattle.desk_core.proofs.Common.{In, and_left, and_parts, are_numbered_from, cases_lt, cases_order, count_by}
use Rattle.desk_core.proofs.Common.{eqb-true, is_between, le-leb, le-ltb, list_any, lt-leb, ne_eqb, or_from, slice_get}
use Rattle.desk_core.proofs.Common.{some_and}
use Rattle.desk_core.proofs.Counts.{count_cons, count_none}

-- the row with this number
abbrev pub nth : {R : Type 0} → List R → ℕ → Option R
nth rows n = cond (nat_le 1 n) (slice_get rows (n - 1)) None

pub nth_suc : {R : Type 0} (rows : List R) (j : ℕ) → nth rows (suc j) ≡ slice_get rows j
nth_suc rows j =
    let le : 1 ≤ suc j = omega arith in
    let e : suc j - 1 ≡ j = omega arith in
    ap (λ b. cond b (slice_get rows (suc j - 1)) None) (le-leb 1 (suc j) le) ∙ ap (slice_get rows) e

pub numbered_map : {R S : Type 0} (key : S → ℕ) (f : R → S) (n : ℕ) (rows : List R)
    → are_numbered_from key n (map f rows) ≡ are_numbered_from (λ r. key (f r)) n rows
numbered_map key f n [] = refl
numbered_map key f n (x ∷ xs) = ap (λ b. nat_eq (key (f x)) n && b) (numbered_map key f (suc n) xs)

module _ {R : Type 0} (key : R → ℕ) where
  none_below : (p : R → Bool) (n : ℕ) (rows : List R) (c : ℕ) → are_numbered_from key n rows ≡ true → c < n
      → list_any (λ r. nat_eq (key r) c && p r) rows ≡ false
  none_below p n [] c h l = refl
  none_below p n (x ∷ xs) c h l =
      let both = and_parts (nat_eq (key x) n) (are_numbered_from key (suc n) xs) h in
      let k = eqb-true (key x) n both.0 in
      or_from (nat_eq (key x) c && p x) (list_any (λ r. nat_eq (key r) c && p r) xs)
      (and_left (nat_eq (key x) c) (p x) (ne_eqb (key x) c (λ e. absurd (omega (arith, k, e, l)))))
      (none_below p (suc n) xs c both.1 (omega (arith, l)))

  any_from : (p : R → Bool) (n : ℕ) (rows : List R) (j : ℕ) → are_numbered_from key n rows ≡ true
      → list_any (λ r. nat_eq (key r) (n + j) && p r) rows ≡ some_and p (slice_get rows j)
  any_from p n [] j h = refl
  any_from p n (x ∷ xs) zero h =
      let both = and_parts (nat_eq (key x) n) (are_numbered_from key (suc n) xs) h in
      let z : n + 0 ≡ n = omega arith in
      subst (λ m. list_any (λ r. nat_eq (key r) m && p r) (x ∷ xs) ≡ p x) (sym z)
      (ap (λ b. (b && p x) || list_any (λ r. nat_eq (key r) n && p r) xs) both.0
      ∙ (ap (λ b. p x || b) (none_below p (suc n) xs n both.1 (omega arith)) ∙ or-false (p x)))
  any_from p n (x ∷ xs) (suc j) h =
      let both = and_parts (nat_eq (key x) n) (are_numbered_from key (suc n) xs) h in
      let k = eqb-true (key x) n both.0 in
      let z : suc n + j ≡ n + suc j = omega arith in
      ap (λ b. (b && p x) || list_any (λ r. nat_eq (key r) (n + suc j) && p r) xs) (ne_eqb (key x) (n + suc j) (λ e. absurd (omega (arith, k, e))))
      ∙ subst (λ m. list_any (λ r. nat_eq (key r) m && p r) xs ≡ some_and p (slice_get xs j)) z (any_from p (suc n) xs j both.1)

  -- the row with a number passes a test
  pub any_numbered : (p : R → Bool) (rows : List R) (c : ℕ) → are_numbered_from key 1 rows ≡ true
      → list_any (λ r. nat_eq (key r) c && p r) rows ≡ some_and p (nth rows c)
  any_numbered p rows zero h = none_below p 1 rows 0 h (omega arith)
  any_numbered p rows (suc j) h =
      let z : 1 + j ≡ suc j = omega arith in
      subst (λ m. list_any (λ r. nat_eq (key r) m && p r) rows ≡ some_and p (slice_get rows j)) z (any_from p 1 rows j h) ∙ ap (some_and p) (sym (nth_suc rows j))

  between : (n : ℕ) (rows : List R) (c : ℕ) → are_numbered_from key n rows ≡ true
      → list_any (λ r. nat_eq (key r) c) rows ≡ (nat_le n c && nat_lt c (n + length rows))
  between n [] c h = elim (cases_lt c n) [
    | inl lt ↦ rw (lt-leb n c lt) refl
    | inr le ↦ let z : n + 0 ≤ c = omega (arith, le) in rw (le-leb n c le, le-ltb c (n + 0) z) refl
  ]
  between n (x ∷ xs) c h =
      let both = and_parts (nat_eq (key x) n) (are_numbered_from key (suc n) xs) h in
      let k = eqb-true (key x) n both.0 in
      ap (λ b. nat_eq (key x) c || b) (between (suc n) xs c both.1) ∙ ap (λ m. nat_eq m c || (nat_le (suc n) c && nat_lt c (suc n + length xs))) k ∙ step c (length xs)
    where
      step : (c l : ℕ)
          → (nat_eq n c || (nat_le (suc n) c && nat_lt c (suc n + l))) ≡ (nat_le n c && nat_lt c (n + suc l))
      step c l = elim (cases_order n c) [
        | inl e ↦
            let le : n ≤ c = omega (arith, e) in
            let lt : c < n + suc l = omega (arith, e) in
            rw (eq-eqb n c e, le-leb n c le, lt-ltb c (n + suc l) lt) refl
        | inr o ↦ elim o [
          | inl lt ↦
              let le : n ≤ c = omega (arith, lt) in
              let more : suc n ≤ c = omega (arith, lt) in
              let z : suc n + l ≡ n + suc l = omega arith in
              rw (ne_eqb n c (λ e. absurd (omega (arith, e, lt))), le-leb n c le, le-leb (suc n) c more) (ap (nat_lt c) z)
          | inr gt ↦
              let more : c < suc n = omega (arith, gt) in
              rw (ne_eqb n c (λ e. absurd (omega (arith, e, gt))), lt-leb n c gt, lt-leb (suc n) c more) refl
        ]
      ]

  -- a row has a number from 1 to how many there are
  pub has_number : (rows : List R) (c : ℕ) → are_numbered_from key 1 rows ≡ true
      → list_any (λ r. nat_eq (key r) c) rows ≡ is_between 1 (length rows) c
  has_number rows c h = between 1 rows c h ∙ ap (λ b. nat_le 1 c && b) (upto c (length rows))
    where
      upto : (c n : ℕ) → nat_lt c (1 + n) ≡ nat_le c n
      upto c n = elim (cases_lt n c) [
        | inl lt ↦ let le : 1 + n ≤ c = omega (arith, lt) in rw (le-ltb c (1 + n) le, lt-leb c n lt) refl
        | inr le ↦ let lt : c < 1 + n = omega (arith, le) in rw (lt-ltb c (1 + n) lt, le-leb c n le) refl
      ]

  -- what stands at a place in the list has that place's number
  place_from : (n : ℕ) (rows : List R) (r : R) → are_numbered_from key n rows ≡ true → In r rows
      → (j : ℕ) × (j < length rows) × (key r ≡ n + j) × (slice_get rows j ≡ Some r)
  place_from n [] r h i = absurd i
  place_from n (x ∷ xs) r h (inl e) =
      let both = and_parts (nat_eq (key x) n) (are_numbered_from key (suc n) xs) h in
      let k = eqb-true (key x) n both.0 in
      let s = ap key e in
      (0, omega arith, omega (arith, k, s), ap Some (sym e))
  place_from n (x ∷ xs) r h (inr i) =
      let both = and_parts (nat_eq (key x) n) (are_numbered_from key (suc n) xs) h in
      let p = place_from (suc n) xs r both.1 i in
      let at = p.1 in
      let is = p.2 in
      (suc p.0, omega (arith, at), omega (arith, is), p.3)

  pub own_number : (rows : List R) (r : R) → are_numbered_from key 1 rows ≡ true → In r rows
      → (1 ≤ key r) × (key r ≤ length rows) × (nth rows (key r) ≡ Some r)
  own_number rows r h i =
      let p = place_from 1 rows r h i in
      let at = p.1 in
      let is : key r ≡ suc p.0 = let k = p.2 in omega (arith, k) in
      (omega (arith, is), omega (arith, is, at), subst (λ m. nth rows m ≡ Some r) (sym is) (nth_suc rows p.0 ∙ p.3))

  -- of the rows with a row's number, that row alone
  pub once : (p : R → Bool) (n : ℕ) (rows : List R) (r : R) → are_numbered_from key n rows ≡ true → In r rows
      → p r ≡ true → count_by (λ x. nat_eq (key x) (key r) && p x) rows ≡ 1
  once p n [] r h i t = absurd i
  once p n (x ∷ xs) r h (inl e) t =
      let both = and_parts (nat_eq (key x) n) (are_numbered_from key (suc n) xs) h in
      let k = eqb-true (key x) n both.0 in
      let s = ap key e in
      let below : key r < suc n = omega (arith, k, s) in
      let none = count_none (λ y. nat_eq (key y) (key r) && p y) xs (none_below p (suc n) xs (key r) both.1 below) in
      count_cons (λ y. nat_eq (key y) (key r) && p y) x xs
      ∙ ap (λ b. cond (b && p x) 1 0 + count_by (λ y. nat_eq (key y) (key r) && p y) xs) (eq-eqb (key x) (key r) (sym s))
      ∙ ap (λ b. cond b 1 0 + count_by (λ y. nat_eq (key y) (key r) && p y) xs) (ap p (sym e) ∙ t)
      ∙ ap (λ m. 1 + m) none
  once p n (x ∷ xs) r h (inr i) t =
      let both = and_parts (nat_eq (key x) n) (are_numbered_from key (suc n) xs) h in
      let k = eqb-true (key x) n both.0 in
      let place = place_from (suc n) xs r both.1 i in
      let is = place.2 in
      count_cons (λ y. nat_eq (key y) (key r) && p y) x xs
      ∙ ap (λ b. cond (b && p x) 1 0 + count_by (λ y. nat_eq (key y) (key r) && p y) xs) (ne_eqb (key x) (key r) (λ e. absurd (omega (arith, k, is, e))))
      ∙ zero-add (count_by (λ y. nat_eq (key y) (key r) && p y) xs)
      ∙ once p (suc n) xs r both.1 i t
