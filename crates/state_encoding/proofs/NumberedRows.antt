-- Rows that are numbered from 1 without a gap.
use Rattle.std.proofs.Common.{◌≡◌, ℕ, zero, suc, ◌+◌, ◌<◌, Bool, true, false, ◌&&◌, ◌||◌, List, [], ◌∷◌, length, Option}
use Rattle.std.proofs.Common.{Some, None, refl, sym, ap, ◌∙◌, subst, inl, inr, arith}
use Rattle.std.proofs.Math.Bool.{or-false}
use Rattle.std.specs.Prelude.{map, nat_eq}
use Rattle.state_encoding.proofs.Common.{AllByRecursion, AreInOrder, StandsIn, and_from, and_left, and_parts}
use Rattle.state_encoding.proofs.Common.{are_numbered_from, eqb-true, is_some, list_any, nth, option_map, or_from}
use Rattle.state_encoding.proofs.Common.{other_number, rows_from, same_number, slice_get, some_and}
use Rattle.state_encoding.proofs.Members.{any_same}

module _ {R : Type 0} (key : R → ℕ) where
  -- the rows from n on, by their places

  pub own_number : (n : ℕ) (rows : List R) (j : ℕ) (r : R) → are_numbered_from key n rows ≡ true
      → slice_get rows j ≡ Some r → key r ≡ n + j
  own_number n [] j r h e = absurd (cc)
  own_number n (x ∷ xs) zero r h e =
      let both = and_parts (nat_eq (key x) n) (are_numbered_from key (suc n) xs) h in
      let k = eqb-true (key x) n both.0 in
      let s : x ≡ r = cc in
      let a = ap key s in
      omega (arith, k, a)
  own_number n (x ∷ xs) (suc j) r h e =
      let both = and_parts (nat_eq (key x) n) (are_numbered_from key (suc n) xs) h in
      let k = own_number (suc n) xs j r both.1 e in
      omega (arith, k)

  pub none_below : (p : R → Bool) (n : ℕ) (rows : List R) (c : ℕ) → are_numbered_from key n rows ≡ true → c < n
      → list_any (λ r. nat_eq (key r) c && p r) rows ≡ false
  none_below p n [] c h l = refl
  none_below p n (x ∷ xs) c h l =
      let both = and_parts (nat_eq (key x) n) (are_numbered_from key (suc n) xs) h in
      let k = eqb-true (key x) n both.0 in
      or_from (nat_eq (key x) c && p x) (list_any (λ r. nat_eq (key r) c && p r) xs) (and_left (nat_eq (key x) c) (p x) (other_number (key x) c (λ e. omega (arith, k, e, l)))) (none_below p (suc n) xs c both.1 (omega (arith, l)))

  pub any_from : (p : R → Bool) (n : ℕ) (rows : List R) (j : ℕ) → are_numbered_from key n rows ≡ true
      → list_any (λ r. nat_eq (key r) (n + j) && p r) rows ≡ some_and p (slice_get rows j)
  any_from p n [] j h = refl
  any_from p n (x ∷ xs) zero h =
      let both = and_parts (nat_eq (key x) n) (are_numbered_from key (suc n) xs) h in
      let z : n + 0 ≡ n = omega arith in
      subst (λ m. list_any (λ r. nat_eq (key r) m && p r) (x ∷ xs) ≡ p x) (sym z)
      (ap (λ b. (b && p x) || list_any (λ r. nat_eq (key r) n && p r) xs) both.0
      ∙ (ap (λ b. p x || b) (none_below p (suc n) xs n both.1 (omega arith)) ∙ or-false (p x)))
  any_from p n (x ∷ xs) (suc j) h =
      let both = and_parts (nat_eq (key x) n) (are_numbered_from key (suc n) xs) h in
      let k = eqb-true (key x) n both.0 in
      let z : suc n + j ≡ n + suc j = omega arith in
      ap (λ b. (b && p x) || list_any (λ r. nat_eq (key r) (n + suc j) && p r) xs) (other_number (key x) (n + suc j) (λ e. omega (arith, k, e)))
      ∙ subst (λ m. list_any (λ r. nat_eq (key r) m && p r) xs ≡ some_and p (slice_get xs j)) z (any_from p (suc n) xs j both.1)

  -- rows that begin with 1

  pub any_numbered : (p : R → Bool) (rows : List R) (c : ℕ) → are_numbered_from key 1 rows ≡ true
      → list_any (λ r. nat_eq (key r) c && p r) rows ≡ some_and p (nth rows c)
  any_numbered p rows zero h = none_below p 1 rows 0 h (omega arith)
  any_numbered p rows (suc j) h =
      let z : 1 + j ≡ suc j = omega arith in
      subst (λ m. list_any (λ r. nat_eq (key r) m && p r) rows ≡ some_and p (slice_get rows j)) z (any_from p 1 rows j h)

  pub known_numbered : (rows : List R) (c : ℕ) → are_numbered_from key 1 rows ≡ true
      → list_any (λ r. nat_eq (key r) c) rows ≡ is_some (nth rows c)
  known_numbered rows c h =
      any_same (λ r. nat_eq (key r) c) (λ r. nat_eq (key r) c && true) rows (λ r. so (nat_eq (key r) c))
      ∙ (any_numbered (λ r. true) rows c h ∙ there (nth rows c))
    where
      so : (b : Bool) → b ≡ (b && true)
      so true = refl
      so false = refl

      there : (r : Option R) → some_and (λ x. true) r ≡ is_some r
      there None = refl
      there (Some x) = refl

  pub has_number : (rows : List R) (m : ℕ) (r : R) → are_numbered_from key 1 rows ≡ true → nth rows m ≡ Some r
      → key r ≡ m
  has_number rows zero r h e = absurd (cc)
  has_number rows (suc j) r h e = let k = own_number 1 rows j r h e in omega (arith, k)

  in_at : (rows : List R) (r : R) → StandsIn r rows → (j : ℕ) × (slice_get rows j ≡ Some r)
  in_at [] r k = absurd k
  in_at (x ∷ xs) r k = elim k [ inl e ↦ (0, ap Some (sym e)) | inr l ↦ let i = in_at xs r l in (suc i.0, i.1) ]

  pub by_number : (rows : List R) (r : R) → are_numbered_from key 1 rows ≡ true → StandsIn r rows
      → nth rows (key r) ≡ Some r
  by_number rows r h k =
      let i = in_at rows r k in
      let e = own_number 1 rows i.0 r h i.1 in
      let s : suc i.0 ≡ key r = omega (arith, e) in
      subst (λ m. nth rows m ≡ Some r) s i.1

  above_all : (m n : ℕ) (rows : List R) → are_numbered_from key n rows ≡ true → m < n
      → AllByRecursion (λ r. m < key r) rows
  above_all m n [] h l = tt
  above_all m n (x ∷ xs) h l =
      let both = and_parts (nat_eq (key x) n) (are_numbered_from key (suc n) xs) h in
      let k = eqb-true (key x) n both.0 in
      (omega (arith, k, l), above_all m (suc n) xs both.1 (omega (arith, l)))

  pub in_order : (n : ℕ) (rows : List R) → are_numbered_from key n rows ≡ true → AreInOrder (λ a b. key a < key b) rows
  in_order n [] h = tt
  in_order n (x ∷ xs) h =
      let both = and_parts (nat_eq (key x) n) (are_numbered_from key (suc n) xs) h in
      let k = eqb-true (key x) n both.0 in
      (above_all (key x) (suc n) xs both.1 (omega (arith, k)), in_order (suc n) xs both.1)

pub stands_at : {X : Type 0} (xs : List X) (x : X) → StandsIn x xs → (n : ℕ) × (nth xs n ≡ Some x)
stands_at [] x k = absurd k
stands_at (y ∷ ys) x k = elim k [ inl e ↦ (1, ap Some (sym e)) | inr l ↦ later (stands_at ys x l) ]
  where
    later : (n : ℕ) × (nth ys n ≡ Some x) → (n : ℕ) × (nth (y ∷ ys) n ≡ Some x)
    later i = at i.0 i.1
      where
        at : (n : ℕ) → nth ys n ≡ Some x → (n : ℕ) × (nth (y ∷ ys) n ≡ Some x)
        at zero e = absurd (cc)
        at (suc n) e = (suc (suc n), e)

pub numbered_in : {X : Type 0} (xs : List X) (n : ℕ) (x : X) → nth xs n ≡ Some x → StandsIn x xs
numbered_in xs zero x e = absurd (cc)
numbered_in [] (suc n) x e = absurd (cc)
numbered_in (y ∷ ys) (suc zero) x e = inl (cc)
numbered_in (y ∷ ys) (suc (suc n)) x e = inr (numbered_in ys (suc n) x e)

pub numbered-map : {X Y : Type 0} (f : X → Y) (xs : List X) (n : ℕ) → nth (map f xs) n ≡ option_map f (nth xs n)
numbered-map f xs zero = refl
numbered-map f [] (suc n) = refl
numbered-map f (x ∷ xs) (suc zero) = refl
numbered-map f (x ∷ xs) (suc (suc n)) = numbered-map f xs (suc n)

-- ---- the rows of a list

module _ {X R : Type 0} (row : ℕ → X → R) where
  pub length-rows : (n : ℕ) (xs : List X) → length (rows_from row n xs) ≡ length xs
  length-rows n [] = refl
  length-rows n (x ∷ xs) = ap suc (length-rows (suc n) xs)

  pub rows_are_numbered : (key : R → ℕ) → ((n : ℕ) (x : X) → key (row n x) ≡ n) → (n : ℕ) (xs : List X)
      → are_numbered_from key n (rows_from row n xs) ≡ true
  rows_are_numbered key e n [] = refl
  rows_are_numbered key e n (x ∷ xs) =
      and_from (nat_eq (key (row n x)) n) (are_numbered_from key (suc n) (rows_from row (suc n) xs)) (ap (λ k. nat_eq k n) (e n x) ∙ same_number n) (rows_are_numbered key e (suc n) xs)

  get_row : (n : ℕ) (xs : List X) (j : ℕ) → slice_get (rows_from row n xs) j ≡ option_map (row (n + j)) (slice_get xs j)
  get_row n [] j = refl
  get_row n (x ∷ xs) zero = let e : n ≡ n + 0 = omega arith in ap (λ k. Some (row k x)) e
  get_row n (x ∷ xs) (suc j) = let e : suc n + j ≡ n + suc j = omega arith in get_row (suc n) xs j ∙ ap (λ k. option_map (row k) (slice_get xs j)) e

  pub numbered-rows : (xs : List X) (n : ℕ) → nth (rows_from row 1 xs) n ≡ option_map (row n) (nth xs n)
  numbered-rows xs zero = refl
  numbered-rows xs (suc j) = let e : 1 + j ≡ suc j = omega arith in get_row 1 xs j ∙ ap (λ k. option_map (row k) (slice_get xs j)) e

  in_rows_from : (n : ℕ) (xs : List X) (r : R) → StandsIn r (rows_from row n xs)
      → (j : ℕ) × (x : X) × (slice_get xs j ≡ Some x) × (r ≡ row (n + j) x)
  in_rows_from n [] r k = absurd k
  in_rows_from n (x ∷ xs) r k =
      elim k [
        | inl e ↦ (0, x, refl, e ∙ (let z : n ≡ n + 0 = omega arith in ap (λ m. row m x) z))
        | inr l ↦
            let i = in_rows_from (suc n) xs r l in
            let z : suc n + i.0 ≡ n + suc i.0 = omega arith in
            (suc i.0, i.1, i.2, i.3 ∙ ap (λ m. row m i.1) z)
      ]

  -- a row is that of some number
  pub in_rows : (xs : List X) (r : R) → StandsIn r (rows_from row 1 xs)
      → (m : ℕ) × (x : X) × (nth xs m ≡ Some x) × (r ≡ row m x)
  in_rows xs r k =
      let i = in_rows_from 1 xs r k in
      let z : 1 + i.0 ≡ suc i.0 = omega arith in
      (suc i.0, i.1, i.2, i.3 ∙ ap (λ m. row m i.1) z)

  -- the rows of what rows say are those rows
  pub rows_again : (key : R → ℕ) (back : R → X) (n : ℕ) (rows : List R) → are_numbered_from key n rows ≡ true
      → ((r : R) → StandsIn r rows → row (key r) (back r) ≡ r) → rows_from row n (map back rows) ≡ rows
  rows_again key back n [] h f = refl
  rows_again key back n (r ∷ rows) h f =
      let both = and_parts (nat_eq (key r) n) (are_numbered_from key (suc n) rows) h in
      ap (λ l. row n (back r) ∷ l) (rows_again key back (suc n) rows both.1 (λ x k. f x (inr k)))
      ∙ (ap (λ m. row m (back r) ∷ rows) (sym (eqb-true (key r) n both.0)) ∙ ap (λ x. x ∷ rows) (f r (inl refl)))
