-- Rows in ascending order of a number: what is found by each number in turn is all of them.
use Rattle.std.proofs.Common.{◌≡◌, ◌≢◌, ℕ, zero, suc, ◌+◌, ◌<◌, ◌≤◌, Bool, true, false, not, cond, ◌&&◌, ◌||◌, List, []}
use Rattle.std.proofs.Common.{◌∷◌, ◌++◌, Some, None, refl, sym, ap, ◌∙◌, subst, inl, inr, arith}
use Rattle.std.specs.Prelude.{map, filter_map, nat_eq}
use Rattle.state_encoding.proofs.Common.{AreInOrder, StandsIn, cases_eq, cons_option, eqb-true, false≢true, filter}
use Rattle.state_encoding.proofs.Common.{find, flat_map, flat_map-cons, list_any, numbers_from, other_number}
use Rattle.state_encoding.proofs.Common.{same_number}
use Rattle.state_encoding.proofs.Members.{all_in, all_of_in, in_filter, in_map}

module _ {X : Type 0} where
  -- filters

  pub filter_none : (p : X → Bool) (xs : List X) → ((x : X) → StandsIn x xs → p x ≡ false) → filter p xs ≡ []
  filter_none p [] f = refl
  filter_none p (x ∷ xs) f =
      ap (λ b. cond b (x ∷ filter p xs) (filter p xs)) (f x (inl refl)) ∙ filter_none p xs (λ y k. f y (inr k))

  pub filter_all : (p : X → Bool) (xs : List X) → ((x : X) → StandsIn x xs → p x ≡ true) → filter p xs ≡ xs
  filter_all p [] f = refl
  filter_all p (x ∷ xs) f =
      ap (λ b. cond b (x ∷ filter p xs) (filter p xs)) (f x (inl refl))
      ∙ ap (λ l. x ∷ l) (filter_all p xs (λ y k. f y (inr k)))

  -- what the first test lets through, where the second does
  pub filter_filter : (p q : X → Bool) (xs : List X) → ((x : X) → p x ≡ true → q x ≡ true)
      → filter p (filter q xs) ≡ filter p xs
  filter_filter p q [] f = refl
  filter_filter p q (x ∷ xs) f = at (q x) (p x) refl refl (filter_filter p q xs f)
    where
      at : (b c : Bool) → q x ≡ b → p x ≡ c → filter p (filter q xs) ≡ filter p xs
          → filter p (cond b (x ∷ filter q xs) (filter q xs)) ≡ cond c (x ∷ filter p xs) (filter p xs)
      at true true a e h = ap (λ d. cond d (x ∷ filter p (filter q xs)) (filter p (filter q xs))) e ∙ ap (λ l. x ∷ l) h
      at true false a e h = ap (λ d. cond d (x ∷ filter p (filter q xs)) (filter p (filter q xs))) e ∙ h
      at false true a e h = absurd (false≢true (sym a ∙ f x e))
      at false false a e h = h

  pub any_filter : (p q : X → Bool) (xs : List X) → list_any p (filter q xs) ≡ list_any (λ x. p x && q x) xs
  any_filter p q [] = refl
  any_filter p q (x ∷ xs) = at (q x) (p x) refl (any_filter p q xs)
    where
      at : (b c : Bool) → p x ≡ c → list_any p (filter q xs) ≡ list_any (λ x. p x && q x) xs
          → list_any p (cond b (x ∷ filter q xs) (filter q xs)) ≡ ((c && b) || list_any (λ x. p x && q x) xs)
      at true true e h = ap (λ d. d || list_any p (filter q xs)) e
      at true false e h = ap (λ d. d || list_any p (filter q xs)) e ∙ h
      at false true e h = h
      at false false e h = h

  -- orders

  pub order_weaker : (B C : X → X → Type 0) (xs : List X) → ((x y : X) → B x y → C x y) → AreInOrder B xs
      → AreInOrder C xs
  order_weaker B C [] f h = tt
  order_weaker B C (x ∷ xs) f h =
      (all_of_in (C x) xs (λ y k. f x y (all_in (B x) xs y h.0 k)), order_weaker B C xs f h.1)

  pub order-filter : (B : X → X → Type 0) (p : X → Bool) (xs : List X) → AreInOrder B xs → AreInOrder B (filter p xs)
  order-filter B p [] h = tt
  order-filter B p (x ∷ xs) h = at (p x) (order-filter B p xs h.1)
    where
      at : (b : Bool) → AreInOrder B (filter p xs) → AreInOrder B (cond b (x ∷ filter p xs) (filter p xs))
      at true k = (all_of_in (B x) (filter p xs) (λ y m. all_in (B x) xs y h.0 (in_filter p xs y m).0), k)
      at false k = k

  pub order-map : {Y : Type 0} (B : X → X → Type 0) (C : Y → Y → Type 0) (f : X → Y) (xs : List X)
      → ((x y : X) → StandsIn x xs → StandsIn y xs → B x y → C (f x) (f y)) → AreInOrder B xs → AreInOrder C (map f xs)
  order-map B C f [] g h = tt
  order-map B C f (x ∷ xs) g h = (
    all_of_in (C (f x)) (map f xs) (λ y k.
        let i = in_map f xs y k in
        subst (C (f x)) (sym i.2) (g x i.0 (inl refl) (inr i.1) (all_in (B x) xs i.0 h.0 i.1))),
    order-map B C f xs (λ a b k l. g a b (inr k) (inr l)) h.1,
  )

  pub found : (p : X → Bool) (xs : List X) (x : X) → find p xs ≡ Some x → StandsIn x xs × (p x ≡ true)
  found p [] x e = absurd (cc)
  found p (y ∷ ys) x e = at (p y) refl (found p ys x) e
    where
      at : (b : Bool) → p y ≡ b → (find p ys ≡ Some x → StandsIn x ys × (p x ≡ true))
          → cond b (Some y) (find p ys) ≡ Some x → StandsIn x (y ∷ ys) × (p x ≡ true)
      at true q f e = let s : y ≡ x = cc in (inl (sym s), ap p (sym s) ∙ q)
      at false q f e = let r = f e in (inr r.0, r.1)

module _ {R : Type 0} (key : R → ℕ) where
  -- two rows with one number are one
  pub same_row : (rows : List R) (a b : R) → AreInOrder (λ x y. key x ≢ key y) rows → StandsIn a rows → StandsIn b rows
      → key a ≡ key b → a ≡ b
  same_row [] a b h k l e = absurd k
  same_row (r ∷ rows) a b h k l e =
      elim k [
        | inl x ↦ elim l [
          | inl y ↦ x ∙ sym y
          | inr m ↦ absurd (all_in (λ y. key r ≢ key y) rows b h.0 m (sym (ap key x) ∙ e))
        ]
        | inr n ↦ elim l [
          | inl y ↦ absurd (all_in (λ y. key r ≢ key y) rows a h.0 n (sym (ap key y) ∙ sym e))
          | inr m ↦ same_row rows a b h.1 n m e
        ]
      ]

  abbrev is_of : ℕ → R → Bool
  is_of m r = nat_eq (key r) m

  -- the rows have numbers from n on, so many in all
  abbrev pub AreFrom : ℕ → ℕ → List R → Type 0
  AreFrom n more rows = (r : R) → StandsIn r rows → (n ≤ key r) × (key r < n + more)

  find_none : (m : ℕ) (rows : List R) → ((r : R) → StandsIn r rows → key r ≢ m) → find (is_of m) rows ≡ None
  find_none m [] f = refl
  find_none m (r ∷ rows) f =
      ap (λ b. cond b (Some r) (find (is_of m) rows)) (other_number (key r) m (f r (inl refl)))
      ∙ find_none m rows (λ x k. f x (inr k))

  lower : (r : R) (rows : List R) (m more : ℕ) → key r < m
      → filter_map (λ n. find (is_of n) (r ∷ rows)) (numbers_from m more) ≡ filter_map (λ n. find (is_of n) rows) (numbers_from m more)
  lower r rows m zero l = refl
  lower r rows m (suc more) l =
      ap (λ b. cons_option (cond b (Some r) (find (is_of m) rows)) (filter_map (λ n. find (is_of n) (r ∷ rows)) (numbers_from (suc m) more))) (other_number (key r) m (λ e. omega (arith, l, e)))
      ∙ ap (cons_option (find (is_of m) rows)) (lower r rows (suc m) more (omega (arith, l)))

  -- one row or none of each number
  pub found_all : (n more : ℕ) (rows : List R) → AreInOrder (λ a b. key a < key b) rows → AreFrom n more rows
      → filter_map (λ m. find (is_of m) rows) (numbers_from n more) ≡ rows
  found_all n zero [] h f = refl
  found_all n zero (r ∷ rows) h f = let i = f r (inl refl) in let a = i.0 in let b = i.1 in absurd (omega (arith, a, b))
  found_all n (suc more) [] h f = found_all (suc n) more [] tt (λ r k. absurd k)
  found_all n (suc more) (r ∷ rows) h f =
      elim (cases_eq (key r) n) [
        | inl e ↦
            ap (λ b. cons_option (cond b (Some r) (find (is_of n) rows)) (filter_map (λ m. find (is_of m) (r ∷ rows)) (numbers_from (suc n) more))) (ap (λ k. nat_eq k n) e ∙ same_number n)
            ∙ ap (λ l. r ∷ l)
            (lower r rows (suc n) more (omega (arith, e))
            ∙ found_all (suc n) more rows h.1 (λ x k.
            let i = f x (inr k) in
            let b = i.1 in
            let l = all_in (λ y. key r < key y) rows x h.0 k in
            (omega (arith, e, l), omega (arith, b))))
        | inr ne ↦
            ap (λ o. cons_option o (filter_map (λ m. find (is_of m) (r ∷ rows)) (numbers_from (suc n) more))) (find_none n (r ∷ rows) (λ x k. above ne x k))
            ∙ found_all (suc n) more (r ∷ rows) h (λ x k.
            let i = f x k in
            let a = i.0 in
            let b = i.1 in
            let c = above ne x k in
            (omega (arith, a, c), omega (arith, b)))
      ]
    where
      above : key r ≢ n → (x : R) → StandsIn x (r ∷ rows) → key x ≢ n
      above ne x k e =
          elim k [
            | inl s ↦ ne (sym (ap key s) ∙ e)
            | inr l ↦
                let a = (f r (inl refl)).0 in
                let b = all_in (λ y. key r < key y) rows x h.0 l in
                omega (arith, a, b, e)
          ]

  -- the rows of the least number come first
  first_group : (n : ℕ) (rows : List R) → AreInOrder (λ a b. key a ≤ key b) rows
      → ((r : R) → StandsIn r rows → n ≤ key r) → rows ≡ filter (is_of n) rows ++ filter (λ r. not (is_of n r)) rows
  first_group n [] h f = refl
  first_group n (r ∷ rows) h f =
      elim (cases_eq (key r) n) [
        | inl e ↦
            let b : is_of n r ≡ true = ap (λ k. nat_eq k n) e ∙ same_number n in
            ap (λ l. r ∷ l) (first_group n rows h.1 (λ x k. f x (inr k)))
            ∙ ap (λ b. cond b (r ∷ filter (is_of n) rows) (filter (is_of n) rows) ++ cond (not b) (r ∷ filter (λ r. not (is_of n r)) rows) (filter (λ r. not (is_of n r)) rows)) (sym b)
        | inr ne ↦
            let past : (x : R) → StandsIn x (r ∷ rows) → key x ≢ n = λ x k e. elim k [
              | inl s ↦ ne (sym (ap key s) ∙ e)
              | inr l ↦
                  let a = f r (inl refl) in
                  let b = all_in (λ y. key r ≤ key y) rows x h.0 l in
                  absurd (omega (arith, a, b, e, ne))
            ] in
            sym (ap (λ l. l ++ filter (λ r. not (is_of n r)) (r ∷ rows)) (filter_none (is_of n) (r ∷ rows) (λ x k. other_number (key x) n (past x k)))
            ∙ filter_all (λ r. not (is_of n r)) (r ∷ rows) (λ x k. ap not (other_number (key x) n (past x k))))
      ]

  same_groups : (n : ℕ) (rows : List R) (m more : ℕ) → n < m
      → flat_map (λ k. filter (is_of k) rows) (numbers_from m more) ≡ flat_map (λ k. filter (is_of k) (filter (λ r. not (is_of n r)) rows)) (numbers_from m more)
  same_groups n rows m zero l = refl
  same_groups n rows m (suc more) l =
      let rest : List R = filter (λ r. not (is_of n r)) rows in
      flat_map-cons (λ k. filter (is_of k) rows) m (numbers_from (suc m) more)
      ∙ (ap (λ x. filter (is_of m) rows ++ x) (same_groups n rows (suc m) more (omega (arith, l)))
      ∙ (ap (λ x. x ++ flat_map (λ k. filter (is_of k) rest) (numbers_from (suc m) more)) (sym (filter_filter (is_of m) (λ r. not (is_of n r)) rows (λ r e.
      let q = eqb-true (key r) m e in
      ap not (other_number (key r) n (λ z. omega (arith, q, z, l))))))
      ∙ sym (flat_map-cons (λ k. filter (is_of k) rest) m (numbers_from (suc m) more))))

  -- all rows of each number
  pub grouped_all : (n more : ℕ) (rows : List R) → AreInOrder (λ a b. key a ≤ key b) rows → AreFrom n more rows
      → flat_map (λ m. filter (is_of m) rows) (numbers_from n more) ≡ rows
  grouped_all n zero [] h f = refl
  grouped_all n zero (r ∷ rows) h f = let i = f r (inl refl) in let a = i.0 in let b = i.1 in absurd (omega (arith, a, b))
  grouped_all n (suc more) rows h f =
      let rest : List R = filter (λ r. not (is_of n r)) rows in
      flat_map-cons (λ m. filter (is_of m) rows) n (numbers_from (suc n) more)
      ∙ (ap (λ l. filter (is_of n) rows ++ l) (same_groups n rows (suc n) more (omega arith)
      ∙ grouped_all (suc n) more rest (order-filter (λ a b. key a ≤ key b) (λ r. not (is_of n r)) rows h) (λ r k.
      let i = in_filter (λ r. not (is_of n r)) rows r k in
      let b = f r i.0 in
      let low = b.0 in
      let high = b.1 in
      let ne : key r ≢ n = λ e. false≢true (sym (ap not (ap (λ k. nat_eq k n) e ∙ same_number n)) ∙ i.1) in
      (omega (arith, low, ne), omega (arith, high))))
      ∙ sym (first_group n rows h (λ r k. (f r k).0)))
