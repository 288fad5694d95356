-- Rows taken by a number of each: those of one number after those of another are all of them.
use Rattle.std.proofs.Common.{◌≡◌, ℕ, zero, suc, ◌+◌, ◌<◌, ◌≤◌, Bool, true, false, cond, not, ◌&&◌, List, [], ◌∷◌, ◌++◌}
use Rattle.std.proofs.Common.{length, Some, refl, sym, ap, ◌∙◌, subst, inl, inr, arith, nat_eq, map}
use Rattle.std.specs.List.{IsDistinct}
use Rattle.tree_core.proofs.Repeats.{distinct_repeats}
use Rattle.office_core.specs.Words.{stands}
use Rattle.state_encoding.proofs.Common.{AllByRecursion, In, In-map, IsPermutation, IsPermutation-append}
use Rattle.state_encoding.proofs.Common.{IsPermutation-filter_both, IsPermutation-refl, IsPermutation-sym}
use Rattle.state_encoding.proofs.Common.{IsPermutation-trans, and_from, and_parts, any_from_In, cases_eq, distinct_cons}
use Rattle.state_encoding.proofs.Common.{eq-eqb, eqb-true, false≢true, filter, find, flat_map, flat_map-cons}
use Rattle.state_encoding.proofs.Common.{head_apart, list_all, list_any, numbers_from, option_to_list, or_cases}
use Rattle.state_encoding.proofs.Common.{or_from, or_parts, other_number}

-- ---- what stands in a list

pub all_in : {X : Type 0} (p : X → Bool) (xs : List X) (x : X) → list_all p xs ≡ true → In x xs → p x ≡ true
all_in p [] x h i = absurd i
all_in p (y ∷ ys) x h (inl e) = ap p e ∙ (and_parts (p y) (list_all p ys) h).0
all_in p (y ∷ ys) x h (inr i) = all_in p ys x (and_parts (p y) (list_all p ys) h).1 i

pub in_all : {X : Type 0} (p : X → Bool) (xs : List X) → ((x : X) → In x xs → p x ≡ true) → list_all p xs ≡ true
in_all p [] h = refl
in_all p (y ∷ ys) h = and_from (p y) (list_all p ys) (h y (inl refl)) (in_all p ys (λ x i. h x (inr i)))

pub each_in : {X : Type 0} (P : X → Type 0) (xs : List X) (x : X) → AllByRecursion P xs → In x xs → P x
each_in P [] x h i = absurd i
each_in P (y ∷ ys) x h (inl e) = subst P (sym e) h.0
each_in P (y ∷ ys) x h (inr i) = each_in P ys x h.1 i

pub in_each : {X : Type 0} (P : X → Type 0) (xs : List X) → ((x : X) → In x xs → P x) → AllByRecursion P xs
in_each P [] h = tt
in_each P (y ∷ ys) h = (h y (inl refl), in_each P ys (λ x i. h x (inr i)))

pub stands_in : (n : ℕ) (ns : List ℕ) → stands n ns ≡ true → In n ns
stands_in n [] h = absurd (false≢true h)
stands_in n (m ∷ ms) h = elim (or_cases (nat_eq n m) (stands n ms) h) [ inl e ↦ inl (eqb-true n m e) | inr k ↦ inr (stands_in n ms k) ]

-- what stands in a mapped list comes from the list
pub record From {X Y : Type 0} (g : X → Y) (xs : List X) (y : Y) : Type 0 where
  pub it : X
  pub there : In it xs
  pub is : g it ≡ y

pub in_map : {X Y : Type 0} (g : X → Y) (xs : List X) (y : Y) → In y (map g xs) → From g xs y
in_map g [] y i = absurd i
in_map g (x ∷ xs) y (inl e) = record { it = x; there = inl refl; is = sym e }
in_map g (x ∷ xs) y (inr i) = let r = in_map g xs y i in record { it = r.it; there = inr r.there; is = r.is }

pub in_filter : {X : Type 0} (p : X → Bool) (xs : List X) (x : X) → In x (filter p xs) → In x xs × (p x ≡ true)
in_filter p [] x i = absurd i
in_filter {X} p (y ∷ ys) x i = at (p y) refl i (λ k. in_filter p ys x k)
  where
    at : (b : Bool) → p y ≡ b → In x (cond b (y ∷ filter p ys) (filter p ys))
        → (In x (filter p ys) → In x ys × (p x ≡ true)) → In x (y ∷ ys) × (p x ≡ true)
    at true e (inl same) f = (inl same, ap p same ∙ e)
    at true e (inr k) f = let r = f k in (inr r.0, r.1)
    at false e k f = let r = f k in (inr r.0, r.1)

-- ---- lists of lists

pub flat_map_same : {X Y : Type 0} (f g : X → List Y) (xs : List X) → ((x : X) → In x xs → f x ≡ g x)
    → flat_map f xs ≡ flat_map g xs
flat_map_same f g [] h = refl
flat_map_same f g (x ∷ xs) h =
    flat_map-cons f x xs
    ∙ (ap (λ l. l ++ flat_map f xs) (h x (inl refl))
    ∙ (ap (λ l. g x ++ l) (flat_map_same f g xs (λ y i. h y (inr i))) ∙ sym (flat_map-cons g x xs)))

pub flat_map_reordered : {X Y : Type 0} (f g : X → List Y) (xs : List X)
    → ((x : X) → In x xs → IsPermutation (f x) (g x)) → IsPermutation (flat_map f xs) (flat_map g xs)
flat_map_reordered f g [] h = IsPermutation-refl []
flat_map_reordered f g (x ∷ xs) h =
    subst (λ l. IsPermutation l (flat_map g (x ∷ xs))) (sym (flat_map-cons f x xs))
    (subst (IsPermutation (f x ++ flat_map f xs)) (sym (flat_map-cons g x xs))
    (IsPermutation-append (f x) (g x) (flat_map f xs) (flat_map g xs) (h x (inl refl)) (flat_map_reordered f g xs (λ y i. h y (inr i)))))

-- ---- rows by a number

module _ {R : Type 0} (key : R → ℕ) where
  abbrev has_key : ℕ → R → Bool
  has_key n r = nat_eq (key r) n

  others_too : (n m : ℕ) (rows : List R) → nat_eq m n ≡ false
      → filter (has_key m) (filter (λ r. not (has_key n r)) rows) ≡ filter (has_key m) rows
  others_too n m [] e = refl
  others_too n m (r ∷ rows) e = at (nat_eq (key r) n) refl (others_too n m rows e)
    where
      at : (b : Bool) → nat_eq (key r) n ≡ b
          → filter (has_key m) (filter (λ r. not (has_key n r)) rows) ≡ filter (has_key m) rows
          → filter (has_key m) (cond (not b) (r ∷ filter (λ r. not (has_key n r)) rows) (filter (λ r. not (has_key n r)) rows)) ≡ cond (nat_eq (key r) m) (r ∷ filter (has_key m) rows) (filter (has_key m) rows)
      at true q h =
          let same : key r ≡ n = eqb-true (key r) n q in
          h ∙ sym (ap (λ b. cond b (r ∷ filter (has_key m) rows) (filter (has_key m) rows)) (other_number (key r) m (λ k. false≢true (sym e ∙ eq-eqb m n (sym k ∙ same)))))
      at false q h = ap (λ l. cond (nat_eq (key r) m) (r ∷ l) l) h

  -- the rows of each number, one after another
  pub grouped : (ns : List ℕ) (rows : List R) → IsDistinct nat_eq ns → ((r : R) → In r rows → In (key r) ns)
      → IsPermutation (flat_map (λ n. filter (λ r. nat_eq (key r) n) rows) ns) rows
  grouped [] [] d h = IsPermutation-refl []
  grouped [] (r ∷ rows) d h = absurd (h r (inl refl))
  grouped (n ∷ ns) rows d h =
      let mine = filter (has_key n) rows in
      let rest = filter (λ r. not (has_key n r)) rows in
      let p = head_apart n ns d in
      let deeper : IsPermutation (flat_map (λ m. filter (has_key m) rest) ns) rest = grouped ns rest p.1 (λ r i. let k = in_filter (λ r. not (has_key n r)) rows r i in behind r (h r k.0) k.1) in
      let same : flat_map (λ m. filter (has_key m) rest) ns ≡ flat_map (λ m. filter (has_key m) rows) ns =
      flat_map_same (λ m. filter (has_key m) rest) (λ m. filter (has_key m) rows) ns (λ m i. others_too n m rows (apart m i p.0)) in
      subst (λ l. IsPermutation l rows) (sym (flat_map-cons (λ m. filter (has_key m) rows) n ns))
      (IsPermutation-trans (mine ++ flat_map (λ m. filter (has_key m) rows) ns) (mine ++ rest) rows
      (IsPermutation-append mine mine (flat_map (λ m. filter (has_key m) rows) ns) rest (IsPermutation-refl mine) (subst (λ l. IsPermutation l rest) same deeper))
      (IsPermutation-sym rows (mine ++ rest) (IsPermutation-filter_both (has_key n) (λ r. not (has_key n r)) (λ r. refl) rows)))
    where
      behind : (r : R) → In (key r) (n ∷ ns) → not (nat_eq (key r) n) ≡ true → In (key r) ns
      behind r (inl e) t = absurd (false≢true (ap not (sym (eq-eqb (key r) n e)) ∙ t))
      behind r (inr i) t = i

      apart : (m : ℕ) → In m ns → list_any (nat_eq n) ns ≡ false → nat_eq m n ≡ false
      apart m i none = other_number m n (λ e. false≢true (sym none ∙ any_from_In ns n (subst (λ k. In k ns) e i)))

  -- where no two have one number, a row is found by its own
  pub found_by : (rows : List R) (r : R) → IsDistinct nat_eq (map key rows) → In r rows
      → find (λ x. nat_eq (key x) (key r)) rows ≡ Some r
  found_by [] r d i = absurd i
  found_by (x ∷ xs) r d (inl e) =
      ap (λ b. cond b (Some x) (find (λ y. nat_eq (key y) (key r)) xs)) (eq-eqb (key x) (key r) (ap key (sym e)))
      ∙ ap Some (sym e)
  found_by (x ∷ xs) r d (inr i) =
      let p = head_apart (key x) (map key xs) d in
      ap (λ b. cond b (Some x) (find (λ y. nat_eq (key y) (key r)) xs)) (other_number (key x) (key r) (λ e. false≢true (sym p.0 ∙ any_from_In (map key xs) (key x) (subst (λ k. In k (map key xs)) (sym e) (In-map key xs r i)))))
      ∙ found_by xs r p.1 i

-- where no two rows have one number, at most one is kept
pub one_kept : {R : Type 0} (key : R → ℕ) (n : ℕ) (rows : List R) → IsDistinct nat_eq (map key rows)
    → filter (λ r. nat_eq (key r) n) rows ≡ option_to_list (find (λ r. nat_eq (key r) n) rows)
one_kept key n [] d = refl
one_kept {R} key n (r ∷ rows) d = at (nat_eq (key r) n) refl (one_kept key n rows p.1)
  where
    p : (list_any (nat_eq (key r)) (map key rows) ≡ false) × IsDistinct nat_eq (map key rows)
    p = head_apart (key r) (map key rows) d

    none : (xs : List R) → list_any (nat_eq (key r)) (map key xs) ≡ false → key r ≡ n
        → filter (λ x. nat_eq (key x) n) xs ≡ []
    none [] h e = refl
    none (x ∷ xs) h e =
        let q = or_parts (nat_eq (key r) (key x)) (list_any (nat_eq (key r)) (map key xs)) h in
        ap (λ b. cond b (x ∷ filter (λ x. nat_eq (key x) n) xs) (filter (λ x. nat_eq (key x) n) xs)) (other_number (key x) n (λ k. false≢true (sym q.0 ∙ eq-eqb (key r) (key x) (e ∙ sym k))))
        ∙ none xs q.1 e

    at : (b : Bool) → nat_eq (key r) n ≡ b
        → filter (λ x. nat_eq (key x) n) rows ≡ option_to_list (find (λ x. nat_eq (key x) n) rows)
        → cond b (r ∷ filter (λ x. nat_eq (key x) n) rows) (filter (λ x. nat_eq (key x) n) rows) ≡ option_to_list (cond b (Some r) (find (λ x. nat_eq (key x) n) rows))
    at true e h = ap (λ l. r ∷ l) (none rows p.0 (eqb-true (key r) n e))
    at false e h = h

-- ---- numbers in a row

pub in_numbers : (m k n : ℕ) → m ≤ k → k < m + n → In k (numbers_from m n)
in_numbers m k zero a b = absurd (omega arith)
in_numbers m k (suc n) a b = elim (cases_eq k m) [ inl e ↦ inl e | inr other ↦ inr (in_numbers (suc m) k n (omega arith) (omega arith)) ]

pub numbers_length : (m n : ℕ) → length (numbers_from m n) ≡ n
numbers_length m zero = refl
numbers_length m (suc n) = ap suc (numbers_length (suc m) n)

pub numbers_apart : (m n : ℕ) → IsDistinct nat_eq (numbers_from m n)
numbers_apart m zero = distinct_repeats nat_eq [] refl
numbers_apart m (suc n) =
    distinct_cons m (numbers_from (suc m) n) (none m (suc m) n (omega arith)) (numbers_apart (suc m) n)
  where
    none : (k m n : ℕ) → k < m → list_any (nat_eq k) (numbers_from m n) ≡ false
    none k m zero h = refl
    none k m (suc n) h = or_from (nat_eq k m) (list_any (nat_eq k) (numbers_from (suc m) n)) (other_number k m (λ e. omega (arith, h, e))) (none k (suc m) n (omega (arith, h)))

-- ---- the rows of one number

-- where no two rows have one pair of numbers, no two of those with the one have the other
pub own_apart : {R : Type 0} (first second : R → ℕ) (n : ℕ) (rows : List R)
    → IsDistinct (λ a b. nat_eq (first a) (first b) && nat_eq (second a) (second b)) rows
    → IsDistinct nat_eq (map second (filter (λ r. nat_eq (first r) n) rows))
unfolding IsDistinct
own_apart first second n [] d = tt
own_apart {R} first second n (row ∷ rows) d = at (nat_eq (first row) n) refl (own_apart first second n rows d.1)
  where
    more : (x : R) (xs : List R) → first row ≡ n
        → (nat_eq (first row) (first x) && nat_eq (second row) (second x)) ≡ false → (b : Bool) → nat_eq (first x) n ≡ b
        → AllByRecursion (λ k. nat_eq (second row) k ≡ false) (map second (filter (λ r. nat_eq (first r) n) xs))
        → AllByRecursion (λ k. nat_eq (second row) k ≡ false) (map second (cond b (x ∷ filter (λ r. nat_eq (first r) n) xs) (filter (λ r. nat_eq (first r) n) xs)))
    more x xs e h true q r =
        (sym (ap (λ b. b && nat_eq (second row) (second x)) (eq-eqb (first row) (first x) (e ∙ sym (eqb-true (first x) n q)))) ∙ h, r)
    more x xs e h false q r = r

    others : (xs : List R) → first row ≡ n
        → AllByRecursion (λ other. (nat_eq (first row) (first other) && nat_eq (second row) (second other)) ≡ false) xs
        → AllByRecursion (λ k. nat_eq (second row) k ≡ false) (map second (filter (λ r. nat_eq (first r) n) xs))
    others [] e h = tt
    others (x ∷ xs) e h = more x xs e h.0 (nat_eq (first x) n) refl (others xs e h.1)

    at : (b : Bool) → nat_eq (first row) n ≡ b → IsDistinct nat_eq (map second (filter (λ r. nat_eq (first r) n) rows))
        → IsDistinct nat_eq (map second (cond b (row ∷ filter (λ r. nat_eq (first r) n) rows) (filter (λ r. nat_eq (first r) n) rows)))
    at true e r = (others rows (eqb-true (first row) n e) d.0, r)
    at false e r = r
