-- Lists in an order: what `in_order` gives, and that a stable sort gives nothing else.
use Rattle.std.proofs.Common.{◌≡◌, ℕ, zero, suc, ◌+◌, ◌<◌, ◌≤◌, Bool, true, false, not, ◌&&◌, cond, List, [], ◌∷◌}
use Rattle.std.proofs.Common.{length, get_or, map, refl, sym, ap, ◌∙◌, subst, arith, nat_lt, ◌==◌}
use Rattle.std.specs.List.{filter}
use Rattle.desk_core.proofs.Common.{All-from_recursion, AllByRecursion, Equal, Greater, IsInOrder, IsPermutation}
use Rattle.desk_core.proofs.Common.{IsPermutation-cons, IsPermutation-middle, IsPermutation-refl, IsPermutation-sym}
use Rattle.desk_core.proofs.Common.{IsPermutation-trans, IsSortedBy, IsSortedByKey, IsStableBy, IsStableByKey}
use Rattle.desk_core.proofs.Common.{IsStrictWeakOrder, Less, false≢true, in_order, is_lt, nat_cmp, nat_cmp_total}
use Rattle.desk_core.proofs.Common.{put_in_order, ranks_by, recursion_from_All, sorted_far, ties}

-- a fact of each element, by recursion on the list
each-filter : {X : Type 0} (P : X → Type 0) (test : X → Bool) (xs : List X) → AllByRecursion P xs
    → AllByRecursion P (filter test xs)
each-filter P test [] h = tt
each-filter P test (x ∷ xs) h =
    elim (test x) as (λ b. AllByRecursion P (cond b (x ∷ filter test xs) (filter test xs))) [
      | true ↦ (h.0, each-filter P test xs h.1)
      | false ↦ each-filter P test xs h.1
    ]

pub is_lt-nat_cmp : (m n : ℕ) → is_lt (nat_cmp m n) ≡ nat_lt m n
is_lt-nat_cmp m n = elim (nat_lt m n) as (λ b. is_lt (cond b Less (cond (m == n) Equal Greater)) ≡ b) [ true ↦ refl | false ↦ elim (m == n) as (λ b. is_lt (cond b Equal Greater) ≡ false) [ true ↦ refl | false ↦ refl ] ]

pub neither : (a b : Bool) → (not a && not b) ≡ true → (a ≡ false) × (b ≡ false)
neither true b e = absurd (false≢true e)
neither false true e = absurd (false≢true e)
neither false false e = (refl, refl)

module _ {X : Type 0} (lt : X → X → Bool) where
  -- nothing in the list is before x
  abbrev pub NoneBefore : X → List X → Type 0
  NoneBefore x = AllByRecursion (λ y. lt y x ≡ false)

  -- none is before one that stands ahead of it
  abbrev pub InOrder : List X → Type 0
  InOrder [] = Unit {0}
  InOrder (x ∷ xs) = NoneBefore x xs × InOrder xs

  module _ (order : IsStrictWeakOrder lt) where
    not_itself : (x : X) → lt x x ≡ false
    not_itself x = elim (lt x x) as (λ b. lt x x ≡ b → lt x x ≡ false) [ true ↦ λ h. order.one_way x x h | false ↦ λ h. h ] refl

    ties-itself : (x : X) → ties lt x x ≡ true
    ties-itself x = rw (not_itself x) refl

    -- ---- a list in order is the only one with its elements, and with those that tie in their order

    -- what the list begins with is no later than anything of another list with the same elements
    first_fits : (x : X) (xs ys : List X) → filter (ties lt x) (x ∷ xs) ≡ filter (ties lt x) ys → (P : X → Type 0)
        → AllByRecursion P ys → P x
    first_fits x xs ys same P each =
        let kept : AllByRecursion P (filter (ties lt x) ys) = each-filter P (ties lt x) ys each in
        let e : x ∷ filter (ties lt x) xs ≡ filter (ties lt x) ys =
        ap (λ b. cond b (x ∷ filter (ties lt x) xs) (filter (ties lt x) xs)) (sym (ties-itself x)) ∙ same in
        (subst (AllByRecursion P) (sym e) kept).0

    tails : (b : Bool) (x : X) (xs ys : List X) → cond b (x ∷ xs) xs ≡ cond b (x ∷ ys) ys → xs ≡ ys
    tails true x xs ys e = cc
    tails false x xs ys e = e

    heads : (x y : X) (xs ys : List X) → ties lt x y ≡ true → filter (ties lt x) (y ∷ ys) ≡ filter (ties lt x) (x ∷ xs)
        → y ≡ x
    heads x y xs ys tie same =
        let e : y ∷ filter (ties lt x) ys ≡ x ∷ filter (ties lt x) xs =
        ap (λ b. cond b (y ∷ filter (ties lt x) ys) (filter (ties lt x) ys)) (sym tie) ∙ same ∙ ap (λ b. cond b (x ∷ filter (ties lt x) xs) (filter (ties lt x) xs)) (ties-itself x) in
        cc

    pub same_in_order : (xs ys : List X) → InOrder xs → InOrder ys → IsStableBy lt xs ys → ys ≡ xs
    same_in_order [] [] h k same = refl
    same_in_order [] (y ∷ ys) h k same = absurd (first_fits y ys [] (same y) (λ _. ⊥) tt)
    same_in_order (x ∷ xs) [] h k same = absurd (first_fits x xs [] (sym (same x)) (λ _. ⊥) tt)
    same_in_order (x ∷ xs) (y ∷ ys) h k same =
        let later : lt y x ≡ false = first_fits y ys (x ∷ xs) (same y) (λ z. lt z x ≡ false) (not_itself x, h.0) in
        let earlier : lt x y ≡ false =
        first_fits x xs (y ∷ ys) (sym (same x)) (λ z. lt z y ≡ false) (not_itself y, k.0) in
        let tie : ties lt x y ≡ true = rw (later, earlier) refl in
        let first : y ≡ x = heads x y xs ys tie (same x) in
        let others : IsStableBy lt xs ys = λ z. tails (ties lt z x) x (filter (ties lt z) ys) (filter (ties lt z) xs)
        (subst (λ (w : X). cond (ties lt z w) (w ∷ filter (ties lt z) ys) (filter (ties lt z) ys) ≡ cond (ties lt z x) (x ∷ filter (ties lt z) xs) (filter (ties lt z) xs)) first (same z)) in
        let rest : ys ≡ xs = same_in_order xs ys h.1 k.1 others in
        cc

    -- ---- `in_order` is in order

    none_before-put : (P : X → Type 0) (x : X) (ys : List X) → P x → AllByRecursion P ys
        → AllByRecursion P (put_in_order lt x ys)
    none_before-put P x [] h k = (h, tt)
    none_before-put P x (y ∷ ys) h k =
        elim (lt y x) as (λ b. AllByRecursion P (cond b (y ∷ put_in_order lt x ys) (x ∷ y ∷ ys))) [
          | true ↦ (k.0, none_before-put P x ys h k.1)
          | false ↦ (h, k)
        ]

    none_before-chain : (x y : X) (zs : List X) → lt y x ≡ false → NoneBefore y zs → NoneBefore x zs
    none_before-chain x y [] h k = tt
    none_before-chain x y (z ∷ zs) h k = (order.chain z y x k.0 h, none_before-chain x y zs h k.1)

    put-in_order_at : (x y : X) (ys : List X) (b : Bool) → lt y x ≡ b → InOrder (y ∷ ys)
        → InOrder (put_in_order lt x ys) → InOrder (cond b (y ∷ put_in_order lt x ys) (x ∷ y ∷ ys))
    put-in_order_at x y ys true e h put = (none_before-put (λ z. lt z y ≡ false) x ys (order.one_way y x e) h.0, put)
    put-in_order_at x y ys false e h put = ((e, none_before-chain x y ys e h.0), h)

    put-in_order : (x : X) (ys : List X) → InOrder ys → InOrder (put_in_order lt x ys)
    put-in_order x [] h = (tt, tt)
    put-in_order x (y ∷ ys) h = put-in_order_at x y ys (lt y x) refl h (put-in_order x ys h.1)

    pub in_order-is : (xs : List X) → InOrder (in_order lt xs)
    in_order-is [] = tt
    in_order-is (x ∷ xs) = put-in_order x (in_order lt xs) (in_order-is xs)

    -- ---- and those that tie keep their order

    not_both : (a x y : X) → lt y x ≡ true → ties lt a x ≡ true → ties lt a y ≡ true → ⊥
    not_both a x y before tie_x tie_y =
        false≢true (sym (order.chain y a x (neither (lt a y) (lt y a) tie_y).1 (neither (lt a x) (lt x a) tie_x).0) ∙ before)

    past : (x y : X) (zs ys : List X) (tie_y tie_x : Bool) → (tie_x ≡ true → tie_y ≡ true → ⊥)
        → zs ≡ cond tie_x (x ∷ ys) ys
        → cond tie_y (y ∷ zs) zs ≡ cond tie_x (x ∷ cond tie_y (y ∷ ys) ys) (cond tie_y (y ∷ ys) ys)
    past x y zs ys true true apart e = absurd (apart refl refl)
    past x y zs ys true false apart e = ap (λ vs. y ∷ vs) e
    past x y zs ys false true apart e = e
    past x y zs ys false false apart e = e

    filter-put_at : (a x y : X) (ys : List X) (b : Bool) → lt y x ≡ b
        → filter (ties lt a) (put_in_order lt x ys) ≡ filter (ties lt a) (x ∷ ys)
        → filter (ties lt a) (cond b (y ∷ put_in_order lt x ys) (x ∷ y ∷ ys)) ≡ filter (ties lt a) (x ∷ y ∷ ys)
    filter-put_at a x y ys true e put =
        past x y _ _ (ties lt a y) (ties lt a x) (not_both a x y e) put
    filter-put_at a x y ys false e put = refl

    filter-put : (a x : X) (ys : List X) → filter (ties lt a) (put_in_order lt x ys) ≡ filter (ties lt a) (x ∷ ys)
    filter-put a x [] = refl
    filter-put a x (y ∷ ys) = filter-put_at a x y ys (lt y x) refl (filter-put a x ys)

    pub in_order-stable : (xs : List X) → IsStableBy lt xs (in_order lt xs)
    in_order-stable [] a = refl
    in_order-stable (x ∷ xs) a =
        filter-put a x (in_order lt xs) ∙ ap (λ zs. cond (ties lt a x) (x ∷ zs) zs) (in_order-stable xs a)

    -- ---- what a stable sort gives

    in_order-far : (xs : List X)
        → ((i j : ℕ) (d : X) → i ≤ j → j < length xs → lt (get_or xs j d) (get_or xs i d) ≡ false) → InOrder xs
    in_order-far [] far = tt
    in_order-far (x ∷ xs) far = (
      recursion_from_All (λ y. lt y x ≡ false) xs (λ k d h. far 0 (suc k) d (omega arith) (omega arith)),
      in_order-far xs (λ i j d h l. far (suc i) (suc j) d (omega arith) (omega arith)),
    )

    pub sorted-is : (xs ys : List X) → IsSortedBy lt ys → IsStableBy lt xs ys → ys ≡ in_order lt xs
    sorted-is xs ys sorted stable =
        same_in_order (in_order lt xs) ys (in_order-is xs) (in_order-far ys (sorted_far lt order ys sorted)) (λ a. stable a ∙ sym (in_order-stable xs a))

-- the same order by another name
pub in_order-agree : {X : Type 0} (lt also : X → X → Bool) → ((x y : X) → lt x y ≡ also x y) → (xs : List X)
    → in_order lt xs ≡ in_order also xs
in_order-agree lt also agree xs = ap (λ test. in_order test xs) (λ i x y. agree x y i)

put_in_order-map : {X Y : Type 0} (f : X → Y) (lt : Y → Y → Bool) (x : X) (ys : List X)
    → map f (put_in_order (λ a b. lt (f a) (f b)) x ys) ≡ put_in_order lt (f x) (map f ys)
put_in_order-map f lt x [] = refl
put_in_order-map f lt x (y ∷ ys) =
    elim (lt (f y) (f x)) as (λ b. map f (cond b (y ∷ put_in_order (λ a b. lt (f a) (f b)) x ys) (x ∷ y ∷ ys)) ≡ cond b (f y ∷ put_in_order lt (f x) (map f ys)) (f x ∷ f y ∷ map f ys)) [
      | true ↦ ap (λ zs. f y ∷ zs) (put_in_order-map f lt x ys)
      | false ↦ refl
    ]

-- things that are put in the order of what they show, and what they show put in order
pub in_order-map : {X Y : Type 0} (f : X → Y) (lt : Y → Y → Bool) (xs : List X)
    → map f (in_order (λ a b. lt (f a) (f b)) xs) ≡ in_order lt (map f xs)
in_order-map f lt [] = refl
in_order-map f lt (x ∷ xs) = put_in_order-map f lt x _ ∙ ap (put_in_order lt (f x)) (in_order-map f lt xs)

-- what a stable sort by a number gives
pub sorted_by_number-is : {X : Type 0} (number : X → ℕ) (xs ys : List X) → IsSortedByKey number nat_cmp ys
    → IsStableByKey number nat_cmp xs ys → ys ≡ in_order (λ x y. nat_lt (number x) (number y)) xs
sorted_by_number-is number xs ys sorted stable =
    sorted-is _ (ranks_by nat_cmp_total number) xs ys sorted stable ∙ in_order-agree _ _ (λ x y. is_lt-nat_cmp (number x) (number y)) xs

module _ {X : Type 0} (lt : X → X → Bool) where
  permutation-put : (x : X) (ys : List X) → IsPermutation (x ∷ ys) (put_in_order lt x ys)
  permutation-put x [] = IsPermutation-refl (x ∷ [])
  permutation-put x (y ∷ ys) =
      elim (lt y x) as (λ b. IsPermutation (x ∷ y ∷ ys) (cond b (y ∷ put_in_order lt x ys) (x ∷ y ∷ ys))) [
        | true ↦ IsPermutation-trans _ (y ∷ x ∷ ys) _ (IsPermutation-sym _ _ (IsPermutation-middle (y ∷ []) x ys)) (IsPermutation-cons y _ _ (permutation-put x ys))
        | false ↦ IsPermutation-refl (x ∷ y ∷ ys)
      ]

  pub in_order-permutation : (xs : List X) → IsPermutation xs (in_order lt xs)
  in_order-permutation [] = IsPermutation-refl []
  in_order-permutation (x ∷ xs) =
      IsPermutation-trans _ (x ∷ in_order lt xs) _ (IsPermutation-cons x _ _ (in_order-permutation xs)) (permutation-put x (in_order lt xs))

  -- at any two places
  pub far-in_order : (xs : List X) → InOrder lt xs → IsStrictWeakOrder lt → (i j : ℕ) (d : X) → i ≤ j → j < length xs
      → lt (get_or xs j d) (get_or xs i d) ≡ false
  far-in_order [] h order i j d low high = absurd (omega arith)
  far-in_order (x ∷ xs) h order zero zero d low high = not_itself lt order x
  far-in_order (x ∷ xs) h order zero (suc j) d low high =
      All-from_recursion (λ y. lt y x ≡ false) xs h.0 j d (omega arith)
  far-in_order (x ∷ xs) h order (suc i) zero d low high = absurd (omega arith)
  far-in_order (x ∷ xs) h order (suc i) (suc j) d low high = far-in_order xs h.1 order i j d (omega arith) (omega arith)

  pub in_order-sorts : IsStrictWeakOrder lt → (xs : List X) → IsInOrder lt xs (in_order lt xs)
  in_order-sorts order xs = record {
    same = in_order-permutation xs;
    sorted = λ k d low high. far-in_order (in_order lt xs) (in_order-is lt order xs) order k (k + 1) d (omega arith) high;
    stable = in_order-stable lt order xs;
  }
