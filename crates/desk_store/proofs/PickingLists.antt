-- The first order for each container, among those that rise by their numbers.
use Rattle.std.proofs.Common.{◌≡◌, ℕ, zero, suc, ◌+◌, ◌<◌, pos, Bool, true, false, cond, not, ◌&&◌, ◌||◌, nat_eq, List}
use Rattle.std.proofs.Common.{[], ◌∷◌, ◌++◌, filter, length, take, Less, Greater, Equal, refl, sym, ap, ap₂, ◌∙◌, arith}
use Rattle.std.proofs.lemmas.List.Folds.{list_any-append}
use Rattle.std.specs.Prelude.{get_or}
use Rattle.desk_store.proofs.Common.{AllByRecursion, AreByNumber, ContainerOrder, all_has, filter-append, has_at}
use Rattle.desk_store.proofs.Common.{int_cmp, is_earliest, is_eq, less_below, list_any, lt-ltb, nat_cmp, nat_lt}
use Rattle.desk_store.proofs.Common.{nat_tests, take_more}

-- ---- a set of numbers

same_numbers : (a b : ℕ) → is_eq (nat_cmp a b) ≡ nat_eq a b
same_numbers a b = by (nat_lt a b) (nat_eq a b) refl refl
  where
    by : (x y : Bool) → nat_lt a b ≡ x → nat_eq a b ≡ y → is_eq (cond x Less (cond y Equal Greater)) ≡ y
    by true true h k = absurd (grind (arith, nat_tests, h, k))
    by true false h k = refl
    by false true h k = refl
    by false false h k = refl

pub contains_any : (known : List ℕ) (c : ℕ) → list_any (λ k. is_eq (nat_cmp c k)) known ≡ list_any (nat_eq c) known
contains_any [] c = refl
contains_any (k ∷ ks) c = ap₂ ◌||◌ (same_numbers c k) (contains_any ks c)

pub has_more : (old new : List ℕ) (n : ℕ)
    → ((q : ℕ) → list_any (λ k. is_eq (nat_cmp q k)) new ≡ cond (is_eq (nat_cmp n q)) true (list_any (λ k. is_eq (nat_cmp q k)) old))
    → (c : ℕ) → list_any (nat_eq c) new ≡ (nat_eq c n || list_any (nat_eq c) old)
has_more old new n updates c =
    sym (contains_any new c) ∙ updates c ∙ ap₂ (λ (x y : Bool). cond x true y) (same_numbers n c ∙ flipped) (contains_any old c) ∙ go (nat_eq c n)
  where
    flipped : nat_eq n c ≡ nat_eq c n
    flipped = grind (arith, nat_tests)

    go : (b : Bool) → cond b true (list_any (nat_eq c) old) ≡ (b || list_any (nat_eq c) old)
    go true = refl
    go false = refl

-- ---- one more

swap : (a b : Bool) → (a || (b || false)) ≡ (b || a)
swap true true = refl
swap true false = refl
swap false true = refl
swap false false = refl

pub any_more : {A : Type 0} (p : A → Bool) (xs : List A) (i : ℕ) (d : A) → i < length xs
    → list_any p (take (i + 1) xs) ≡ (p (get_or xs i d) || list_any p (take i xs))
any_more p xs i d low =
    ap (list_any p) (take_more xs i d low) ∙ list_any-append p (take i xs) (get_or xs i d ∷ [])
    ∙ swap (list_any p (take i xs)) (p (get_or xs i d))

pub met_more : (orders : List ContainerOrder) (i : ℕ) (d : ContainerOrder) (c : ℕ) (old new : Bool) → i < length orders
    → old ≡ list_any (λ (o : ContainerOrder). nat_eq c o.container) (take i orders)
    → new ≡ (nat_eq c (get_or orders i d).container || old)
    → new ≡ list_any (λ (o : ContainerOrder). nat_eq c o.container) (take (i + 1) orders)
met_more orders i d c old new low so is =
    is ∙ ap (λ b. nat_eq c (get_or orders i d).container || b) so
    ∙ sym (any_more (λ (o : ContainerOrder). nat_eq c o.container) orders i d low)

-- ---- those with a lesser number stand before

less_is : (a b : ℕ) → int_cmp (pos a) (pos b) ≡ Less → nat_lt a b ≡ true
less_is a b h = lt-ltb a b (less_below a b h)

none_below : (q : ContainerOrder → Bool) (x : ContainerOrder) (xs : List ContainerOrder)
    → AllByRecursion (λ (y : ContainerOrder). int_cmp (pos x.order) (pos y.order) ≡ Less) xs
    → list_any (λ (y : ContainerOrder). q y && nat_lt y.order x.order) xs ≡ false
none_below q x [] all = refl
none_below q x (y ∷ ys) all =
    let less = less_is x.order y.order all.0 in
    let over : nat_lt y.order x.order ≡ false = grind (arith, nat_tests, less) in
    rw over (both_none (q y) _ (none_below q x ys all.1))
  where
    both_none : (a b : Bool) → b ≡ false → ((a && false) || b) ≡ false
    both_none true b h = h
    both_none false b h = h

pub before : (q : ContainerOrder → Bool) (xs : List ContainerOrder) (i : ℕ) (d : ContainerOrder)
    → AreByNumber (λ (o : ContainerOrder). o.order) xs → i < length xs
    → list_any (λ (y : ContainerOrder). q y && nat_lt y.order (get_or xs i d).order) xs ≡ list_any q (take i xs)
before q [] i d up low = absurd (omega (arith, low))
before q (x ∷ xs) zero d up low =
    let itself : nat_lt x.order x.order ≡ false = grind (arith, nat_tests) in
    rw itself (first (q x) _ (none_below q x xs up.0))
  where
    first : (a b : Bool) → b ≡ false → ((a && false) || b) ≡ false
    first true b h = h
    first false b h = h
before q (x ∷ xs) (suc i) d up low =
    let within : i < length xs = omega (arith, low) in
    let less = less_is x.order (get_or xs i d).order (all_has (λ (y : ContainerOrder). int_cmp (pos x.order) (pos y.order) ≡ Less) xs (get_or xs i d) up.0 (has_at xs i d within)) in
    rw less (ap₂ ◌||◌ (as_is (q x)) (before q xs i d up.1 within))
  where
    as_is : (a : Bool) → (a && true) ≡ a
    as_is true = refl
    as_is false = refl

pub is_picked : (now : List ℕ) (orders : List ContainerOrder) (i : ℕ) (d : ContainerOrder)
    → AreByNumber (λ (o : ContainerOrder). o.order) orders → i < length orders
    → list_any (nat_eq (get_or orders i d).container) now ≡ list_any (λ (o : ContainerOrder). nat_eq (get_or orders i d).container o.container) (take i orders)
    → not (list_any (nat_eq (get_or orders i d).container) now) ≡ is_earliest (get_or orders i d) orders
is_picked now orders i d up low met =
    let x = get_or orders i d in
    ap not (met ∙ sym (before (λ (o : ContainerOrder). nat_eq x.container o.container) orders i d up low))

-- what is kept of one order more
pub kept_more : (p : ContainerOrder → Bool) (orders : List ContainerOrder) (i : ℕ) (d : ContainerOrder) (done : List ContainerOrder)
    → i < length orders → done ≡ filter p (take i orders)
    → done ++ cond (p (get_or orders i d)) (get_or orders i d ∷ []) [] ≡ filter p (take (i + 1) orders)
kept_more p orders i d done low so =
    ap (λ l. l ++ cond (p (get_or orders i d)) (get_or orders i d ∷ []) []) so
    ∙ sym (ap (filter p) (take_more orders i d low) ∙ filter-append p (take i orders) (get_or orders i d ∷ []))
