-- Rows that are put in the order of their keys are those that stood in it, whatever order they came in.
use Rattle.std.proofs.Common.{◌≡◌, ◌⊎◌, ℕ, ◌+◌, ◌*◌, ◌<◌, ◌≤◌, Bool, true, false, not, ◌&&◌, ◌||◌, if◌then◌else◌, List}
use Rattle.std.proofs.Common.{[], ◌∷◌, ◌++◌, refl, sym, ap, ◌∙◌, subst, inl, inr, arith, nat_eq, nat_lt}
use Rattle.std.specs.List.{IsDistinct}
use Rattle.tree_core.proofs.Members.{Round, round}
use Rattle.desk_core.specs.Orders.{in_order}
use Rattle.row_decoding.specs.TableRows.{by, then_by}
use Rattle.state_encoding.proofs.Common.{AreInOrder, Empty, Forest, In, In-append, In-append_left, In-append_right}
use Rattle.state_encoding.proofs.Common.{In-permutation, IsDistinct-IsPermutation, IsPermutation, IsPermutation-sym}
use Rattle.state_encoding.proofs.Common.{Node, Span, false≢true, lt-ltb, put_in_order, size, spans_from}
use Rattle.state_encoding.proofs.Members.{all_in, all_of_in}
use Rattle.state_encoding.proofs.Grouped.{order_weaker}

in_middle : {X : Type 0} (x z : X) (l r : List X) → In z (l ++ x ∷ r) → (z ≡ x) ⊎ In z (l ++ r)
in_middle {X} x z l r h = elim (In-append l (x ∷ r) z h) [ inl i ↦ inr (In-append_left l r z i) | inr j ↦ at j ]
  where
    at : In z (x ∷ r) → (z ≡ x) ⊎ In z (l ++ r)
    at (inl e) = inl e
    at (inr i) = inr (In-append_right l r z i)

in_more : {X : Type 0} (x z : X) (l r : List X) → In z (l ++ r) → In z (l ++ x ∷ r)
in_more x z l r h = elim (In-append l r z h) [ inl i ↦ In-append_left l (x ∷ r) z i | inr j ↦ In-append_right l (x ∷ r) z (inr j) ]

module _ {X : Type 0} (before : X → X → Bool) where
  -- the one stands before the other, and only so
  abbrev pub Precedes : X → X → Type 0
  Precedes a b = (before a b ≡ true) × (before b a ≡ false)

  put_back : (l r : List X) (x : X) → AreInOrder Precedes (l ++ x ∷ r) → put_in_order before x (l ++ r) ≡ l ++ x ∷ r
  put_back [] [] x h = refl
  put_back [] (y ∷ ys) x h = ap (λ b. if b then y ∷ put_in_order before x ys else x ∷ y ∷ ys) h.0.0.1
  put_back (y ∷ ys) r x h =
      ap (λ b. if b then y ∷ put_in_order before x (ys ++ r) else x ∷ y ∷ (ys ++ r)) (all_in (Precedes y) (ys ++ x ∷ r) x h.0 (In-append_right ys (x ∷ r) x (inl refl))).0
      ∙ ap (λ l. y ∷ l) (put_back ys r x h.1)

  without : (l r : List X) (x : X) → AreInOrder Precedes (l ++ x ∷ r) → AreInOrder Precedes (l ++ r)
  without [] r x h = h.1
  without (y ∷ ys) r x h =
      (all_of_in (Precedes y) (ys ++ r) (λ z k. all_in (Precedes y) (ys ++ x ∷ r) z h.0 (in_more x z ys r k)), without ys r x h.1)

  -- neither stands before the other
  abbrev alike : X → X → Bool
  alike a b = not (before a b || before b a)

  alike_flips : (a b : X) → alike a b ≡ alike b a
  alike_flips a b = elim (before a b) as (λ p. not (p || before b a) ≡ not (before b a || p)) [
    | true ↦ elim (before b a) as (λ q. not (true || q) ≡ not (q || true)) [ true ↦ refl | false ↦ refl ]
    | false ↦ elim (before b a) as (λ q. not (false || q) ≡ not (q || false)) [ true ↦ refl | false ↦ refl ]
  ]

  apart : (xs : List X) → AreInOrder Precedes xs → IsDistinct alike xs
  unfolding IsDistinct
  apart [] h = tt
  apart (x ∷ xs) h = (all_of_in (λ y. alike x y ≡ false) xs (λ y k. ap (λ b. not (b || before y x)) (all_in (Precedes x) xs y h.0 k).0), apart xs h.1)

  module _ (itself : (x : X) → before x x ≡ false) where
    alike_itself : (x : X) → alike x x ≡ true
    alike_itself x = ap (λ b. not (b || b)) (itself x)

    not_again : (x : X) (xs : List X) → IsDistinct alike (x ∷ xs) → In x xs → ⊥
    unfolding IsDistinct
    not_again x xs d i = false≢true (sym (all_in (λ y. alike x y ≡ false) xs x d.0 i) ∙ alike_itself x)

    rest_apart : (x : X) (xs : List X) → IsDistinct alike (x ∷ xs) → IsDistinct alike xs
    unfolding IsDistinct
    rest_apart x xs d = d.1

    not_twice : (l r : List X) (x : X) → AreInOrder Precedes (l ++ x ∷ r) → In x (l ++ r) → ⊥
    not_twice [] r x h i = false≢true (sym (itself x) ∙ (all_in (Precedes x) r x h.0 i).0)
    not_twice (y ∷ ys) r x h (inl e) =
        false≢true (sym (itself x) ∙ subst (λ z. before z x ≡ true) (sym e) (all_in (Precedes y) (ys ++ x ∷ r) x h.0 (In-append_right ys (x ∷ r) x (inl refl))).0)
    not_twice (y ∷ ys) r x h (inr i) = not_twice ys r x h.1 i

    ordered_from : (xs rows : List X) → AreInOrder Precedes rows → IsDistinct alike xs → ((z : X) → In z xs → In z rows)
        → ((z : X) → In z rows → In z xs) → in_order before xs ≡ rows
    ordered_from [] [] h d there back = refl
    ordered_from [] (y ∷ ys) h d there back = absurd (back y (inl refl))
    ordered_from (x ∷ xs) rows h d there back =
        let r : Round x rows = round x rows (there x (inl refl)) in
        let l = r.before in
        let m = r.behind in
        let ordered : AreInOrder Precedes (l ++ x ∷ m) = subst (AreInOrder Precedes) r.is h in
        let rest : in_order before xs ≡ l ++ m =
        ordered_from xs (l ++ m) (without l m x ordered) (rest_apart x xs d)
        (λ z i. elim (in_middle x z l m (subst (In z) r.is (there z (inr i)))) [ inl e ↦ absurd (not_again x xs d (subst (λ w. In w xs) e i)) | inr k ↦ k ])
        (λ z i. elim (back z (subst (In z) (sym r.is) (in_more x z l m i))) [ inl e ↦ absurd (not_twice l m x ordered (subst (λ w. In w (l ++ m)) e i)) | inr k ↦ k ]) in
        ap (put_in_order before x) rest ∙ (put_back l m x ordered ∙ sym r.is)

    pub ordered_again : (rows xs : List X) → AreInOrder Precedes rows → IsPermutation rows xs
        → in_order before xs ≡ rows
    ordered_again rows xs h same =
        ordered_from xs rows h (IsDistinct-IsPermutation alike alike_flips rows xs same (apart rows h))
        (λ z i. In-permutation rows xs z same i) (λ z i. In-permutation xs rows z (IsPermutation-sym rows xs same) i)

-- ---- by numbers

not_itself : (n : ℕ) → nat_lt n n ≡ false
not_itself n = grind arith

not_below : (m n : ℕ) → m < n → nat_lt n m ≡ false
not_below m n l = grind (arith, l)

abbrev goes : ℕ → ℕ → ℕ → ℕ → Bool
goes m k n l = nat_lt m n || (nat_eq m n && nat_lt k l)

pair_itself : (m k : ℕ) → goes m k m k ≡ false
pair_itself m k = grind arith

first_below : (m k n l : ℕ) → m < n → goes n l m k ≡ false
first_below m k n l h = grind (arith, h)

second_goes : (m k n l : ℕ) → m ≡ n → k < l → goes m k n l ≡ true
second_goes m k n l e h = grind (arith, e, h)

second_below : (m k n l : ℕ) → m ≡ n → k < l → goes n l m k ≡ false
second_below m k n l e h = grind (arith, e, h)

pub by_again : {X : Type 0} (key : X → ℕ) (rows xs : List X) → AreInOrder (λ a b. key a < key b) rows
    → IsPermutation rows xs → in_order (by key) xs ≡ rows
by_again key rows xs h same =
    ordered_again (by key) (λ x. not_itself (key x)) rows xs
    (order_weaker (λ a b. key a < key b) (Precedes (by key)) rows (λ a b l. (lt-ltb (key a) (key b) l, not_below (key a) (key b) l)) h) same

pub then_by_again : {X : Type 0} (key second : X → ℕ) (rows xs : List X)
    → AreInOrder (λ a b. (key a < key b) ⊎ ((key a ≡ key b) × (second a < second b))) rows → IsPermutation rows xs
    → in_order (then_by key second) xs ≡ rows
then_by_again {X} key second rows xs h same =
    ordered_again (then_by key second) (λ x. pair_itself (key x) (second x)) rows xs
    (order_weaker (λ a b. (key a < key b) ⊎ ((key a ≡ key b) × (second a < second b))) (Precedes (then_by key second)) rows precedes h) same
  where
    precedes : (a b : X) → (key a < key b) ⊎ ((key a ≡ key b) × (second a < second b))
        → Precedes (then_by key second) a b
    precedes a b (inl l) = (ap (λ p. p || (nat_eq (key a) (key b) && nat_lt (second a) (second b))) (lt-ltb (key a) (key b) l), first_below (key a) (second a) (key b) (second b) l)
    precedes a b (inr e) = (second_goes (key a) (second a) (key b) (second b) e.0 e.1, second_below (key a) (second a) (key b) (second b) e.0 e.1)

-- ---- span rows, as they are numbered

abbrev IsFirst : Span → Span → Type 0
IsFirst a b = a.lft < b.lft

within : (k : ℕ) (f : Forest ℕ) (span : Span) → In span (spans_from k f) → (k ≤ span.lft) × (span.lft < k + 2 * size f)
within k Empty span i = absurd i
within k (Node u c o) span (inl e) =
    (omega (arith, ap (λ (s : Span). s.lft) e), omega (arith, ap (λ (s : Span). s.lft) e))
within k (Node u c o) span (inr i) = elim (In-append (spans_from (k + 1) c) (spans_from (k + 2 * size c + 2) o) span i) [
  | inl j ↦ let w = within (k + 1) c span j in (omega (arith, w), omega (arith, w))
  | inr j ↦ let w = within (k + 2 * size c + 2) o span j in (omega (arith, w), omega (arith, w))
]

order-append : (xs ys : List Span) → AreInOrder IsFirst xs → AreInOrder IsFirst ys
    → ((a b : Span) → In a xs → In b ys → IsFirst a b) → AreInOrder IsFirst (xs ++ ys)
order-append [] ys h k f = k
order-append (x ∷ xs) ys h k f = (
  all_of_in (IsFirst x) (xs ++ ys) (λ z i. elim (In-append xs ys z i) [ inl j ↦ all_in (IsFirst x) xs z h.0 j | inr j ↦ f x z (inl refl) j ]),
  order-append xs ys h.1 k (λ a b i j. f a b (inr i) j),
)

pub spans_in_order : (k : ℕ) (f : Forest ℕ) → AreInOrder (λ (a b : Span). a.lft < b.lft) (spans_from k f)
spans_in_order k Empty = tt
spans_in_order k (Node u c o) = (
  all_of_in (IsFirst (record { id = u; lft = k; rgt = k + 2 * size c + 1 })) (spans_from (k + 1) c ++ spans_from (k + 2 * size c + 2) o) (λ z i. elim (In-append (spans_from (k + 1) c) (spans_from (k + 2 * size c + 2) o) z i) [
    | inl j ↦ let w = within (k + 1) c z j in omega (arith, w)
    | inr j ↦ let w = within (k + 2 * size c + 2) o z j in omega (arith, w)
  ]),
  order-append (spans_from (k + 1) c) (spans_from (k + 2 * size c + 2) o) (spans_in_order (k + 1) c) (spans_in_order (k + 2 * size c + 2) o)
      (λ a b i j. let v = within (k + 1) c a i in let w = within (k + 2 * size c + 2) o b j in omega (arith, v, w)),
)
