-- A branch that goes below another node: the nodes are those that there were.
use Rattle.std.proofs.Common.{◌≡◌, ℕ, ◌+◌, ◌≤◌, Bool, true, false, cond, ◌||◌, List, [], ◌∷◌, ◌++◌, Option, Some, None}
use Rattle.std.proofs.Common.{refl, sym, ap, ◌∙◌, subst, inl, inr, ◌⊎◌, arith, append_assoc}
use Rattle.std.proofs.lemmas.List.{append-nil}
use Rattle.tree_core.proofs.Adding.{perm_same, pull}
use Rattle.tree_core.proofs.SpanShifts.{cut_none, none_of}
use Rattle.catalogue_core.proofs.Common.{Empty, Forest, IsPermutation, IsPermutation-append_comm}
use Rattle.catalogue_core.proofs.Common.{IsPermutation-append_left, IsPermutation-append_right, IsPermutation-cons}
use Rattle.catalogue_core.proofs.Common.{IsPermutation-sym, IsPermutation-trans, Node, branch, cut, false≢true, has}
use Rattle.catalogue_core.proofs.Common.{list_any, list_any-IsPermutation, list_any-append, move_last, nodes}
use Rattle.catalogue_core.proofs.Common.{option_map_or, or_cases, put_below, put_last, tree}
use Rattle.catalogue_core.proofs.Rooted.{has_node, nodes-join}

-- ---- how many nodes pass

abbrev pub passing : {A : Type 0} → (A → Bool) → Forest A → ℕ
passing is Empty = 0
passing is (Node a c o) = cond (is a) 1 0 + (passing is c + passing is o)

-- how many of a list pass
abbrev pub many : {A : Type 0} → (A → Bool) → List A → ℕ
many is [] = 0
many is (x ∷ xs) = cond (is x) 1 0 + many is xs

many-append : {A : Type 0} (is : A → Bool) (xs ys : List A) → many is (xs ++ ys) ≡ many is xs + many is ys
many-append is [] ys = omega arith
many-append is (x ∷ xs) ys = (let e = many-append is xs ys in omega (arith, e))

pub passing-many : {A : Type 0} (is : A → Bool) (f : Forest A) → passing is f ≡ many is (nodes f)
passing-many is Empty = refl
passing-many is (Node a c o) =
    let e = many-append is (nodes c) (nodes o) in
    let x = passing-many is c in
    let y = passing-many is o in
    omega (arith, e, x, y)

some_pass : {A : Type 0} (is : A → Bool) (f : Forest A) → has is f ≡ true → 1 ≤ passing is f
some_pass is Empty h = absurd (false≢true h)
some_pass is (Node a c o) h = at (is a) (or_cases (is a) (has is c || has is o) (sym (has_node is a c o) ∙ h)) (some_pass is c) (some_pass is o)
  where
    at : (b : Bool) → (b ≡ true) ⊎ ((has is c || has is o) ≡ true) → (has is c ≡ true → 1 ≤ passing is c)
        → (has is o ≡ true → 1 ≤ passing is o) → 1 ≤ cond b 1 0 + (passing is c + passing is o)
    at true k f g = omega arith
    at false (inl e) f g = absurd (false≢true e)
    at false (inr e) f g = elim (or_cases (has is c) (has is o) e) [ inl x ↦ (let l = f x in omega (arith, l)) | inr x ↦ (let l = g x in omega (arith, l)) ]

-- where the one node that passes stands
pub data Stand {A : Type 0} (is : A → Bool) (a : A) (c o : Forest A) : Type 0 where
  Here : is a ≡ true → has is c ≡ false → has is o ≡ false → Stand is a c o
  Below : is a ≡ false → has is c ≡ true → has is o ≡ false → Stand is a c o
  Beside : is a ≡ false → has is c ≡ false → has is o ≡ true → Stand is a c o

pub stand : {A : Type 0} (is : A → Bool) (a : A) (c o : Forest A) → passing is (Node a c o) ≤ 1
    → has is (Node a c o) ≡ true → Stand is a c o
stand is a c o few h = at (is a) (has is c) (has is o) refl refl refl few (sym (has_node is a c o) ∙ h)
  where
    at : (b x y : Bool) → is a ≡ b → has is c ≡ x → has is o ≡ y → cond b 1 0 + (passing is c + passing is o) ≤ 1
        → (b || (x || y)) ≡ true → Stand is a c o
    at true true y e p q l k = (let one = some_pass is c p in absurd (omega (arith, one, l)))
    at true false true e p q l k = (let one = some_pass is o q in absurd (omega (arith, one, l)))
    at true false false e p q l k = Here e p q
    at false true true e p q l k = (let one = some_pass is c p in let two = some_pass is o q in absurd (omega (arith, one, two, l)))
    at false true false e p q l k = Below e p q
    at false false true e p q l k = Beside e p q
    at false false false e p q l k = absurd (false≢true k)

pub few_below : {A : Type 0} (is : A → Bool) (a : A) (c o : Forest A) → passing is (Node a c o) ≤ 1 → passing is c ≤ 1
few_below is a c o h = omega (arith, h)

pub few_beside : {A : Type 0} (is : A → Bool) (a : A) (c o : Forest A) → passing is (Node a c o) ≤ 1 → passing is o ≤ 1
few_beside is a c o h = omega (arith, h)

pub passing_cut : {A : Type 0} (is gone : A → Bool) (f : Forest A) → passing is (cut gone f) ≤ passing is f
passing_cut is gone Empty = omega arith
passing_cut is gone (Node a c o) = at (gone a) (passing_cut is gone c) (passing_cut is gone o)
  where
    at : (b : Bool) → passing is (cut gone c) ≤ passing is c → passing is (cut gone o) ≤ passing is o
        → passing is (cond b (cut gone o) (Node a (cut gone c) (cut gone o))) ≤ cond (is a) 1 0 + (passing is c + passing is o)
    at true x y = omega (arith, y)
    at false x y = omega (arith, x, y)

-- ---- a node that is not there

pub put_none : {A : Type 0} (is : A → Bool) (g f : Forest A) → has is f ≡ false → put_below is g f ≡ f
put_none is g Empty h = refl
put_none is g (Node a c o) h = (let n = none_of is a c o h in rw (n.0, put_none is g c n.1, put_none is g o n.2) refl)

-- ---- what is taken away and what stays are all that there was

-- of a first element, of those behind it of which some come first, and of the rest
in_children : {X : Type 0} (x : X) (front old new rest : List X) → IsPermutation old (front ++ new)
    → IsPermutation (x ∷ (old ++ rest)) (front ++ (x ∷ (new ++ rest)))
in_children x front old new rest h =
    IsPermutation-trans (x ∷ (old ++ rest)) (x ∷ (front ++ (new ++ rest))) (front ++ (x ∷ (new ++ rest)))
    (IsPermutation-cons x (old ++ rest) (front ++ (new ++ rest)) (subst (IsPermutation (old ++ rest)) (append_assoc front new rest) (IsPermutation-append_left rest old (front ++ new) h)))
    (pull (x ∷ []) front (new ++ rest))

in_others : {X : Type 0} (x : X) (front children old new : List X) → IsPermutation old (front ++ new)
    → IsPermutation (x ∷ (children ++ old)) (front ++ (x ∷ (children ++ new)))
in_others x front children old new h =
    IsPermutation-trans (x ∷ (children ++ old)) ((x ∷ children) ++ (front ++ new)) (front ++ (x ∷ (children ++ new)))
    (IsPermutation-cons x (children ++ old) (children ++ (front ++ new)) (IsPermutation-append_right children old (front ++ new) h))
    (pull (x ∷ children) front new)

pub tree_and_cut : {A : Type 0} (is : A → Bool) (f : Forest A) → passing is f ≤ 1 → has is f ≡ true
    → IsPermutation (nodes f) (branch is f ++ nodes (cut is f))
tree_and_cut is Empty few h = absurd (false≢true h)
tree_and_cut is (Node a c o) few h =
    elim (stand is a c o few h) [
      | Here e p q ↦ rw (e, cut_none is o q) (perm_same (a ∷ (nodes c ++ nodes o)) (a ∷ ((nodes c ++ []) ++ nodes o)) (ap (λ l. a ∷ (l ++ nodes o)) (sym (append-nil (nodes c)))))
      | Below e p q ↦ rw (e, p, cut_none is o q) (in_children a (branch is c) (nodes c) (nodes (cut is c)) (nodes o) (tree_and_cut is c (few_below is a c o few) p))
      | Beside e p q ↦ rw (e, p, cut_none is c p) (in_others a (branch is o) (nodes c) (nodes o) (nodes (cut is o)) (tree_and_cut is o (few_beside is a c o few) q))
    ]

pub put_adds : {A : Type 0} (is : A → Bool) (g f : Forest A) → passing is f ≤ 1 → has is f ≡ true
    → IsPermutation (nodes (put_below is g f)) (nodes g ++ nodes f)
put_adds is g Empty few h = absurd (false≢true h)
put_adds is g (Node a c o) few h =
    elim (stand is a c o few h) [
      | Here e p q ↦ rw (e, put_none is g o q, nodes-join c g) (in_children a (nodes g) (nodes c ++ nodes g) (nodes c) (nodes o) (IsPermutation-append_comm (nodes c) (nodes g)))
      | Below e p q ↦ rw (e, put_none is g o q) (in_children a (nodes g) (nodes (put_below is g c)) (nodes c) (nodes o) (put_adds is g c (few_below is a c o few) p))
      | Beside e p q ↦ rw (e, put_none is g c p) (in_others a (nodes g) (nodes c) (nodes (put_below is g o)) (nodes o) (put_adds is g o (few_beside is a c o few) q))
    ]

-- ---- a branch that moves

-- p is there once, or is the place above the tops
abbrev pub IsOnePlace : {A : Type 0} → (ℕ → A → Bool) → Option ℕ → Forest A → Type 0
IsOnePlace is None f = Unit {0}
IsOnePlace is (Some p) f = (passing (is p) f ≤ 1) × (has (is p) f ≡ true)

-- p does not stand in the branch of u
abbrev pub IsElsewhere : {A : Type 0} → (ℕ → A → Bool) → ℕ → Option ℕ → Forest A → Type 0
IsElsewhere is u p f = option_map_or (λ v. list_any (is v) (branch (is u) f)) p false ≡ false

put_last_adds : {A : Type 0} (is : ℕ → A → Bool) (p : Option ℕ) (g f : Forest A) → IsOnePlace is p f
    → IsPermutation (nodes (put_last is p g f)) (nodes g ++ nodes f)
put_last_adds is None g f h =
    subst (λ l. IsPermutation l (nodes g ++ nodes f)) (sym (nodes-join f g)) (IsPermutation-append_comm (nodes f) (nodes g))
put_last_adds is (Some p) g f h = put_adds (is p) g f h.0 h.1

pub still_place : {A : Type 0} (is : ℕ → A → Bool) (u : ℕ) (p : Option ℕ) (f : Forest A) → passing (is u) f ≤ 1
    → has (is u) f ≡ true → IsOnePlace is p f → IsElsewhere is u p f → IsOnePlace is p (cut (is u) f)
still_place is u None f few h one away = tt
still_place is u (Some p) f few h one away =
    let l = passing_cut (is p) (is u) f in (
      omega (arith, l, one.0),
      (ap (λ b. b || list_any (is p) (nodes (cut (is u) f))) (sym away)
          ∙ (sym (list_any-append (is p) (branch (is u) f) (nodes (cut (is u) f)))
          ∙ (sym (list_any-IsPermutation (is p) (nodes f) (branch (is u) f ++ nodes (cut (is u) f)) (tree_and_cut (is u) f few h))
          ∙ one.1))),
    )

pub moved_same : {A : Type 0} (is : ℕ → A → Bool) (u : ℕ) (p : Option ℕ) (f : Forest A) → passing (is u) f ≤ 1
    → has (is u) f ≡ true → IsOnePlace is p f → IsElsewhere is u p f
    → IsPermutation (nodes f) (nodes (move_last is u p f))
moved_same is u p f few h one away =
    let T = branch (is u) f in
    let C = nodes (cut (is u) f) in
    let M = nodes (move_last is u p f) in
    IsPermutation-trans (nodes f) (T ++ C) M (tree_and_cut (is u) f few h)
    (IsPermutation-sym M (T ++ C) (put_last_adds is p (tree (is u) f) (cut (is u) f) (still_place is u p f few h one away)))
