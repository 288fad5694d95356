-- Where the units of a forest with different numbers stand, and how deep.
use Rattle.std.proofs.Common.{◌≡◌, ℕ, suc, ◌+◌, Bool, true, false, cond, ◌||◌, List, [], ◌∷◌, ◌++◌, length, Option}
use Rattle.std.proofs.Common.{Some, None, refl, sym, ap, ◌∙◌, subst, inl, inr, arith, map}
use Rattle.std.specs.List.{IsDistinct}
use Rattle.std.specs.Prelude.{nat_eq}
use Rattle.catalogue_core.proofs.Common.{AllByRecursion, Empty, Forest, Node, Unit, apart_append, cases_Bool, eq-eqb}
use Rattle.catalogue_core.proofs.Common.{eqb_comm, false≢true, find, has, has_id, list_any, map-append, nodes, or_parts}
use Rattle.catalogue_core.proofs.Common.{path}
use Rattle.catalogue_core.proofs.EachOf.{all_and, all_split, all_of_found, none_found, some_found}
use Rattle.catalogue_core.proofs.UnitsAfter.{each_there}

abbrev number_of : Unit → ℕ
number_of unit = unit.id

-- no two of these units have one number
abbrev pub HaveOwnNumbers : List Unit → Type 0
HaveOwnNumbers us = IsDistinct nat_eq (map (λ (u : Unit). u.id) us)

any_number : (n : ℕ) (us : List Unit) → list_any (nat_eq n) (map number_of us) ≡ list_any (has_id n) us
any_number n [] = refl
any_number n (u ∷ us) = ap (λ b. nat_eq n u.id || b) (any_number n us)

-- of a first tree: its top, what stands below it and what stands beside it
record Stands (u : Unit) (c o : Forest Unit) : Type 0 where
  left : HaveOwnNumbers (nodes c)
  right : HaveOwnNumbers (nodes o)
  not_top_below : AllByRecursion (λ v. has_id v.id u ≡ false) (nodes c)
  not_top_beside : AllByRecursion (λ v. has_id v.id u ≡ false) (nodes o)
  below : AllByRecursion (λ v. has (has_id v.id) c ≡ true) (nodes c)
  not_below : AllByRecursion (λ v. has (has_id v.id) c ≡ false) (nodes o)

not_the_top : (u : Unit) (us : List Unit) → AllByRecursion (λ n. nat_eq u.id n ≡ false) (map number_of us)
    → AllByRecursion (λ v. has_id v.id u ≡ false) us
not_the_top u [] h = tt
not_the_top u (v ∷ us) h = (eqb_comm v.id u.id ∙ h.0, not_the_top u us h.1)

all_parts : (u : Unit) (xs ys : List Unit) → AllByRecursion (λ v. has_id v.id u ≡ false) (xs ++ ys)
    → AllByRecursion (λ v. has_id v.id u ≡ false) xs × AllByRecursion (λ v. has_id v.id u ≡ false) ys
all_parts u xs ys h = all_split (λ v. has_id v.id u ≡ false) xs ys h

stands : (u : Unit) (c o : Forest Unit) → HaveOwnNumbers (nodes (Node u c o)) → Stands u c o
unfolding IsDistinct
stands u c o d =
    let apart = apart_append (map number_of (nodes c)) (map number_of (nodes o)) (subst (IsDistinct nat_eq) (map-append number_of (nodes c) (nodes o)) d.1) in
    let top = all_parts u (nodes c) (nodes o) (not_the_top u (nodes c ++ nodes o) d.0) in
    record {
      left = apart.left;
      right = apart.right;
      not_top_below = top.0;
      not_top_beside = top.1;
      below = each_there (nodes c) (nodes c) (λ v h. h);
      not_below = none (nodes o) (nodes c) (λ n h. sym (any_number n (nodes o)) ∙ apart.not_right n (any_number n (nodes c) ∙ h));
    }
  where
    here : (y : Unit) (ys : List Unit) → list_any (has_id y.id) (y ∷ ys) ≡ true
    here y ys = ap (λ b. b || list_any (has_id y.id) ys) (eq-eqb y.id y.id refl)

    none : (ys xs : List Unit) → ((n : ℕ) → list_any (has_id n) xs ≡ true → list_any (has_id n) ys ≡ false)
        → AllByRecursion (λ v. list_any (has_id v.id) xs ≡ false) ys
    none [] xs f = tt
    none (y ∷ ys) xs f = (
      elim (cases_Bool (list_any (has_id y.id) xs)) [ inl t ↦ absurd (false≢true (sym (f y.id t) ∙ here y ys)) | inr n ↦ n ],
      none ys xs (λ n h. (or_parts (nat_eq n y.id) (list_any (has_id n) ys) (f n h)).1),
    )

-- ---- paths

path_top : (is : Unit → Bool) (u : Unit) (c o : Forest Unit) → is u ≡ true → path is (Node u c o) ≡ u ∷ []
path_top is u c o e = ap (λ (b : Bool). cond b (u ∷ []) (cond (has is c) (u ∷ path is c) (path is o))) e

path_below : (is : Unit → Bool) (u : Unit) (c o : Forest Unit) → is u ≡ false → has is c ≡ true
    → path is (Node u c o) ≡ u ∷ path is c
path_below is u c o e h =
    ap (λ (b : Bool). cond b (u ∷ []) (cond (has is c) (u ∷ path is c) (path is o))) e
    ∙ ap (λ (b : Bool). cond b (u ∷ path is c) (path is o)) h

path_beside : (is : Unit → Bool) (u : Unit) (c o : Forest Unit) → is u ≡ false → has is c ≡ false
    → path is (Node u c o) ≡ path is o
path_beside is u c o e h =
    ap (λ (b : Bool). cond b (u ∷ []) (cond (has is c) (u ∷ path is c) (path is o))) e
    ∙ ap (λ (b : Bool). cond b (u ∷ path is c) (path is o)) h

found_in_both : (p : Unit → Bool) (xs ys : List Unit) (v : Unit) (r : Option Unit) → find p xs ≡ r
    → find p (xs ++ ys) ≡ Some v → (P : Type 0) → (find p xs ≡ Some v → P) → (find p xs ≡ None → find p ys ≡ Some v → P)
    → P
found_in_both p [] ys v r e h P f g = g refl h
found_in_both p (x ∷ xs) ys v r e h P f g = at (p x) h f g (found_in_both p xs ys v (find p xs) refl)
  where
    at : (b : Bool) → cond b (Some x) (find p (xs ++ ys)) ≡ Some v → (cond b (Some x) (find p xs) ≡ Some v → P)
        → (cond b (Some x) (find p xs) ≡ None → find p ys ≡ Some v → P)
        → (find p (xs ++ ys) ≡ Some v → (Q : Type 0) → (find p xs ≡ Some v → Q) → (find p xs ≡ None → find p ys ≡ Some v → Q) → Q)
        → P
    at true k f g i = f k
    at false k f g i = i k P f g

-- the first unit that passes lies where the unit with its number lies
pub same_depth : (is : Unit → Bool) (f : Forest Unit) (v : Unit) → HaveOwnNumbers (nodes f) → find is (nodes f) ≡ Some v
    → length (path (has_id v.id) f) ≡ length (path is f)
same_depth is Empty v d e = absurd (cc)
same_depth is (Node u c o) v d e =
    let s = stands u c o d in
    at s (is u) refl e (same_depth is c v s.left) (same_depth is o v s.right)
  where
    at : Stands u c o → (b : Bool) → is u ≡ b → cond b (Some u) (find is (nodes c ++ nodes o)) ≡ Some v
        → (find is (nodes c) ≡ Some v → length (path (has_id v.id) c) ≡ length (path is c))
        → (find is (nodes o) ≡ Some v → length (path (has_id v.id) o) ≡ length (path is o))
        → length (path (has_id v.id) (Node u c o)) ≡ length (path is (Node u c o))
    at s true h k f g =
        let same : u ≡ v = cc in
        ap length (path_top (has_id v.id) u c o (eq-eqb v.id u.id (ap number_of (sym same))) ∙ sym (path_top is u c o h))
    at s false h k f g =
        found_in_both is (nodes c) (nodes o) v (find is (nodes c)) refl k (length (path (has_id v.id) (Node u c o)) ≡ length (path is (Node u c o)))
        (λ i. ap length (path_below (has_id v.id) u c o (all_of_found (λ w. has_id w.id u ≡ false) is (nodes c) v i s.not_top_below) (all_of_found (λ w. has (has_id w.id) c ≡ true) is (nodes c) v i s.below))
        ∙ (ap suc (f i) ∙ sym (ap length (path_below is u c o h (some_found is (nodes c) v i)))))
        (λ n i. ap length (path_beside (has_id v.id) u c o (all_of_found (λ w. has_id w.id u ≡ false) is (nodes o) v i s.not_top_beside) (all_of_found (λ w. has (has_id w.id) c ≡ false) is (nodes o) v i s.not_below))
        ∙ (g i ∙ sym (ap length (path_beside is u c o h (none_found is (nodes c) n)))))

-- ---- depths

-- each unit lies as deep as is told of its number; d units stand above all
abbrev pub LieDeep : (ℕ → ℕ) → ℕ → Forest Unit → Type 0
LieDeep told d Empty = Prim.Unit {0}
LieDeep told d (Node u c o) = (told u.id ≡ d + 1) × LieDeep told (d + 1) c × LieDeep told d o

-- as its path is long
pub lie_deep : (told : ℕ → ℕ) (d : ℕ) (f : Forest Unit) → HaveOwnNumbers (nodes f)
    → AllByRecursion (λ v. told v.id ≡ d + length (path (has_id v.id) f)) (nodes f) → LieDeep told d f
lie_deep told d Empty own h = tt
lie_deep told d (Node u c o) own h =
    let s = stands u c o own in
    let r = all_split (λ v. told v.id ≡ d + length (path (has_id v.id) (Node u c o))) (nodes c) (nodes o) h.1 in (
      h.0 ∙ ap (λ l. d + length l) (path_top (has_id u.id) u c o (eq-eqb u.id u.id refl)),
      lie_deep told (d + 1) c s.left (all_and (λ v. has_id v.id u ≡ false) (λ v. (has (has_id v.id) c ≡ true) × (told v.id ≡ d + length (path (has_id v.id) (Node u c o)))) (λ v. told v.id ≡ d + 1 + length (path (has_id v.id) c))
          (λ v n k. (let a = k.1 in let b = ap length (path_below (has_id v.id) u c o n k.0) in omega (arith, a, b))) (nodes c) s.not_top_below
          (all_and (λ v. has (has_id v.id) c ≡ true) (λ v. told v.id ≡ d + length (path (has_id v.id) (Node u c o))) (λ v. (has (has_id v.id) c ≡ true) × (told v.id ≡ d + length (path (has_id v.id) (Node u c o)))) (λ v a b. (a, b)) (nodes c) s.below r.0)),
      lie_deep told d o s.right (all_and (λ v. has_id v.id u ≡ false) (λ v. (has (has_id v.id) c ≡ false) × (told v.id ≡ d + length (path (has_id v.id) (Node u c o)))) (λ v. told v.id ≡ d + length (path (has_id v.id) o))
          (λ v n k. k.1 ∙ ap (λ l. d + length l) (path_beside (has_id v.id) u c o n k.0)) (nodes o) s.not_top_beside
          (all_and (λ v. has (has_id v.id) c ≡ false) (λ v. told v.id ≡ d + length (path (has_id v.id) (Node u c o))) (λ v. (has (has_id v.id) c ≡ false) × (told v.id ≡ d + length (path (has_id v.id) (Node u c o)))) (λ v a b. (a, b)) (nodes o) s.not_below r.1)),
    )
