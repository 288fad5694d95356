-- The slip of a run has the lines that the rules tell of it.
use Rattle.std.proofs.Common.{◌≡◌, ℕ, ◌<◌, ◌≤◌, Bool, true, false, cond, nat_eq, List, [], ◌∷◌, ◌++◌, length, filter}
use Rattle.std.proofs.Common.{Ordering, Less, Equal, Greater, refl, sym, ap, subst, ◌∙◌, arith}
use Rattle.std.proofs.lemmas.Bool.{eqb-true}
use Rattle.std.proofs.lemmas.List.Sorted.{length_permutation, ranks_by}
use Rattle.std.specs.List.Sorted.{IsPermutation, ties}
use Rattle.std.specs.Ordering.{is_lt, nat_cmp, ordering_reverse, ordering_then}
use Rattle.std.specs.Prelude.{ℤ}
use Rattle.sqlite_trees.proofs.ListLemmas.{IsPermutation-filter, all-permutation}
use Rattle.desk_core.proofs.OrderLemmas.{in_order-is, in_order-stable, neither, same_in_order}
use Rattle.desk_core.proofs.SlipLemmas.{shelf_order-ranks}
use Rattle.desk_core.specs.Orders.{in_order}
use Rattle.desk_core.specs.declared.run.Candidate.{Candidate}
use Rattle.desk_queries.proofs.Common.{AllByRecursion, bytes_order, flat_map, is_shelved_before, nat_lt, shelf_order}
use Rattle.desk_queries.proofs.Common.{slip, slip_head, slip_line}

-- ---- two that stand at one place of the shelves are one container

then_equal : (o p : Ordering) → ordering_then o p ≡ Equal → p ≡ Equal
then_equal Less p e = absurd (cc)
then_equal Equal p e = e
then_equal Greater p e = absurd (cc)

nor_less : (o : Ordering) → is_lt o ≡ false → is_lt (ordering_reverse o) ≡ false → o ≡ Equal
nor_less Less h k = absurd (cc)
nor_less Equal h k = refl
nor_less Greater h k = absurd (cc)

same_number : (a b : ℕ) → nat_cmp a b ≡ Equal → a ≡ b
same_number a b e = at (nat_lt a b) (nat_eq a b) refl e
  where
    at : (x y : Bool) → nat_eq a b ≡ y → cond x Less (cond y Equal Greater) ≡ Equal → a ≡ b
    at true y k e = absurd (cc)
    at false true k e = eqb-true a b k
    at false false k e = absurd (cc)

one_container : (a c : Candidate) → ties is_shelved_before a c ≡ true → c.container ≡ a.container
one_container a c tie =
    let both = neither (is_shelved_before a c) (is_shelved_before c a) tie in
    let back : is_lt (ordering_reverse (shelf_order a c)) ≡ false =
    ap is_lt (sym (shelf_order-ranks.antisymm c a)) ∙ both.1 in
    let same = nor_less (shelf_order a c) both.0 back in
    sym (same_number a.container c.container (then_equal (bytes_order a.kind c.kind) _ (then_equal (bytes_order a.name c.name) _ (then_equal (bytes_order a.location c.location) _ same))))

-- ---- each container is there once

-- the containers rise
abbrev pub Rise : List Candidate → Type 0
Rise [] = Unit {0}
Rise (c ∷ cs) = AllByRecursion (λ (d : Candidate). c.container < d.container) cs × Rise cs

none_of : (k : ℕ) (p : Candidate → Bool) → ((c : Candidate) → p c ≡ true → c.container ≡ k) → (cs : List Candidate)
    → AllByRecursion (λ (d : Candidate). k < d.container) cs → filter p cs ≡ []
none_of k p at_k [] above = refl
none_of k p at_k (c ∷ cs) above = at (p c) refl (none_of k p at_k cs above.1)
  where
    at : (b : Bool) → p c ≡ b → filter p cs ≡ [] → cond b (c ∷ filter p cs) (filter p cs) ≡ []
    at true e rest = absurd (let same = at_k c e in let low = above.0 in omega (arith, same, low))
    at false e rest = rest

one_at_most : (k : ℕ) (p : Candidate → Bool) → ((c : Candidate) → p c ≡ true → c.container ≡ k) → (cs : List Candidate)
    → Rise cs → length (filter p cs) ≤ 1
one_at_most k p at_k [] rise = omega arith
one_at_most k p at_k (c ∷ cs) rise = at (p c) refl (one_at_most k p at_k cs rise.1)
  where
    at : (b : Bool) → p c ≡ b → length (filter p cs) ≤ 1 → length (cond b (c ∷ filter p cs) (filter p cs)) ≤ 1
    at true e rest =
        let none : filter p cs ≡ [] =
        none_of k p at_k cs (subst (λ n. AllByRecursion (λ (d : Candidate). n < d.container) cs) (at_k c e) rise.0) in
        subst (λ l. length (c ∷ l) ≤ 1) (sym none) (omega arith)
    at false e rest = rest

-- a list of one at most is the only one with its elements
only_one : {X : Type 0} (xs ys : List X) → IsPermutation xs ys → length xs ≤ 1 → ys ≡ xs
only_one {X} [] ys same few = empty ys (length_permutation [] ys same)
  where
    empty : (ys : List X) → length ys ≡ 0 → ys ≡ []
    empty [] e = refl
    empty (y ∷ ys) e = absurd (omega (arith, e))
only_one {X} (x ∷ x' ∷ xs) ys same few = absurd (omega (arith, few))
only_one {X} (x ∷ []) ys same few =
    at ys (length_permutation (x ∷ []) ys same) (all-permutation (λ y. y ≡ x) (x ∷ []) ys same (refl, tt))
  where
    at : (ys : List X) → length ys ≡ 1 → AllByRecursion (λ y. y ≡ x) ys → ys ≡ x ∷ []
    at [] e all = absurd (omega (arith, e))
    at (y ∷ []) e all = ap (λ z. z ∷ []) all.0
    at (y ∷ y' ∷ ys) e all = absurd (omega (arith, e))

-- the order of the shelves does not depend on how the lines stood
shelved : (cs ds : List Candidate) → Rise cs → IsPermutation cs ds
    → in_order is_shelved_before ds ≡ in_order is_shelved_before cs
shelved cs ds rise same =
    let order = ranks_by shelf_order-ranks (λ (c : Candidate). c) in
    same_in_order is_shelved_before order (in_order is_shelved_before cs) (in_order is_shelved_before ds) (in_order-is is_shelved_before order cs) (in_order-is is_shelved_before order ds)
    (λ a.
    in_order-stable is_shelved_before order ds a
    ∙ only_one (filter (ties is_shelved_before a) cs) (filter (ties is_shelved_before a) ds) (IsPermutation-filter (ties is_shelved_before a) cs ds same)
    (one_at_most a.container (ties is_shelved_before a) (one_container a) cs rise)
    ∙ sym (in_order-stable is_shelved_before order cs a))

pub same_slip : (n : ℕ) (day : ℤ) (cs ds : List Candidate) → Rise cs → IsPermutation cs ds
    → slip n day ds ≡ slip n day cs
same_slip n day cs ds rise same = ap (λ lines. slip_head n day ++ flat_map slip_line lines) (shelved cs ds rise same)
