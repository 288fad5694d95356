-- A list that strictly rises is the only order of its elements that is sorted.
use Rattle.std.proofs.Common.{◌≡◌, inl, inr, suc, ◌+◌, ◌≤◌, List, [], ◌∷◌, length, filter, get_or, Bool, true, false}
use Rattle.std.proofs.Common.{cond, Ordering, Less, Equal, Greater, refl, sym, ap, subst, ◌∙◌, arith}
use Rattle.std.specs.Cmp.{tied_itself}
use Rattle.office_tables.proofs.Common.{AllByRecursion, Has, IsPermutation, IsPermutation-filter, IsPermutation-sym}
use Rattle.office_tables.proofs.Common.{IsSorted, IsTotalOrder, Rises, all-permutation, all_both, all_from, all_has}
use Rattle.office_tables.proofs.Common.{all_weaker, filter_none, is_eq, is_lt, length_permutation, ordering_reverse}
use Rattle.office_tables.proofs.Common.{ranks_by}

module _ {X : Type 0} (cmp : X → X → Ordering) (total : IsTotalOrder cmp) where
  sorted_tail : (y : X) (ys : List X) → IsSorted cmp (y ∷ ys) → IsSorted cmp ys
  sorted_tail y ys up = λ k d low high. subst (λ n. is_lt (cmp (get_or (y ∷ ys) n d) (get_or ys k d)) ≡ false) {x = suc k + 1} {y = suc (k + 1)} (omega arith) (up (suc k) d (omega arith) (omega arith))

  pub head_below : (y : X) (ys : List X) → IsSorted cmp (y ∷ ys) → AllByRecursion (λ z. is_lt (cmp z y) ≡ false) ys
  head_below y [] up = tt
  head_below y (z ∷ zs) up =
      let first : is_lt (cmp z y) ≡ false = up 0 y (omega arith) (omega arith) in
      (first, all_weaker (λ w. is_lt (cmp w z) ≡ false) (λ w. is_lt (cmp w y) ≡ false) (λ w h. (ranks_by total (λ x. x)).chain w z y h first) zs (head_below z zs (sorted_tail y (z ∷ zs) up)))

  pub once : (v : X) (xs : List X) → Rises cmp xs → length (filter (λ z. is_eq (cmp v z)) xs) ≤ 1
  once v [] up = omega arith
  once v (x ∷ xs) up = elim (cmp v x) as (λ o. cmp v x ≡ o → length (cond (is_eq o) (x ∷ filter (λ z. is_eq (cmp v z)) xs) (filter (λ z. is_eq (cmp v z)) xs)) ≤ 1) [
    | Less ↦ λ _. once v xs up.1
    | Equal ↦ λ same. let none = filter_none (λ z. is_eq (cmp v z)) xs (all_weaker (λ z. cmp x z ≡ Less) (λ z. is_eq (cmp v z) ≡ false) (λ z less. ap is_eq (total.congr v x z same ∙ less)) xs up.0) in rw none (omega arith)
    | Greater ↦ λ _. once v xs up.1
  ] refl

  pub none_from : (p : X → Bool) (ys : List X) → length (filter p ys) ≡ 0 → AllByRecursion (λ z. p z ≡ false) ys
  none_from p [] h = tt
  none_from p (y ∷ ys) h = elim (p y) as (λ b. length (cond b (y ∷ filter p ys) (filter p ys)) ≡ 0 → (b ≡ false) × AllByRecursion (λ z. p z ≡ false) ys) [
    | true ↦ λ e. absurd (omega (arith, e))
    | false ↦ λ e. (refl, none_from p ys e)
  ] h

  less_from : (o : Ordering) → is_lt (ordering_reverse o) ≡ false → is_eq o ≡ false → o ≡ Less
  less_from Less h k = refl
  less_from Equal h k = absurd (cc)
  less_from Greater h k = absurd (cc)

  pub fewer : (v y : X) (ys : List X) → length (filter (λ z. is_eq (cmp v z)) (y ∷ ys)) ≤ 1
      → length (filter (λ z. is_eq (cmp v z)) ys) ≤ 1
  fewer v y ys = elim (is_eq (cmp v y)) as (λ b. length (cond b (y ∷ filter (λ z. is_eq (cmp v z)) ys) (filter (λ z. is_eq (cmp v z)) ys)) ≤ 1 → length (filter (λ z. is_eq (cmp v z)) ys) ≤ 1) [
    | true ↦ λ h. omega (arith, h)
    | false ↦ λ h. h
  ]

  pub none_like : (y : X) (ys : List X) → length (filter (λ z. is_eq (cmp y z)) (y ∷ ys)) ≤ 1
      → length (filter (λ z. is_eq (cmp y z)) ys) ≡ 0
  none_like y ys h = let k = rw (tied_itself total y) at h in omega (arith, k)

  rises : (ys : List X) → IsSorted cmp ys → ((v : X) → length (filter (λ z. is_eq (cmp v z)) ys) ≤ 1) → Rises cmp ys
  rises [] up few = tt
  rises (y ∷ ys) up few = (
    all_both (λ z. is_lt (cmp z y) ≡ false) (λ z. is_eq (cmp y z) ≡ false) (λ z. cmp y z ≡ Less) (λ z h k. less_from (cmp y z) (ap is_lt (sym (total.antisymm z y)) ∙ h) k) ys
        (head_below y ys up) (none_from (λ z. is_eq (cmp y z)) ys (none_like y ys (few y))),
    rises ys (sorted_tail y ys up) (λ v. fewer v y ys (few v)),
  )

  not_below_itself : (x : X) → cmp x x ≡ Less → ⊥
  not_below_itself x h = let e : Less ≡ Equal = sym h ∙ tied_itself total x in cc

  not_both : (x y : X) → cmp x y ≡ Less → cmp y x ≡ Less → ⊥
  not_both x y h k = not_below_itself x (total.trans x y x h k)

  rest : (x : X) (xs ys : List X) → Rises cmp (x ∷ xs) → ((z : X) → Has (x ∷ xs) z → Has (x ∷ ys) z) → (z : X)
      → Has xs z → Has ys z
  rest x xs ys up all z has = elim (all z (inr has)) [
    | inl same ↦ absurd (not_below_itself x (subst (λ w. cmp x w ≡ Less) same (all_has (λ w. cmp x w ≡ Less) xs z up.0 has)))
    | inr later ↦ later
  ]

  same_heads : (x y : X) (xs ys : List X) → Rises cmp (x ∷ xs) → Rises cmp (y ∷ ys) → Has (y ∷ ys) x → Has (x ∷ xs) y
      → x ≡ y
  same_heads x y xs ys up up' (inl e) h = e
  same_heads x y xs ys up up' (inr k) (inl e) = sym e
  same_heads x y xs ys up up' (inr k) (inr h) =
      absurd (not_both x y (all_has (λ w. cmp x w ≡ Less) xs y up.0 h) (all_has (λ w. cmp y w ≡ Less) ys x up'.0 k))

  pub same_rising : (xs ys : List X) → Rises cmp xs → Rises cmp ys → ((z : X) → Has xs z → Has ys z)
      → ((z : X) → Has ys z → Has xs z) → xs ≡ ys
  same_rising [] [] up up' there back = refl
  same_rising [] (y ∷ ys) up up' there back = absurd (back y (inl refl))
  same_rising (x ∷ xs) [] up up' there back = absurd (there x (inl refl))
  same_rising (x ∷ xs) (y ∷ ys) up up' there back =
      let e = same_heads x y xs ys up up' (there x (inl refl)) (back y (inl refl)) in
      let up'' : Rises cmp (x ∷ ys) = rw e up' in
      let there' : (z : X) → Has (x ∷ xs) z → Has (x ∷ ys) z = λ z h. rw e (there z h) in
      let back' : (z : X) → Has (x ∷ ys) z → Has (x ∷ xs) z = λ z h. back z (rw⁻¹ e h) in
      let tails = same_rising xs ys up.1 up'.1 (rest x xs ys up there') (rest x ys xs up'' back') in
      rw (e, tails)

  had : (xs ys : List X) → IsPermutation xs ys → (z : X) → Has ys z → Has xs z
  had xs ys same z = all_has (Has xs) ys z (all-permutation (Has xs) xs ys same (all_from (Has xs) xs (λ x h. h)))

  pub only_order : (xs ys : List X) → Rises cmp xs → IsSorted cmp ys → IsPermutation xs ys → ys ≡ xs
  only_order xs ys up sorted same =
      let few = λ (v : X). let h : length (filter (λ z. is_eq (cmp v z)) ys) ≤ 1 = rw (length_permutation _ _ (IsPermutation-filter (λ z. is_eq (cmp v z)) xs ys same)) (once v xs up) in h in
      same_rising ys xs (rises ys sorted few) up (had xs ys same) (had ys xs (IsPermutation-sym xs ys same))
