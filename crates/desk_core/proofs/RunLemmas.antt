-- What a run takes, and what goes back to the shelf.
use Rattle.std.proofs.Common.{◌≡◌, ℕ, ◌≤◌, true, List, length, map, take, drop, get_or, min, ◌<◌, ◌+◌, ◌-◌, subst}
use Rattle.std.proofs.Common.{length-drop, sym, ap, ◌∙◌, arith, nat_lt, Bor}
use Rattle.std.specs.List.{filter}
use Rattle.desk_core.specs.Runs.{IsRun, has_lesser_order, run_of}
use Rattle.desk_core.proofs.Common.{All, All-weaker, Candidate, IsNonDecreasingBy-take, IsPermutation, IsSorted}
use Rattle.desk_core.proofs.Common.{IsStableBy, IsStrictWeakOrder, IsStrictWeakOrder-by_number, filter_passes}
use Rattle.desk_core.proofs.Common.{get_or-drop, get_or-take, get_or_default, in_order, is_lt, length-filter}
use Rattle.desk_core.proofs.Common.{length-take, length_permutation, ltb-false, nat_cmp, nat_cmp_total, ranks_by}
use Rattle.desk_core.proofs.Common.{same_lists, sum_by-IsPermutation, take-append-drop, take-map, take_all, ties}
use Rattle.desk_core.proofs.OrderLemmas.{far-in_order, in_order-agree, in_order-is, in_order-map, in_order-permutation}
use Rattle.desk_core.proofs.OrderLemmas.{is_lt-nat_cmp, neither, sorted-is}

-- copies of the first of a queue that is in order
pub run_of-copies : (candidates run : List Candidate) (lent sorted items : List (Bor Candidate)) (most n : ℕ)
    → map (λ (b : Bor Candidate). b.now) lent ≡ candidates
    → sorted ≡ in_order (λ (a b : Bor Candidate). nat_lt a.now.order b.now.order) lent → items ≡ take most sorted
    → length items ≤ n → run ≡ map (λ (b : Bor Candidate). b.now) (take n items) → run ≡ run_of candidates most
run_of-copies candidates run lent sorted items most n shows is_sorted front whole copies =
    copies
    ∙ ap (map (λ (b : Bor Candidate). b.now)) (take_all n items whole ∙ front)
    ∙ sym (take-map (λ (b : Bor Candidate). b.now) most sorted)
    ∙ ap (λ queue. take most (map (λ (b : Bor Candidate). b.now) queue)) is_sorted
    ∙ ap (take most) (in_order-map (λ (b : Bor Candidate). b.now) has_lesser_order lent)
    ∙ ap (λ all. take most (in_order has_lesser_order all)) shows

-- numbers that tie are the same number
ties-numbers : (m n : ℕ) → ties (λ a b. is_lt (nat_cmp a b)) m n ≡ true → n ≡ m
ties-numbers m n tie =
    let apart = neither (is_lt (nat_cmp m n)) (is_lt (nat_cmp n m)) tie in
    let low : n ≤ m = ltb-false m n (sym (is_lt-nat_cmp m n) ∙ apart.0) in
    let high : m ≤ n = ltb-false n m (sym (is_lt-nat_cmp n m) ∙ apart.1) in
    omega arith

-- so any sort of numbers is stable
numbers-stable : (xs ys : List ℕ) → IsPermutation xs ys → IsStableBy (λ a b. is_lt (nat_cmp a b)) xs ys
numbers-stable xs ys same n =
    let alike = ties (λ a b. is_lt (nat_cmp a b)) n in
    let all : (zs : List ℕ) → All (λ m. m ≡ n) (filter alike zs) =
    λ zs. All-weaker _ _ (ties-numbers n) (filter alike zs) (filter_passes alike zs) in
    let many : length (filter alike ys) ≡ length (filter alike xs) =
    length-filter alike ys ∙ sum_by-IsPermutation _ xs ys same ∙ sym (length-filter alike xs) in
    same_lists (filter alike ys) (filter alike xs) many (λ k d h. all ys k d h ∙ sym (all xs k d (omega arith)))

-- what a sort of numbers gives
pub sorted_numbers-is : (xs ys : List ℕ) → IsSorted nat_cmp ys → IsPermutation xs ys → ys ≡ in_order nat_lt xs
sorted_numbers-is xs ys sorted same =
    sorted-is _ (ranks_by nat_cmp_total (λ (n : ℕ). n)) xs ys sorted (numbers-stable xs ys same)
    ∙ in_order-agree _ _ is_lt-nat_cmp xs

-- ---- a run is least

run-far : (candidates : List Candidate) (i j : ℕ) (d : Candidate) → i ≤ j
    → j < length (in_order has_lesser_order candidates)
    → (get_or (in_order has_lesser_order candidates) i d).order ≤ (get_or (in_order has_lesser_order candidates) j d).order
run-far candidates i j d low high =
    let order : IsStrictWeakOrder has_lesser_order = IsStrictWeakOrder-by_number (λ (c : Candidate). c.order) in
    ltb-false _ _ (far-in_order has_lesser_order (in_order has_lesser_order candidates) (in_order-is has_lesser_order order candidates) order i j d low high)

pub run_of-is : (candidates : List Candidate) (most : ℕ) → IsRun candidates (run_of candidates most) most
run_of-is candidates most =
    let queue = in_order has_lesser_order candidates in
    let whole : IsPermutation candidates queue = in_order-permutation has_lesser_order candidates in
    let taken : length (take most queue) ≡ min most (length queue) = length-take most queue in
    let left : length (drop most queue) ≡ length queue - most = length-drop most queue in
    record {
      left = drop most queue;
      same = subst (IsPermutation candidates) (sym (take-append-drop most queue)) whole;
      many = taken ∙ ap (min most) (length_permutation candidates queue whole);
      rising = IsNonDecreasingBy-take (λ (c : Candidate). c.order) most queue (λ i j d low high. run-far candidates i j d low high);
      least = λ i d low j e high.
          let there : get_or (take most queue) i d ≡ get_or queue i d = get_or-take most queue i d (omega arith) in
          let other : get_or (drop most queue) j e ≡ get_or queue (most + j) d =
          get_or-drop most queue j e ∙ get_or_default queue (most + j) e d (omega arith) in
          rw (there, other) (run-far candidates i (most + j) d (omega arith) (omega arith));
    }
