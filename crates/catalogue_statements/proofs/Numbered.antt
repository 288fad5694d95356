-- Containers in their table, numbered one after another.
use Rattle.std.proofs.Common.{◌≡◌, ℕ, suc, ◌+◌, ◌≤◌, ◌<◌, false, List, [], ◌∷◌, ◌++◌, length, map, filter, slice_get}
use Rattle.std.proofs.Common.{Option, Some, None, Less, pos, refl, sym, ap, subst, ◌∙◌, arith, inl, inr}
use Rattle.std.proofs.lemmas.Cmp.{back_total}
use Rattle.std.specs.Prelude.{option_map, unwrap_or}
use Rattle.office_tables.proofs.statements.LastOf.{not_below}
use Rattle.office_tables.specs.Schema as tables
use Rattle.catalogue_statements.proofs.Common.{AllByRecursion, BoxKey, Has, IsOrdered, IsPermutation, IsPermutation-sym}
use Rattle.catalogue_statements.proofs.Common.{IsSorted, IsTotalOrder, RepresentsContainers, Rises, Trees, all_has}
use Rattle.catalogue_statements.proofs.Common.{all_weaker, ascending-filter, below_less, by_container, cases_Bool}
use Rattle.catalogue_statements.proofs.Common.{counted_from, had, head_below, int_cmp, int_cmp_total, is_lt}
use Rattle.catalogue_statements.proofs.Common.{is_same_box, length_permutation, number_among, numbered_container_cells}
use Rattle.catalogue_statements.proofs.Common.{on_total, only_order, put_by, put_row, put_rows}
use Rattle.catalogue_statements.proofs.ContainerStatements.{from_the_last}

pub by_container_total : IsTotalOrder by_container
by_container_total = on_total (λ (c : ℕ × BoxKey). pos c.0) int_cmp_total

from_the_last_total : IsTotalOrder from_the_last
from_the_last_total = back_total by_container_total

pub length-counted : {A : Type 0} (n : ℕ) (xs : List A) → length (counted_from n xs) ≡ length xs
length-counted n [] = refl
length-counted n (x ∷ xs) = omega (arith, length-counted (n + 1) xs)

pub counted_above : {A : Type 0} (k n : ℕ) (xs : List A) → k < n
    → AllByRecursion (λ (x : ℕ × A). int_cmp (pos k) (pos x.0) ≡ Less) (counted_from n xs)
counted_above k n [] h = tt
counted_above k n (x ∷ xs) h = (below_less k n h, counted_above k (n + 1) xs (omega (arith, h)))

pub counted_rises : {A : Type 0} (n : ℕ) (xs : List A)
    → Rises (λ (a b : ℕ × A). int_cmp (pos a.0) (pos b.0)) (counted_from n xs)
counted_rises n [] = tt
counted_rises n (x ∷ xs) = (counted_above n (n + 1) xs (omega arith), counted_rises (n + 1) xs)

-- ---- the number of a container

first_number : (k : ℕ) (cs : List BoxKey) (b : BoxKey)
    → slice_get (map (λ (c : ℕ × BoxKey). c.0) (filter (λ c. is_same_box c.1 b) (counted_from (k + 1) cs))) 0 ≡ option_map (λ n. k + n) (number_among cs b)
first_number k [] b = refl
first_number k (c ∷ cs) b =
    elim (cases_Bool (is_same_box c b)) [
      | inl same ↦ rw same refl
      | inr differs ↦ rw differs (first_number (k + 1) cs b ∙ later (number_among cs b))
    ]
  where
    later : (o : Option ℕ) → option_map (λ n. k + 1 + n) o ≡ option_map (λ n. k + n) (option_map suc o)
    later None = refl
    later (Some n) = ap Some (omega arith)

as_it_is : (o : Option ℕ) → option_map (λ n. 0 + n) o ≡ o
as_it_is None = refl
as_it_is (Some n) = ap Some (omega arith)

pub number_read : (cs : List BoxKey) (b : BoxKey) (ys : List (ℕ × BoxKey))
    → IsOrdered by_container (filter (λ c. is_same_box c.1 b) (counted_from 1 cs)) ys
    → slice_get (map (λ (c : ℕ × BoxKey). c.0) ys) 0 ≡ number_among cs b
number_read cs b ys at =
    let kept = filter (λ (c : ℕ × BoxKey). is_same_box c.1 b) (counted_from 1 cs) in
    let is : ys ≡ kept =
    only_order by_container by_container_total kept ys (ascending-filter (λ a c. by_container a c ≡ Less) (λ (c : ℕ × BoxKey). is_same_box c.1 b) (counted_from 1 cs) (counted_rises 1 cs)) at.1 at.0 in
    ap (λ l. slice_get (map (λ (c : ℕ × BoxKey). c.0) l) 0) is ∙ first_number 0 cs b ∙ as_it_is (number_among cs b)

-- ---- the greatest number

all_within : (n : ℕ) (cs : List BoxKey) → AllByRecursion (λ c. c.0 < n + length cs) (counted_from n cs)
all_within n [] = tt
all_within n (c ∷ cs) = (omega arith, all_weaker (λ x. x.0 < n + 1 + length cs) (λ x. x.0 < n + suc (length cs)) (λ x h. omega (arith, h)) (counted_from (n + 1) cs) (all_within (n + 1) cs))

last_is_there : (n : ℕ) (c : BoxKey) (cs : List BoxKey)
    → (b : BoxKey) × Has (counted_from n (c ∷ cs)) (n + length cs, b)
last_is_there n c [] = (c, inl (ap (λ m. (let x : ℕ × BoxKey = (m, c) in x)) (omega arith)))
last_is_there n c (d ∷ cs) =
    let it = last_is_there (n + 1) d cs in
    (it.0, inr (subst (λ m. Has (counted_from (n + 1) (d ∷ cs)) (m, it.0)) {x = n + 1 + length cs} {y = n + suc (length cs)} (omega arith) it.1))

pub last_number : (cs : List BoxKey) (ys : List (ℕ × BoxKey)) → IsPermutation (counted_from 1 cs) ys
    → IsSorted from_the_last ys → unwrap_or (slice_get (map (λ (c : ℕ × BoxKey). c.0) ys) 0) 0 ≡ length cs
last_number cs [] same sorted = sym (sym (length-counted 1 cs) ∙ sym (length_permutation (counted_from 1 cs) [] same))
last_number [] (y ∷ ys) same sorted = absurd (omega (arith, length_permutation [] (y ∷ ys) same))
last_number (c ∷ cs) (y ∷ ys) same sorted =
    let most = all_has (λ (x : ℕ × BoxKey). x.0 < 1 + length (c ∷ cs)) (counted_from 1 (c ∷ cs)) y (all_within 1 (c ∷ cs)) (had (counted_from 1 (c ∷ cs)) (y ∷ ys) same y (inl refl)) in
    let last = last_is_there 1 c cs in
    let there : Has (y ∷ ys) (1 + length cs, last.0) =
    had (y ∷ ys) (counted_from 1 (c ∷ cs)) (IsPermutation-sym (counted_from 1 (c ∷ cs)) (y ∷ ys) same) (1 + length cs, last.0) last.1 in
    let least : 1 + length cs ≤ y.0 = elim there [
      | inl e ↦ omega (arith, ap (λ (x : ℕ × BoxKey). x.0) e)
      | inr h ↦ not_below (1 + length cs) y.0 (all_has (λ z. is_lt (from_the_last z y) ≡ false) ys (1 + length cs, last.0) (head_below from_the_last from_the_last_total y ys sorted) h)
    ] in
    omega (arith, most, least)

-- ---- one container more

put_last : (n : ℕ) (b : BoxKey) (cs : List BoxKey)
    → put_by (λ (c : ℕ × BoxKey). pos c.0) (n + length cs, b) (counted_from n cs) ≡ counted_from n (cs ++ b ∷ [])
put_last n b [] = ap (λ m. (let x : ℕ × BoxKey = (m, b) in x) ∷ []) (omega arith)
put_last n b (c ∷ cs) =
    rw (below_less n (n + suc (length cs)) (omega arith))
    (ap (λ l. (let x : ℕ × BoxKey = (n, c) in x) ∷ l) (ap (λ m. put_by (λ (c : ℕ × BoxKey). pos c.0) (m, b) (counted_from (n + 1) cs)) (omega arith) ∙ put_last (n + 1) b cs))

pub one_container : (old new : Trees) (n : ℕ) (b : BoxKey) (cs : List BoxKey) → n ≡ length cs + 1
    → RepresentsContainers old cs
    → new tables.container.tree ≡ put_row (numbered_container_cells (n, b)) (old tables.container.tree)
    → RepresentsContainers new (cs ++ b ∷ [])
one_container old new n b cs is at puts =
    puts ∙ ap (put_row (numbered_container_cells (n, b))) at ∙ put_rows numbered_container_cells (λ (c : ℕ × BoxKey). pos c.0) (λ _. refl) (n, b) (counted_from 1 cs)
    ∙ ap (λ m. map numbered_container_cells (put_by (λ (c : ℕ × BoxKey). pos c.0) (m, b) (counted_from 1 cs))) (is ∙ omega arith)
    ∙ ap (map numbered_container_cells) (put_last 1 b cs)
