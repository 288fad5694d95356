-- Lists of which each test holds as often.
use Rattle.std.proofs.Common.{◌≡◌, ℕ, ◌+◌, List, [], ◌∷◌, length, filter, Bool, true, false, cond, not, ◌&&◌, ◌||◌}
use Rattle.std.proofs.Common.{nat_lt, Option, Some, None, filter_map, refl, sym, ap, ◌∙◌, arith}
use Rattle.std.proofs.lemmas.List.Sorted.{sum_by-IsPermutation}
use Rattle.std.proofs.lemmas.List.Sums.{sum_by-cons, length-filter}
use Rattle.std.specs.List.Sorted.{IsPermutation}
use Rattle.std.specs.Option.{option_map_or}
use Rattle.desk_core.proofs.Counts.{count_cons, any_count}
use Rattle.desk_core.specs.Orders.{put_in_order, in_order}
use Rattle.row_decoding.proofs.Common.{Row, cons_option, count_by, list_all, list_any}

abbrev pub Alike : {X : Type 0} → List X → List X → Type 0
Alike {X} xs ys = (p : X → Bool) → count_by p xs ≡ count_by p ys

pub alike_then : {X : Type 0} (xs ys zs : List X) → Alike xs ys → Alike ys zs → Alike xs zs
alike_then xs ys zs first second p = first p ∙ second p

pub alike_back : {X : Type 0} (xs ys : List X) → Alike xs ys → Alike ys xs
alike_back xs ys same p = sym (same p)

-- ---- what is told of them

pub any_alike : {X : Type 0} (p : X → Bool) (xs ys : List X) → Alike xs ys → list_any p xs ≡ list_any p ys
any_alike p xs ys same = any_count p xs ∙ ap (nat_lt 0) (same p) ∙ sym (any_count p ys)

pub all_as_any : {X : Type 0} (p : X → Bool) (xs : List X) → list_all p xs ≡ not (list_any (λ x. not (p x)) xs)
all_as_any p [] = refl
all_as_any p (x ∷ xs) = elim (p x) as (λ b. (b && list_all p xs) ≡ not (not b || list_any (λ x. not (p x)) xs)) [ true ↦ all_as_any p xs | false ↦ refl ]

pub all_alike : {X : Type 0} (p : X → Bool) (xs ys : List X) → Alike xs ys → list_all p xs ≡ list_all p ys
all_alike p xs ys same = all_as_any p xs ∙ ap not (any_alike (λ x. not (p x)) xs ys same) ∙ sym (all_as_any p ys)

length_count : {X : Type 0} (xs : List X) → length xs ≡ count_by (λ _. true) xs
length_count [] = refl
length_count {X} (x ∷ xs) = let is = sum_by-cons (λ (y : X). 1) x xs in let more = length_count xs in omega (arith, is, more)

pub length_alike : {X : Type 0} (xs ys : List X) → Alike xs ys → length xs ≡ length ys
length_alike xs ys same = length_count xs ∙ same (λ _. true) ∙ sym (length_count ys)

pub filter_alike : {X : Type 0} (p : X → Bool) (xs ys : List X) → Alike xs ys
    → length (filter p xs) ≡ length (filter p ys)
filter_alike p xs ys same = length-filter p xs ∙ same p ∙ sym (length-filter p ys)

-- ---- where they come from

pub permuted : {X : Type 0} (xs ys : List X) → IsPermutation xs ys → Alike xs ys
permuted xs ys same p = sym (sum_by-IsPermutation (λ x. cond (p x) 1 0) xs ys same)

swapped : (a b n : ℕ) → a + (b + n) ≡ b + (a + n)
swapped a b n = omega arith

module _ {X : Type 0} (p : X → Bool) where
  count_read : (read : Row → Option X) (rows : List Row)
      → count_by p (filter_map read rows) ≡ count_by (λ row. option_map_or p (read row) false) rows
  count_read read [] = refl
  count_read read (row ∷ rows) =
      at (count_read read rows) (read row) ∙ sym (sum_by-cons (λ r. cond (option_map_or p (read r) false) 1 0) row rows)
    where
      at : count_by p (filter_map read rows) ≡ count_by (λ row. option_map_or p (read row) false) rows → (o : Option X)
          → count_by p (cons_option o (filter_map read rows)) ≡ cond (option_map_or p o false) 1 0 + count_by (λ row. option_map_or p (read row) false) rows
      at more None = omega (arith, more)
      at more (Some x) = count_cons p x (filter_map read rows) ∙ ap (λ n. cond (p x) 1 0 + n) more

  count_put : (before : X → X → Bool) (x : X) (ys : List X)
      → count_by p (put_in_order before x ys) ≡ cond (p x) 1 0 + count_by p ys
  count_put before x [] = count_cons p x []
  count_put before x (y ∷ ys) = at (count_put before x ys) (before y x)
    where
      at : count_by p (put_in_order before x ys) ≡ cond (p x) 1 0 + count_by p ys → (b : Bool)
          → count_by p (cond b (y ∷ put_in_order before x ys) (x ∷ y ∷ ys)) ≡ cond (p x) 1 0 + count_by p (y ∷ ys)
      at more true =
          count_cons p y (put_in_order before x ys) ∙ ap (λ n. cond (p y) 1 0 + n) more
          ∙ swapped (cond (p y) 1 0) (cond (p x) 1 0) (count_by p ys)
          ∙ ap (λ n. cond (p x) 1 0 + n) (sym (count_cons p y ys))
      at more false = count_cons p x (y ∷ ys)

  count_ordered : (before : X → X → Bool) (xs : List X) → count_by p (in_order before xs) ≡ count_by p xs
  count_ordered before [] = refl
  count_ordered before (x ∷ xs) =
      count_put before x (in_order before xs) ∙ ap (λ n. cond (p x) 1 0 + n) (count_ordered before xs)
      ∙ sym (count_cons p x xs)

pub ordered_alike : {X : Type 0} (before : X → X → Bool) (xs : List X) → Alike (in_order before xs) xs
ordered_alike before xs p = count_ordered p before xs

-- the rows that can be read, in whatever order they are
pub read_alike : {X : Type 0} (read : Row → Option X) (table stored : List Row) → IsPermutation table stored
    → Alike (filter_map read table) (filter_map read stored)
read_alike read table stored same p =
    count_read p read table ∙ permuted table stored same (λ row. option_map_or p (read row) false) ∙ sym (count_read p read stored)

-- in the order of their keys, too
pub keyed_alike : {X : Type 0} (read : Row → Option X) (before : X → X → Bool) (table stored : List Row)
    → IsPermutation table stored → Alike (filter_map read stored) (in_order before (filter_map read table))
keyed_alike read before table stored same p =
    sym (read_alike read table stored same p) ∙ sym (ordered_alike before (filter_map read table) p)
