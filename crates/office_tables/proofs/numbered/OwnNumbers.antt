-- Rows with numbers of their own that tell nothing: one more, and those that are left.
use Rattle.std.proofs.Common.{◌≡◌, ◌<◌, ◌+◌, ℤ, List, [], ◌∷◌, ◌++◌, map, filter, length, Bool, false, not, Ordering}
use Rattle.std.proofs.Common.{refl, ap, subst, ◌∙◌, arith}
use Rattle.office_tables.proofs.Common.{AllByRecursion, HasNumbered, Int, IsOrdered, IsPermutation}
use Rattle.office_tables.proofs.Common.{IsPermutation-append_comm, IsPermutation-cons, IsPermutation-filter}
use Rattle.office_tables.proofs.Common.{IsPermutation-map, IsPermutation-refl, IsPermutation-sym, IsPermutation-trans}
use Rattle.office_tables.proofs.Common.{IsSorted, Row, all-map, all-permutation, all_from_map, ascending-filter}
use Rattle.office_tables.proofs.Common.{filter-map, get_or-map, is_taken, length-map, list_any, map-map, or_from}
use Rattle.office_tables.proofs.Common.{or_parts, put_by, put_row, rowid}
use Rattle.office_tables.proofs.Puts.{put_rows, put_rises, put_more, fresh_key}

-- what no row is, none is in another order

module _ {R : Type 0} (p : R → Bool) where
  none_each : (rows : List R) → list_any p rows ≡ false → AllByRecursion (λ r. p r ≡ false) rows
  none_each [] h = tt
  none_each (r ∷ rows) h = let parts = or_parts _ _ h in (parts.0, none_each rows parts.1)

  each_none : (rows : List R) → AllByRecursion (λ r. p r ≡ false) rows → list_any p rows ≡ false
  each_none [] h = refl
  each_none (r ∷ rows) h = or_from _ _ h.0 (each_none rows h.1)

module _ {R : Type 0} (cells : ℤ × R → Row) where
  abbrev own : ℤ × R → ℤ
  own x = x.0

  abbrev told : ℤ × R → R
  told x = x.1

  pub none_numbered : (there : List Row) (rows : List R) (has : HasNumbered cells there rows) (p : R → Bool)
      → list_any p rows ≡ false → list_any (λ (x : ℤ × R). p x.1) has.numbered ≡ false
  none_numbered there rows has p none =
      each_none (λ (x : ℤ × R). p x.1) has.numbered (all_from_map (λ r. p r ≡ false) told has.numbered (all-permutation (λ r. p r ≡ false) rows (map told has.numbered) has.tell (none_each p rows none)))

  pub all_numbered : (there : List Row) (rows : List R) (has : HasNumbered cells there rows) (P : R → Type 0)
      → AllByRecursion P rows → AllByRecursion (λ (x : ℤ × R). P x.1) has.numbered
  all_numbered there rows has P all =
      all_from_map P told has.numbered (all-permutation P rows (map told has.numbered) has.tell all)

  pub all_told : (there : List Row) (rows : List R) (has : HasNumbered cells there rows) (P : R → Type 0)
      → AllByRecursion (λ (x : ℤ × R). P x.1) has.numbered → AllByRecursion P rows
  all_told there rows has P all =
      all-permutation P (map told has.numbered) rows (IsPermutation-sym rows (map told has.numbered) has.tell) (all-map P told has.numbered all)

  -- an empty table
  pub none_there : (there : List Row) → there ≡ [] → HasNumbered cells there []
  none_there there none = record { numbered = []; are = none; rise = tt; tell = IsPermutation-refl [] }

  -- the table is the same
  pub still_numbered : (there now : List Row) (rows : List R) → now ≡ there → HasNumbered cells there rows
      → HasNumbered cells now rows
  still_numbered there now rows same has =
      record { numbered = has.numbered; are = same ∙ has.are; rise = has.rise; tell = has.tell }

  -- those that the test finds, in whatever order they are read
  pub kept_permuted : (there : List Row) (rows : List R) (has : HasNumbered cells there rows) (p : R → Bool) (ys : List (ℤ × R))
      → IsPermutation (filter (λ (x : ℤ × R). p x.1) has.numbered) ys → IsPermutation (filter p rows) (map told ys)
  kept_permuted there rows has p ys same =
      IsPermutation-trans (filter p rows) (map told (filter (λ (x : ℤ × R). p x.1) has.numbered)) (map told ys)
      (subst (IsPermutation (filter p rows)) (filter-map p told has.numbered) (IsPermutation-filter p rows (map told has.numbered) has.tell))
      (IsPermutation-map told (filter (λ (x : ℤ × R). p x.1) has.numbered) ys same)

  -- what is told of them
  pub told_permuted : {T : Type 0} (f : R → T) (there : List Row) (rows : List R) (has : HasNumbered cells there rows) (p : R → Bool) (ys : List (ℤ × R))
      → IsPermutation (filter (λ (x : ℤ × R). p x.1) has.numbered) ys
      → IsPermutation (map f (filter p rows)) (map (λ (x : ℤ × R). f x.1) ys)
  told_permuted f there rows has p ys same =
      subst (IsPermutation (map f (filter p rows))) (map-map f told ys) (IsPermutation-map f (filter p rows) (map told ys) (kept_permuted there rows has p ys same))

  sorted_told : (cmp : R → R → Ordering) (ys : List (ℤ × R)) → IsSorted (λ x y. cmp x.1 y.1) ys
      → IsSorted cmp (map told ys)
  sorted_told cmp [] sorted = λ k d low high. absurd (omega (arith, high))
  sorted_told cmp (y ∷ ys) sorted = λ k d low high.
      let within : k + 1 < length (y ∷ ys) = rw (length-map (y ∷ ys) told) at high in
      let before : k < length (y ∷ ys) = omega (arith, within) in
      rw (get_or-map told (y ∷ ys) (k + 1) y d within, get_or-map told (y ∷ ys) k y d before) (sorted k y low within)

  -- those that the test finds, in their order
  pub kept_ordered : (cmp : R → R → Ordering) (there : List Row) (rows : List R) (has : HasNumbered cells there rows) (p : R → Bool) (ys : List (ℤ × R))
      → IsOrdered (λ x y. cmp x.1 y.1) (filter (λ (x : ℤ × R). p x.1) has.numbered) ys
      → IsOrdered cmp (filter p rows) (map told ys)
  kept_ordered cmp there rows has p ys at = (kept_permuted there rows has p ys at.0, sorted_told cmp ys at.1)

  -- those that the test does not find
  pub those_left : (there now : List Row) (rows : List R) (has : HasNumbered cells there rows) (p : R → Bool)
      → now ≡ map cells (filter (λ (x : ℤ × R). not (p x.1)) has.numbered)
      → HasNumbered cells now (filter (λ r. not (p r)) rows)
  those_left there now rows has p are = record {
    numbered = filter (λ (x : ℤ × R). not (p x.1)) has.numbered;
    are = are;
    rise = ascending-filter _ (λ (x : ℤ × R). not (p x.1)) has.numbered has.rise;
    tell = subst (IsPermutation (filter (λ r. not (p r)) rows)) (filter-map (λ r. not (p r)) told has.numbered) (IsPermutation-filter (λ r. not (p r)) rows (map told has.numbered) has.tell);
  }

  module _ (keyed : (x : ℤ × R) → rowid (cells x) ≡ Int x.0) where
    -- one more, under a number that was free
    pub one_more : (there now : List Row) (rows : List R) (n : ℤ) (new : R) → HasNumbered cells there rows
        → now ≡ put_row (cells (n, new)) there → is_taken there (cells (n, new)) ≡ false
        → HasNumbered cells now (new ∷ rows)
    one_more there now rows n new has put free = record {
      numbered = put_by own (n, new) has.numbered;
      are = put ∙ ap (put_row (cells (n, new))) has.are ∙ put_rows cells own keyed (n, new) has.numbered;
      rise = put_rises cells own keyed (n, new) has.numbered has.rise;
      tell = IsPermutation-trans (new ∷ rows) (new ∷ map told has.numbered) (map told (put_by own (n, new) has.numbered)) (IsPermutation-cons new rows (map told has.numbered) has.tell)
          (IsPermutation-map told ((n, new) ∷ has.numbered) (put_by own (n, new) has.numbered)
          (put_more own (n, new) has.numbered (fresh_key cells own keyed (n, new) has.numbered (subst (λ l. is_taken l (cells (n, new)) ≡ false) has.are free))));
    }

    -- in whatever order they are told
    pub one_at_end : (there now : List Row) (rows : List R) (n : ℤ) (new : R) → HasNumbered cells there rows
        → now ≡ put_row (cells (n, new)) there → is_taken there (cells (n, new)) ≡ false
        → HasNumbered cells now (rows ++ new ∷ [])
    one_at_end there now rows n new has put free =
        let more = one_more there now rows n new has put free in
        record {
          numbered = more.numbered;
          are = more.are;
          rise = more.rise;
          tell = IsPermutation-trans (rows ++ new ∷ []) (new ∷ rows) (map told more.numbered) (IsPermutation-append_comm rows (new ∷ [])) more.tell;
        }
