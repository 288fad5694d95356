-- Rows of typed records: what takes some out, and what puts them back changed.
use Rattle.std.proofs.Common.{◌≡◌, inl, inr, ℤ, List, [], ◌∷◌, map, filter, Bool, true, false, not, ◌&&◌, if◌then◌else◌}
use Rattle.std.proofs.Common.{cond, Ordering, Less, Equal, Greater, refl, sym, ap, ap₂, subst, ◌∙◌}
use Rattle.std.specs.Cmp.{tied_itself, both_ways}
use Rattle.sqlite.specs.Order.{value_cmp}
use Rattle.sqlite_trees.proofs.TreeLemmas.{IsTable-put_row, not_true}
use Rattle.catalogue_core.proofs.Imported.{or_not}
use Rattle.office_tables.proofs.Common.{Has, Int, IsPermutation, IsPermutation-sym, IsTable, IsTotalOrder, Rises, Row}
use Rattle.office_tables.proofs.Common.{all-permutation, all_from, all_has, all_of, are_fresh, ascending-filter}
use Rattle.office_tables.proofs.Common.{ascending-map, ascending_weaker, cases_Bool, filter-map, filter_all}
use Rattle.office_tables.proofs.Common.{filter_same, has_filtered, has_kept, has_rowid, int_cmp, int_cmp_total, is_eq}
use Rattle.office_tables.proofs.Common.{list_any, on_total, put_all, put_all_adds, put_all_has, put_all_keeps, put_row}
use Rattle.office_tables.proofs.Common.{rowid, some_from, some_has, tied_back, value_cmp-Int, value_cmp_total}
use Rattle.office_tables.proofs.Common.{without_all, without_rowid}
use Rattle.office_tables.proofs.Sorted.{same_rising}

pub has_map : {A B : Type 0} (f : A → B) (xs : List A) (x : A) → Has xs x → Has (map f xs) (f x)
has_map f (y ∷ xs) x (inl e) = inl (ap f e)
has_map f (y ∷ xs) x (inr h) = inr (has_map f xs x h)
has_map f [] x h = h

pub map_has : {A B : Type 0} (f : A → B) (xs : List A) (z : B) → Has (map f xs) z → (x : A) × Has xs x × (z ≡ f x)
map_has f [] z h = absurd h
map_has f (y ∷ xs) z (inl e) = (y, inl refl, e)
map_has f (y ∷ xs) z (inr h) = let it = map_has f xs z h in (it.0, inr it.1, it.2)

pub had : {A : Type 0} (xs ys : List A) → IsPermutation xs ys → (z : A) → Has ys z → Has xs z
had xs ys same z = all_has (Has xs) ys z (all-permutation (Has xs) xs ys same (all_from (Has xs) xs (λ x h. h)))

pub filters : {A : Type 0} (p q : A → Bool) (xs : List A) → filter q (filter p xs) ≡ filter (λ x. p x && q x) xs
filters p q [] = refl
filters p q (x ∷ xs) = elim (p x) as (λ b. filter q (cond b (x ∷ filter p xs) (filter p xs)) ≡ cond (b && q x) (x ∷ filter (λ x. p x && q x) xs) (filter (λ x. p x && q x) xs)) [
  | true ↦ ap (λ l. cond (q x) (x ∷ l) l) (filters p q xs)
  | false ↦ filters p q xs
]

pub same_test : {A : Type 0} (p q : A → Bool) → ((x : A) → p x ≡ q x) → (xs : List A) → filter p xs ≡ filter q xs
same_test p q e xs = filter_same p q xs (all_of (λ x. p x ≡ q x) e xs)

pub kept_all : {A : Type 0} (xs : List A) → filter (λ _. true) xs ≡ xs
kept_all xs = filter_all (λ _. true) xs (all_of (λ _. true ≡ true) (λ _. refl) xs)

pub without_all_is : (ids : List ℤ) (rows : List Row)
    → without_all rows ids ≡ filter (λ r. not (list_any (λ id. has_rowid id r) ids)) rows
without_all_is [] rows = sym (kept_all rows)
without_all_is (id ∷ ids) rows =
    without_all_is ids (without_rowid id rows)
    ∙ filters (λ r. not (has_rowid id r)) (λ r. not (list_any (λ id. has_rowid id r) ids)) rows
    ∙ same_test _ _ (λ r. or_not (has_rowid id r) (list_any (λ id. has_rowid id r) ids)) rows

pub IsTable-put_all : (news rows : List Row) → IsTable rows → IsTable (put_all rows news)
IsTable-put_all [] rows up = up
IsTable-put_all (r ∷ news) rows up = IsTable-put_all news (put_row r rows) (IsTable-put_row r rows up)

pub eq_from : (o : Ordering) → is_eq o ≡ true → o ≡ Equal
eq_from Less h = absurd (cc)
eq_from Equal h = refl
eq_from Greater h = absurd (cc)

true_not_false : {b : Bool} → b ≡ true → not b ≡ true → ⊥
true_not_false h k = let e : false ≡ true = sym (ap not h) ∙ k in cc

module _ {A : Type 0} (row : A → Row) (key : A → ℤ) (keyed : (x : A) → rowid (row x) ≡ Int (key x)) where
  abbrev pub by_key : A → A → Ordering
  by_key a b = int_cmp (key a) (key b)

  pub by_key_total : IsTotalOrder by_key
  by_key_total = on_total key int_cmp_total

  pub compared : (a b : A) → value_cmp (rowid (row a)) (rowid (row b)) ≡ int_cmp (key a) (key b)
  compared a b = ap₂ value_cmp (keyed a) (keyed b) ∙ value_cmp-Int (key a) (key b)

  pub table_rises : (xs : List A) → Rises by_key xs → IsTable (map row xs)
  table_rises xs up = ascending-map (λ a b. value_cmp (rowid a) (rowid b) ≡ Less) row xs (ascending_weaker (λ a b. int_cmp (key a) (key b) ≡ Less) (λ a b. value_cmp (rowid (row a)) (rowid (row b)) ≡ Less) (λ a b h. compared a b ∙ h) xs up)

  pub tests : (id : ℤ) (x : A) → has_rowid id (row x) ≡ is_eq (int_cmp (key x) id)
  tests id x = ap (λ v. is_eq (value_cmp v (Int id))) (keyed x) ∙ ap is_eq (value_cmp-Int (key x) id)

  pub same_key : (xs : List A) (x y : A) → Rises by_key xs → Has xs x → Has xs y → int_cmp (key x) (key y) ≡ Equal
      → x ≡ y
  same_key [] x y up hx hy e = absurd hx
  same_key (z ∷ zs) x y up (inl p) (inl q) e = p ∙ sym q
  same_key (z ∷ zs) x y up (inl p) (inr h) e = absurd (let k : Less ≡ Equal = sym (all_has (λ w. by_key z w ≡ Less) zs y up.0 h) ∙ ap (λ w. by_key w y) (sym p) ∙ e in cc)
  same_key (z ∷ zs) x y up (inr h) (inl q) e =
      absurd (let k : Less ≡ Equal = sym (all_has (λ w. by_key z w ≡ Less) zs x up.0 h) ∙ ap (λ w. by_key w x) (sym q) ∙ tied_back by_key_total x y e in cc)
  same_key (z ∷ zs) x y up (inr h) (inr k) e = same_key zs x y up.1 h k e

  module _ (xs : List A) (up : Rises by_key xs) (keep : A → Bool) (ys : List A) (perm : IsPermutation (filter keep xs) ys) where
    chosen : (y : A) → Has ys y → Has xs y × (keep y ≡ true)
    chosen y h = has_filtered keep xs y (had (filter keep xs) ys perm y h)

    kept : (x : A) → Has xs x → keep x ≡ true → Has ys x
    kept x h k = had ys (filter keep xs) (IsPermutation-sym (filter keep xs) ys perm) x (has_kept keep xs x h k)

    gone : (x : A) → Has xs x → list_any (λ id. has_rowid id (row x)) (map key ys) ≡ keep x
    gone x has = both_ways (list_any (λ id. has_rowid id (row x)) (map key ys)) (keep x) there back
      where
        there : list_any (λ id. has_rowid id (row x)) (map key ys) ≡ true → keep x ≡ true
        there h =
            let some = some_has (λ id. has_rowid id (row x)) (map key ys) h in
            let from = map_has key ys some.0 some.1 in
            let y = chosen from.0 from.1 in
            let tied : int_cmp (key x) (key from.0) ≡ Equal =
            eq_from _ (ap (λ id. is_eq (int_cmp (key x) id)) (sym from.2) ∙ sym (tests some.0 x) ∙ some.2) in
            ap keep (same_key xs x from.0 up has y.0 tied) ∙ y.1

        back : keep x ≡ true → list_any (λ id. has_rowid id (row x)) (map key ys) ≡ true
        back h = some_from (λ id. has_rowid id (row x)) (map key ys) (key x) (has_map key ys x (kept x has h)) (tests (key x) x ∙ ap is_eq (tied_itself int_cmp_total (key x)))

    pub removed : without_all (map row xs) (map key ys) ≡ map row (filter (λ x. not (keep x)) xs)
    removed =
        without_all_is (map key ys) (map row xs)
        ∙ filter-map (λ r. not (list_any (λ id. has_rowid id r) (map key ys))) row xs
        ∙ ap (map row) (filter_same (λ x. not (list_any (λ id. has_rowid id (row x)) (map key ys))) (λ x. not (keep x)) xs
        (all_from (λ x. not (list_any (λ id. has_rowid id (row x)) (map key ys)) ≡ not (keep x)) xs (λ x h. ap not (gone x h))))

    -- the records that are kept are changed, and not their keys
    module _ (change : A → A) (same_id : (x : A) → key (change x) ≡ key x) where
      abbrev pub changed : A → A
      changed x = if keep x then change x else x

      changed_key : (x : A) → key (changed x) ≡ key x
      changed_key x = elim (keep x) as (λ b. key (cond b (change x) x) ≡ key x) [ true ↦ same_id x | false ↦ refl ]

      is_changed : (x : A) → keep x ≡ true → changed x ≡ change x
      is_changed x h = rw h refl

      is_same : (x : A) → keep x ≡ false → changed x ≡ x
      is_same x h = rw h refl

      pub rises_still : Rises by_key (map changed xs)
      rises_still = ascending-map (λ a b. by_key a b ≡ Less) changed xs (ascending_weaker (λ a b. by_key a b ≡ Less) (λ a b. by_key (changed a) (changed b) ≡ Less) (λ a b h. ap₂ int_cmp (changed_key a) (changed_key b) ∙ h) xs up)

      abbrev news : List Row
      news = map (λ x. row (change x)) ys

      abbrev left : List Row
      left = without_all (map row xs) (map key ys)

      in_place : (x : A) → Has xs x → Has (map row (map changed xs)) (row (changed x))
      in_place x h = has_map row (map changed xs) (changed x) (has_map changed xs x h)

      there : (z : Row) → Has (put_all left news) z → Has (map row (map changed xs)) z
      there z h = elim (put_all_has news left z h) [
        | inl new ↦
            let from = map_has (λ x. row (change x)) ys z new in
            let y = chosen from.0 from.1 in
            subst (Has (map row (map changed xs))) (ap row (is_changed from.0 y.1) ∙ sym from.2) (in_place from.0 y.0)
        | inr old ↦
            let from = map_has row (filter (λ x. not (keep x)) xs) z (subst (λ l. Has l z) removed old) in
            let x = has_filtered (λ x. not (keep x)) xs from.0 from.1 in
            subst (Has (map row (map changed xs))) (ap row (is_same from.0 (not_true (keep from.0) (λ k. true_not_false k x.1))) ∙ sym from.2) (in_place from.0 x.0)
      ]

      back : are_fresh left news ≡ true → (z : Row) → Has (map row (map changed xs)) z → Has (put_all left news) z
      back fresh z h =
          let outer = map_has row (map changed xs) z h in
          let inner = map_has changed xs outer.0 outer.1 in
          let x = inner.0 in
          let is : z ≡ row (changed x) = outer.2 ∙ ap row inner.2 in
          elim (cases_Bool (keep x)) [
            | inl is_kept ↦ subst (Has (put_all left news)) (ap row (sym (is_changed x is_kept)) ∙ sym is) (put_all_adds news left (row (change x)) fresh (has_map (λ x. row (change x)) ys x (kept x inner.1 is_kept)))
            | inr not_kept ↦
                let rest : Has left (row x) =
                subst (λ l. Has l (row x)) (sym removed) (has_map row (filter (λ x. not (keep x)) xs) x (has_kept (λ x. not (keep x)) xs x inner.1 (ap not not_kept))) in
                subst (Has (put_all left news)) (ap row (sym (is_same x not_kept)) ∙ sym is) (put_all_keeps news left (row x) fresh rest)
          ]

      pub replaced : are_fresh left news ≡ true → put_all left news ≡ map row (map changed xs)
      replaced fresh =
          let low : IsTable left =
          subst IsTable (sym removed) (table_rises (filter (λ x. not (keep x)) xs) (ascending-filter _ (λ x. not (keep x)) xs up)) in
          same_rising (λ a b. value_cmp (rowid a) (rowid b)) (on_total rowid value_cmp_total) (put_all left news) (map row (map changed xs))
          (IsTable-put_all news left low) (table_rises (map changed xs) rises_still) there (back fresh)
