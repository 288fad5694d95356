-- After an import no two units have one number, and no two are one unit of a source.
use Rattle.std.proofs.Common.{◌≡◌, ℕ, ◌+◌, ◌<◌, ◌≤◌, Bool, true, false, not, cond, ◌&&◌, List, [], ◌∷◌, ◌++◌, refl, sym}
use Rattle.std.proofs.Common.{ap, ◌∙◌, subst, inl, inr, arith, map}
use Rattle.std.proofs.lemmas.Map.Keys.{IsDistinct-IsPermutation}
use Rattle.std.specs.List.{IsDistinct}
use Rattle.std.specs.Prelude.{nat_eq, filter}
use Rattle.catalogue_core.proofs.Common.{AllByRecursion, Bytes, Catalogue, Forest, IsPermutation-map, IsPermutation-sym}
use Rattle.catalogue_core.proofs.Common.{New, Row, Unit, and_right, bytes_eq, cases_Bool, eqb_comm, find, has_legacy}
use Rattle.catalogue_core.proofs.Common.{is_from, is_known, is_same_unit, list_any, map-append, merged_forest, ne_eqb}
use Rattle.catalogue_core.proofs.Common.{new_unit, nodes, numbered_from, option_map, or_parts, revised, unwrap_or}
use Rattle.catalogue_core.proofs.DistinctLists.{all_mapped, all_so, distinct_so, distinct_mapped, distinct_beside}
use Rattle.catalogue_core.proofs.FileRows.{AreApartRows}
use Rattle.catalogue_core.proofs.EachOf.{all_filtered}
use Rattle.catalogue_core.proofs.ImportedAgain.{numbered_rows, is_from_revised, one_text, other_way}
use Rattle.catalogue_core.proofs.Imported.{new_rows}
use Rattle.catalogue_core.proofs.Rooted.{revised_id}
use Rattle.catalogue_core.proofs.MergedNodes.{AreNumberedFrom, numbered_are, merged_nodes}

abbrev number_of : Unit → ℕ
number_of unit = unit.id

-- ---- numbers

numbers_ascend : (n : ℕ) (new : List New) → AreNumberedFrom n new → AllByRecursion (λ x. n ≤ x.id) new
numbers_ascend n [] a = tt
numbers_ascend n (x ∷ rest) a = (let e = a.0 in omega (arith, e), all_so (λ y. n + 1 ≤ y.id) (λ y. n ≤ y.id) (λ y h. omega (arith, h)) rest (numbers_ascend (n + 1) rest a.1))

numbers_differ : (n : ℕ) (new : List New) → AreNumberedFrom n new → IsDistinct (λ x y. nat_eq x.id y.id) new
unfolding IsDistinct
numbers_differ n [] a = tt
numbers_differ n (x ∷ rest) a =
    let e = a.0 in
    (all_so (λ y. n + 1 ≤ y.id) (λ y. nat_eq x.id y.id ≡ false) (λ y h. ne_eqb x.id y.id (λ s. omega (arith, e, h, s))) rest (numbers_ascend (n + 1) rest a.1), numbers_differ (n + 1) rest a.1)

revised_numbers : (source : Bytes) (rows : List Row) (us : List Unit)
    → map number_of (map (revised source rows) us) ≡ map number_of us
revised_numbers source rows [] = refl
revised_numbers source rows (u ∷ us) =
    ap (λ n. n ∷ map number_of (map (revised source rows) us)) (revised_id source rows u)
    ∙ ap (λ l. u.id ∷ l) (revised_numbers source rows us)

pub distinct_numbers : (source : Bytes) (rows : List Row) (n : ℕ) (news : List Row) (f : Forest Unit)
    → IsDistinct nat_eq (map (λ (u : Unit). u.id) (nodes f)) → AllByRecursion (λ (u : Unit). u.id < n) (nodes f)
    → IsDistinct nat_eq (map (λ (u : Unit). u.id) (nodes (merged_forest source rows (numbered_from f source n [] news) f)))
distinct_numbers source rows n news f d b =
    IsDistinct-IsPermutation nat_eq eqb_comm (map number_of (old ++ come)) (map number_of (nodes (merged_forest source rows new f)))
    (IsPermutation-map number_of (old ++ come) (nodes (merged_forest source rows new f)) (IsPermutation-sym (nodes (merged_forest source rows new f)) (old ++ come) (merged_nodes source rows n news f d b)))
    (subst (IsDistinct nat_eq) (sym parts) (distinct_beside nat_eq (map number_of (nodes f)) (map number_of come) d theirs apart))
  where
    new : List New
    new = numbered_from f source n [] news

    old : List Unit
    old = map (revised source rows) (nodes f)

    come : List Unit
    come = map (new_unit source) (numbered_from f source n [] news)

    are : AreNumberedFrom n (numbered_from f source n [] news)
    are = numbered_are f source n [] news

    parts : map number_of (old ++ come) ≡ map number_of (nodes f) ++ map number_of come
    parts = map-append number_of old come ∙ ap (λ l. l ++ map number_of come) (revised_numbers source rows (nodes f))

    theirs : IsDistinct nat_eq (map number_of come)
    theirs = distinct_mapped nat_eq number_of come (distinct_mapped (λ u v. nat_eq u.id v.id) (new_unit source) new (numbers_differ n new are))

    above : AllByRecursion (λ m. n ≤ m) (map number_of come)
    above = all_mapped (λ m. n ≤ m) number_of come (all_mapped (λ u. n ≤ u.id) (new_unit source) new (numbers_ascend n new are))

    apart : AllByRecursion (λ k. AllByRecursion (λ m. nat_eq k m ≡ false) (map number_of come)) (map number_of (nodes f))
    apart =
        all_mapped (λ k. AllByRecursion (λ m. nat_eq k m ≡ false) (map number_of come)) number_of (nodes f)
        (all_so (λ u. u.id < n) (λ u. AllByRecursion (λ m. nat_eq u.id m ≡ false) (map number_of come)) (λ u h. all_so (λ m. n ≤ m) (λ m. nat_eq u.id m ≡ false) (λ m k. ne_eqb u.id m (λ e. omega (arith, e, h, k))) (map number_of come) above) (nodes f) b)

-- ---- units of a source

bytes_flip : (a b : Bytes) → bytes_eq a b ≡ bytes_eq b a
bytes_flip a b =
    elim (cases_Bool (bytes_eq a b)) [
      | inl t ↦ let same = one_text a b t in subst (λ c. bytes_eq a c ≡ bytes_eq c a) same refl
      | inr f ↦ f ∙ sym (other_way a b f)
    ]

pub same_flip : (a b : Unit) → is_same_unit a b ≡ is_same_unit b a
same_flip a b =
    ap (λ t. t && bytes_eq b.legacy a.legacy) (bytes_flip b.source a.source)
    ∙ ap (λ t. bytes_eq a.source b.source && t) (bytes_flip b.legacy a.legacy)

same_revised : (source : Bytes) (rows : List Row) (a b : Unit)
    → is_same_unit (revised source rows a) (revised source rows b) ≡ is_same_unit a b
same_revised source rows a b =
    is_from_revised source (revised source rows a).legacy (revised source rows a).source rows b
    ∙ at (bytes_eq a.source source)
  where
    at : (c : Bool) → let r = cond c (record a { values = unwrap_or (option_map (λ row. row.values) (find (has_legacy a.legacy) rows)) a.values }) a in is_from r.source r.legacy b ≡ is_from a.source a.legacy b
    at true = refl
    at false = refl

rows_apart : (p : Row → Bool) (rows : List Row) → AreApartRows rows → AreApartRows (filter p rows)
rows_apart p [] h = tt
rows_apart p (row ∷ rows) h = at (p row) (rows_apart p rows h.1)
  where
    at : (b : Bool) → AreApartRows (filter p rows) → AreApartRows (cond b (row ∷ filter p rows) (filter p rows))
    at true k = (all_filtered (λ later. bytes_eq row.legacy later.legacy ≡ false) p rows h.0, k)
    at false k = k

pairs_differ : (f : Forest Unit) (source : Bytes) (n : ℕ) (above rows : List Row) → AreApartRows rows
    → IsDistinct (λ x y. is_same_unit (new_unit source x) (new_unit source y)) (numbered_from f source n above rows)
unfolding IsDistinct
pairs_differ f source n above [] h = tt
pairs_differ f source n above (row ∷ rows) h = (
  numbered_rows f source (n + 1) (row ∷ above) rows (λ later. (bytes_eq source source && bytes_eq later.legacy row.legacy) ≡ false)
      (all_so (λ later. bytes_eq row.legacy later.legacy ≡ false) (λ later. (bytes_eq source source && bytes_eq later.legacy row.legacy) ≡ false) (λ later e. and_right (bytes_eq source source) (bytes_eq later.legacy row.legacy) (other_way row.legacy later.legacy e)) rows h.0),
  pairs_differ f source (n + 1) (row ∷ above) rows h.1,
)

-- the rows that get units are of units that are not catalogued
unknown_rows : (c : Catalogue) (source : Bytes) (rows : List Row)
    → AllByRecursion (λ row. is_known c.forest source row ≡ false) (new_rows c source rows)
unknown_rows c source rows = go rows
  where
    at : (row : Row) (rest : List Row) (b : Bool) → is_known c.forest source row ≡ b
        → AllByRecursion (λ row. is_known c.forest source row ≡ false) rest
        → AllByRecursion (λ row. is_known c.forest source row ≡ false) (cond (not b) (row ∷ rest) rest)
    at row rest true e k = k
    at row rest false e k = (e, k)

    go : (rs : List Row)
        → AllByRecursion (λ row. is_known c.forest source row ≡ false) (filter (λ row. not (is_known c.forest source row)) rs)
    go [] = tt
    go (row ∷ rs) = at row (filter (λ row. not (is_known c.forest source row)) rs) (is_known c.forest source row) refl (go rs)

-- no unit that was there is one of the new ones
none_the_same : (source : Bytes) (rows : List Row) (xs : List New) (us : List Unit)
    → AllByRecursion (λ x. list_any (is_from source x.row.legacy) us ≡ false) xs
    → AllByRecursion (λ u. AllByRecursion (λ v. is_same_unit u v ≡ false) (map (new_unit source) xs)) (map (revised source rows) us)
none_the_same source rows xs [] h = tt
none_the_same source rows xs (u ∷ us) h = (
  all_mapped (λ v. is_same_unit (revised source rows u) v ≡ false) (new_unit source) xs
      (all_so (λ x. list_any (is_from source x.row.legacy) (u ∷ us) ≡ false) (λ x. is_same_unit (revised source rows u) (new_unit source x) ≡ false)
      (λ x k. same_flip (revised source rows u) (new_unit source x) ∙ (is_from_revised source x.row.legacy source rows u ∙ (or_parts (is_from source x.row.legacy u) (list_any (is_from source x.row.legacy) us) k).0)) xs h),
  none_the_same source rows xs us (all_so (λ x. list_any (is_from source x.row.legacy) (u ∷ us) ≡ false) (λ x. list_any (is_from source x.row.legacy) us ≡ false) (λ x k. (or_parts (is_from source x.row.legacy u) (list_any (is_from source x.row.legacy) us) k).1) xs h),
)

pub distinct_pairs : (c : Catalogue) (source : Bytes) (rows : List Row) → AreApartRows rows
    → IsDistinct nat_eq (map (λ (u : Unit). u.id) (nodes c.forest))
    → AllByRecursion (λ (u : Unit). u.id < c.next) (nodes c.forest) → IsDistinct is_same_unit (nodes c.forest)
    → IsDistinct is_same_unit (nodes (merged_forest source rows (numbered_from c.forest source c.next [] (new_rows c source rows)) c.forest))
distinct_pairs c source rows apart d b pairs =
    IsDistinct-IsPermutation is_same_unit same_flip (old ++ come) (nodes (merged_forest source rows new c.forest))
    (IsPermutation-sym (nodes (merged_forest source rows new c.forest)) (old ++ come) (merged_nodes source rows c.next (new_rows c source rows) c.forest d b))
    (distinct_beside is_same_unit old come were theirs (none_the_same source rows new (nodes c.forest) unknown))
  where
    new : List New
    new = numbered_from c.forest source c.next [] (new_rows c source rows)

    old : List Unit
    old = map (revised source rows) (nodes c.forest)

    come : List Unit
    come = map (new_unit source) (numbered_from c.forest source c.next [] (new_rows c source rows))

    were : IsDistinct is_same_unit old
    were = distinct_mapped is_same_unit (revised source rows) (nodes c.forest) (distinct_so is_same_unit (λ x y. is_same_unit (revised source rows x) (revised source rows y)) (λ x y h. same_revised source rows x y ∙ h) (nodes c.forest) pairs)

    theirs : IsDistinct is_same_unit come
    theirs =
        distinct_mapped is_same_unit (new_unit source) new
        (pairs_differ c.forest source c.next [] (new_rows c source rows) (rows_apart (λ row. not (is_known c.forest source row)) rows apart))

    unknown : AllByRecursion (λ x. list_any (is_from source x.row.legacy) (nodes c.forest) ≡ false) new
    unknown = numbered_rows c.forest source c.next [] (new_rows c source rows) (λ row. is_known c.forest source row ≡ false) (unknown_rows c source rows)
