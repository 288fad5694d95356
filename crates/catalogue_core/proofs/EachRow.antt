-- Going row by row gives what merging all rows gives.
use Rattle.std.proofs.Common.{◌≡◌, ℕ, suc, ◌+◌, ◌-◌, ◌≤◌, Bool, true, false, cond, ◌&&◌, List, [], ◌∷◌, ◌++◌, length}
use Rattle.std.proofs.Common.{map, Option, Some, None, refl, sym, ap, ap₂, subst, ◌∙◌, nat_eq, arith}
use Rattle.std.specs.List.{IsDistinct}
use Rattle.catalogue_core.proofs.Common.{AllByRecursion, Bytes, Forest, New, Row, Unit, and_parts, bytes_eq, eq-eqb}
use Rattle.catalogue_core.proofs.Common.{eqb_comm, false≢true, find, has_id, has_legacy, is_from, is_same_unit, ne_eqb}
use Rattle.catalogue_core.proofs.Common.{nodes, numbered_from, option_and_then, option_map, parent_number, revised}
use Rattle.catalogue_core.proofs.Common.{unwrap_or}
use Rattle.catalogue_core.proofs.DistinctLists.{all_so}
use Rattle.catalogue_core.proofs.EachOf.{all_of_found}
use Rattle.catalogue_core.proofs.EnteredUnits.{or_else, find-append}
use Rattle.catalogue_core.proofs.ImportedAgain.{one_text}
use Rattle.catalogue_core.proofs.OneMoreRow.{AreApart}
use Rattle.catalogue_core.proofs.UnitPlaces.{HaveOwnNumbers}

-- ---- rows and their numbers, one more behind

-- the rows, the nearest first, with these above them
abbrev pub onto : List Row → List Row → List Row
onto above [] = above
onto above (row ∷ rows) = onto (row ∷ above) rows

pub onto-more : (above rows : List Row) (row : Row) → onto above (rows ++ row ∷ []) ≡ row ∷ onto above rows
onto-more above [] row = refl
onto-more above (r ∷ rows) row = onto-more (r ∷ above) rows row

pub all_onto : (P : Row → Type 0) (above rows : List Row) → AllByRecursion P above → AllByRecursion P rows
    → AllByRecursion P (onto above rows)
all_onto P above [] h k = h
all_onto P above (row ∷ rows) h k = all_onto P (row ∷ above) rows (k.0, h) k.1

pub numbered-more : (f : Forest Unit) (source : Bytes) (n : ℕ) (above rows : List Row) (row : Row)
    → numbered_from f source n above (rows ++ row ∷ []) ≡ numbered_from f source n above rows ++ record { id = n + length rows; parent = option_and_then (parent_number f source (n + length rows) (onto above rows)) row.parent; row = row } ∷ []
numbered-more f source n above [] row =
    let e : n ≡ n + 0 = omega arith in
    ap (λ m. record { id = m; parent = option_and_then (parent_number f source m above) row.parent; row = row } ∷ []) e
numbered-more f source n above (r ∷ rows) row =
    let e : (n + 1) + length rows ≡ n + suc (length rows) = omega arith in
    ap (λ l. record { id = n; parent = option_and_then (parent_number f source n above) r.parent; row = r } ∷ l)
    (numbered-more f source (n + 1) (r ∷ above) rows row
    ∙ ap (λ m. numbered_from f source (n + 1) (r ∷ above) rows ++ record { id = m; parent = option_and_then (parent_number f source m (onto (r ∷ above) rows)) row.parent; row = row } ∷ []) e)

pub length-numbered : (f : Forest Unit) (source : Bytes) (n : ℕ) (above rows : List Row)
    → length (numbered_from f source n above rows) ≡ length rows
length-numbered f source n above [] = refl
length-numbered f source n above (row ∷ rows) = ap suc (length-numbered f source (n + 1) (row ∷ above) rows)

pub numbers_high : (f : Forest Unit) (source : Bytes) (low n : ℕ) (above rows : List Row) → low ≤ n
    → AllByRecursion (λ (x : New). low ≤ x.id) (numbered_from f source n above rows)
numbers_high f source low n above [] h = tt
numbers_high f source low n above (row ∷ rows) h =
    (h, numbers_high f source low (n + 1) (row ∷ above) rows (omega (arith, h)))

pub numbers_apart : (f : Forest Unit) (source : Bytes) (n : ℕ) (above rows : List Row)
    → AreApart (numbered_from f source n above rows)
numbers_apart f source n above [] = tt
numbers_apart f source n above (row ∷ rows) = (
  all_so (λ (x : New). n + 1 ≤ x.id) (λ (x : New). nat_eq n x.id ≡ false) (λ x h. ne_eqb n x.id (λ e. let s = e in absurd (omega (arith, h, s)))) (numbered_from f source (n + 1) (row ∷ above) rows) (numbers_high f source (n + 1) (n + 1) (row ∷ above) rows (omega arith)),
  numbers_apart f source (n + 1) (row ∷ above) rows,
)

-- ---- what is sought among rows with other numbers

pub number_past : (f : Forest Unit) (source : Bytes) (n : ℕ) (above : List Row) (legacy : Bytes)
    → AllByRecursion (λ (row : Row). bytes_eq legacy row.legacy ≡ false) above
    → parent_number f source n above legacy ≡ option_map (λ (u : Unit). u.id) (find (is_from source legacy) (nodes f))
number_past f source n [] legacy h = refl
number_past f source n (row ∷ above) legacy h =
    ap (λ (b : Bool). cond b (Some (n - 1)) (parent_number f source (n - 1) above legacy)) h.0 ∙ number_past f source (n - 1) above legacy h.1

-- ---- the unit with one number in one source is the unit with its own number

flip_number : (m n : ℕ) → nat_eq m n ≡ false → nat_eq n m ≡ false
flip_number m n e = eqb_comm n m ∙ e

pub found_numbers : (source legacy : Bytes) (us : List Unit) (v : Unit) → HaveOwnNumbers us → IsDistinct is_same_unit us
    → find (is_from source legacy) us ≡ Some v
    → AllByRecursion (λ (u : Unit). has_id v.id u ≡ is_from source legacy u) us
unfolding IsDistinct
found_numbers source legacy [] v d p e = tt
found_numbers source legacy (u ∷ us) v d p e =
    at (is_from source legacy u) refl e (found_numbers source legacy us v d.1 p.1)
  where
    unmapped : (P : ℕ → Type 0) (vs : List Unit) → AllByRecursion P (map (λ (w : Unit). w.id) vs)
        → AllByRecursion (λ (w : Unit). P w.id) vs
    unmapped P [] h = tt
    unmapped P (w ∷ vs) h = (h.0, unmapped P vs h.1)

    both : (vs : List Unit) → is_from source legacy u ≡ true
        → AllByRecursion (λ n. nat_eq u.id n ≡ false) (map (λ (w : Unit). w.id) vs)
        → AllByRecursion (λ w. is_same_unit u w ≡ false) vs
        → AllByRecursion (λ (w : Unit). has_id u.id w ≡ is_from source legacy w) vs
    both [] it h k = tt
    both (w ∷ vs) it h k =
        let parts = and_parts (bytes_eq u.source source) (bytes_eq u.legacy legacy) it in
        let apart : is_from source legacy w ≡ false =
        ap₂ (λ s l. is_from s l w) (sym (one_text u.source source parts.0)) (sym (one_text u.legacy legacy parts.1))
        ∙ k.0 in
        (h.0 ∙ sym apart, both vs it h.1 k.1)

    at : (b : Bool) → is_from source legacy u ≡ b → cond b (Some u) (find (is_from source legacy) us) ≡ Some v
        → (find (is_from source legacy) us ≡ Some v → AllByRecursion (λ (w : Unit). has_id v.id w ≡ is_from source legacy w) us)
        → (has_id v.id u ≡ is_from source legacy u) × AllByRecursion (λ (w : Unit). has_id v.id w ≡ is_from source legacy w) us
    at true it k later =
        let same : u ≡ v = cc in
        subst (λ (x : Unit). (has_id x.id u ≡ is_from source legacy u) × AllByRecursion (λ (w : Unit). has_id x.id w ≡ is_from source legacy w) us) same
        (eq-eqb u.id u.id refl ∙ sym it, both us it d.0 p.0)
    at false it k later =
        let apart = all_of_found (λ (w : Unit). nat_eq u.id w.id ≡ false) (is_from source legacy) us v k (unmapped (λ n. nat_eq u.id n ≡ false) us d.0) in
        (flip_number u.id v.id apart ∙ sym it, later k)

-- ---- a unit's row among the rows so far

found_behind : (legacy : Bytes) (rows : List Row) (row : Row)
    → find (has_legacy legacy) (rows ++ row ∷ []) ≡ or_else (find (has_legacy legacy) rows) (cond (has_legacy legacy row) (Some row) None)
found_behind legacy rows row = find-append (has_legacy legacy) rows (row ∷ [])

pub none_with : (legacy : Bytes) (rows : List Row)
    → AllByRecursion (λ (row : Row). bytes_eq legacy row.legacy ≡ false) rows → find (has_legacy legacy) rows ≡ None
none_with legacy [] h = refl
none_with legacy (row ∷ rows) h =
    ap (λ (b : Bool). cond b (Some row) (find (has_legacy legacy) rows)) h.0 ∙ none_with legacy rows h.1

-- the row of another unit changes nothing
pub revised_past : (source : Bytes) (rows : List Row) (row : Row) (u : Unit) → is_from source row.legacy u ≡ false
    → revised source (rows ++ row ∷ []) u ≡ revised source rows u
revised_past source rows row u other = at (bytes_eq u.source source) (bytes_eq u.legacy row.legacy) refl other
  where
    missed : (r : Option Row) → or_else r None ≡ r
    missed None = refl
    missed (Some r) = refl

    at : (b d : Bool) → bytes_eq u.legacy row.legacy ≡ d → (b && d) ≡ false
        → cond b (record u { values = unwrap_or (option_map (λ (r : Row). r.values) (find (has_legacy u.legacy) (rows ++ row ∷ []))) u.values }) u ≡ cond b (record u { values = unwrap_or (option_map (λ (r : Row). r.values) (find (has_legacy u.legacy) rows)) u.values }) u
    at true true e h = absurd (false≢true (sym h))
    at true false e h =
        ap (λ r. record u { values = unwrap_or (option_map (λ (r : Row). r.values) r) u.values })
        (found_behind u.legacy rows row ∙ (ap (λ (b : Bool). or_else (find (has_legacy u.legacy) rows) (cond b (Some row) None)) e ∙ missed (find (has_legacy u.legacy) rows)))
    at false d e h = refl

-- the row of a unit gives it its values, where no row so far is of that unit
pub revised_by : (source : Bytes) (rows : List Row) (row : Row) (u : Unit) → is_from source row.legacy u ≡ true
    → AllByRecursion (λ (r : Row). bytes_eq row.legacy r.legacy ≡ false) rows
    → revised source (rows ++ row ∷ []) u ≡ record (revised source rows u) { values = row.values }
revised_by source rows row u it apart =
    let parts = and_parts (bytes_eq u.source source) (bytes_eq u.legacy row.legacy) it in
    let same = one_text u.legacy row.legacy parts.1 in
    let none : find (has_legacy u.legacy) rows ≡ None =
    none_with u.legacy rows (subst (λ l. AllByRecursion (λ (r : Row). bytes_eq l r.legacy ≡ false) rows) (sym same) apart) in
    let found : find (has_legacy u.legacy) (rows ++ row ∷ []) ≡ Some row =
    found_behind u.legacy rows row ∙ ap₂ (λ r (b : Bool). or_else r (cond b (Some row) None)) none parts.1 in
    ap₂ (λ (b : Bool) r. cond b (record u { values = unwrap_or (option_map (λ (r : Row). r.values) r) u.values }) u) parts.0 found
    ∙ sym (ap (λ (b : Bool). record (cond b (record u { values = unwrap_or (option_map (λ (r : Row). r.values) (find (has_legacy u.legacy) rows)) u.values }) u) { values = row.values }) parts.0)
