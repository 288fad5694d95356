-- The texts that rows of elements say are those rows.
use Rattle.std.proofs.Common.{◌≡◌, ℕ, zero, suc, ◌+◌, ◌<◌, ◌≤◌, true, false, cond, not, ◌&&◌, List, [], ◌∷◌, ◌++◌}
use Rattle.std.proofs.Common.{Option, Some, None, refl, sym, ap, ◌∙◌, subst, nat_eq, inl, inr, arith, map}
use Rattle.std.specs.List.{IsDistinct}
use Rattle.tree_core.proofs.Repeats.{distinct_repeats}
use Rattle.catalogue_core.specs.Sources.{is_between}
use Rattle.office_core.specs.Words.{stands}
use Rattle.state_encoding.proofs.Common.{Bytes, ElementRow, Forest, In, In-map, IsPermutation, IsPermutation-trans}
use Rattle.state_encoding.proofs.Common.{OfficeRows, Unit, after_level, and_from, and_parts, cases_eq, cases_lt, each}
use Rattle.state_encoding.proofs.Common.{element_rows_from, eq-eqb, eqb-true, false≢true, filter, find, find_some}
use Rattle.state_encoding.proofs.Common.{flat_map, flat_map-cons, flat_map-map, is_blank_text, is_good_element}
use Rattle.state_encoding.proofs.Common.{is_good_text, is_same_element, le-ltb, leb-true, list_all, lt-ltb, nat_le}
use Rattle.state_encoding.proofs.Common.{nodes, nodes-each, not-true, numbers_from, option_map, option_to_list}
use Rattle.state_encoding.proofs.Common.{text_said, unit_from_rows}
use Rattle.state_encoding.proofs.UnitRows.{found_kept}
use Rattle.state_encoding.proofs.RowsByNumber.{in_filter, flat_map_same, flat_map_reordered, grouped, one_kept}
use Rattle.state_encoding.proofs.RowsByNumber.{in_numbers, own_apart}
use Rattle.state_encoding.proofs.told.ToldUnits.{said_id, said_texts}

abbrev mine : ℕ → List ElementRow → List ElementRow
mine u rows = filter (λ (row : ElementRow). nat_eq row.unit u) rows

-- the numbers of the elements: 1 to 26 without 4
abbrev numbers : List ℕ
numbers = map after_level (numbers_from 1 25)

numbers_apart : IsDistinct nat_eq numbers
numbers_apart = distinct_repeats nat_eq numbers refl

low : (k : ℕ) → k < 4 → after_level k ≡ k
low k h = ap (λ b. cond b k (k + 1)) (lt-ltb k 4 h)

high : (k : ℕ) → 4 ≤ k → after_level k ≡ k + 1
high k h = ap (λ b. cond b k (k + 1)) (le-ltb k 4 h)

is_number : (k : ℕ) → 1 ≤ k → k ≤ 26 → (k ≡ 4 → ⊥) → In k numbers
is_number k a b c = elim (cases_lt k 4) [
  | inl l ↦ subst (λ n. In n numbers) (low k l) (In-map after_level (numbers_from 1 25) k (in_numbers 1 k 25 a (omega (arith, l))))
  | inr g ↦ above k a b c g
]
  where
    above : (k : ℕ) → 1 ≤ k → k ≤ 26 → (k ≡ 4 → ⊥) → 4 ≤ k → In k numbers
    above zero a b c g = absurd (omega (arith, a))
    above (suc j) a b c g =
        let more : 4 ≤ j = elim (cases_eq (suc j) 4) [ inl e ↦ absurd (c e) | inr n ↦ omega (arith, g, n) ] in
        let e : j + 1 ≡ suc j = omega arith in
        subst (λ n. In n numbers) (high j more ∙ e) (In-map after_level (numbers_from 1 25) j (in_numbers 1 j 25 (omega (arith, more)) (omega (arith, b))))

-- ---- the rows of one unit

-- no two have one number
mine_apart : (u : ℕ) (rows : List ElementRow) → IsDistinct is_same_element rows
    → IsDistinct nat_eq (map (λ (row : ElementRow). row.k) (mine u rows))
mine_apart u rows d = own_apart (λ (row : ElementRow). row.unit) (λ (row : ElementRow). row.k) u rows d

-- the row that a text shows is the one that it was read from
one_shown : (u j : ℕ) (rows : List ElementRow) (texts : List (Option Bytes)) →
    element_rows_from u j (text_said rows u j ∷ texts) ≡ option_to_list (find (λ (row : ElementRow). nat_eq row.k (after_level j)) (mine u rows)) ++ element_rows_from u (suc j) texts
one_shown u j rows texts =
    ap (λ r. element_rows_from u j (option_map (λ (row : ElementRow). row.value) r ∷ texts)) (found_kept (λ (row : ElementRow). nat_eq row.unit u) (λ (row : ElementRow). nat_eq row.k (after_level j)) rows)
    ∙ at (find (λ (row : ElementRow). nat_eq row.k (after_level j)) (mine u rows)) refl
  where
    at : (r : Option ElementRow) → find (λ (row : ElementRow). nat_eq row.k (after_level j)) (mine u rows) ≡ r
        → element_rows_from u j (option_map (λ (row : ElementRow). row.value) r ∷ texts) ≡ option_to_list r ++ element_rows_from u (suc j) texts
    at None e = refl
    at (Some row) e =
        let f = find_some (λ (row : ElementRow). nat_eq row.k (after_level j)) (mine u rows) row e in
        let own = in_filter (λ (row : ElementRow). nat_eq row.unit u) rows row f.0 in
        let a = eqb-true row.unit u own.1 in
        let b = eqb-true row.k (after_level j) f.1 in
        ap (λ n. record { unit = n; k = after_level j; value = row.value } ∷ element_rows_from u (suc j) texts) (sym a)
        ∙ ap (λ n. record { unit = row.unit; k = n; value = row.value } ∷ element_rows_from u (suc j) texts) (sym b)

all_shown : (u j n : ℕ) (rows : List ElementRow) → IsDistinct is_same_element rows
    → element_rows_from u j (map (text_said rows u) (numbers_from j n)) ≡ flat_map (λ k. filter (λ (row : ElementRow). nat_eq row.k k) (mine u rows)) (map after_level (numbers_from j n))
all_shown u j zero rows d = refl
all_shown u j (suc n) rows d =
    one_shown u j rows (map (text_said rows u) (numbers_from (suc j) n))
    ∙ (ap (λ l. l ++ element_rows_from u (suc j) (map (text_said rows u) (numbers_from (suc j) n))) (sym (one_kept (λ (row : ElementRow). row.k) (after_level j) (mine u rows) (mine_apart u rows d)))
    ∙ (ap (λ l. filter (λ (row : ElementRow). nat_eq row.k (after_level j)) (mine u rows) ++ l) (all_shown u (suc j) n rows d)
    ∙ sym (flat_map-cons (λ k. filter (λ (row : ElementRow). nat_eq row.k k) (mine u rows)) (after_level j) (map after_level (numbers_from (suc j) n)))))

-- ---- of all units

-- what a good row of an element is
pub record IsGoodElement (units : List ℕ) (row : ElementRow) : Type 0 where
  pub number : In row.k numbers
  pub filled : is_blank_text row.value ≡ false
  pub unit : stands row.unit units ≡ true

pub good_element : (units : List ℕ) (row : ElementRow) → is_good_element units row ≡ true → IsGoodElement units row
good_element units row h =
    let a = and_parts (is_between 1 26 row.k) _ h in
    let b = and_parts (not (nat_eq row.k 4)) _ a.1 in
    let c = and_parts (not (is_blank_text row.value)) (stands row.unit units) b.1 in
    let r = and_parts (nat_le 1 row.k) (nat_le row.k 26) a.0 in
    record {
      number = is_number row.k (leb-true 1 row.k r.0) (leb-true row.k 26 r.1) (λ e. false≢true (sym (ap not (eq-eqb row.k 4 e)) ∙ b.0));
      filled = not-true (is_blank_text row.value) c.0;
      unit = c.1;
    }

pub elements_are_said : (t : OfficeRows) (f : Forest ℕ) → IsDistinct nat_eq (nodes f)
    → IsDistinct is_same_element t.catalogue.elements
    → ((row : ElementRow) → In row t.catalogue.elements → (In row.k numbers) × (In row.unit (nodes f)))
    → IsPermutation (flat_map (λ (unit : Unit). element_rows_from unit.id 1 unit.values.texts) (nodes (each (unit_from_rows t.catalogue) f))) t.catalogue.elements
elements_are_said t f a d h =
    let key : ElementRow → ℕ = λ row. row.unit in
    let shown : Unit → List ElementRow = λ unit. element_rows_from unit.id 1 unit.values.texts in
    let of : ℕ → List ElementRow =
    λ u. element_rows_from u 1 (map (text_said t.catalogue.elements u) (numbers_from 1 25)) in
    let same : flat_map shown (nodes (each (unit_from_rows t.catalogue) f)) ≡ flat_map of (nodes f) =
    ap (flat_map shown) (nodes-each (unit_from_rows t.catalogue) f)
    ∙ (flat_map-map shown (unit_from_rows t.catalogue) (nodes f)
    ∙ flat_map_same (λ u. shown (unit_from_rows t.catalogue u)) of (nodes f) (λ u i. ap (λ n. element_rows_from n 1 (unit_from_rows t.catalogue u).values.texts) (said_id t u) ∙ ap (element_rows_from u 1) (said_texts t u))) in
    subst (λ l. IsPermutation l t.catalogue.elements) (sym same)
    (IsPermutation-trans (flat_map of (nodes f)) (flat_map (λ u. mine u t.catalogue.elements) (nodes f)) t.catalogue.elements
    (flat_map_reordered of (λ u. mine u t.catalogue.elements) (nodes f) (λ u i.
    subst (λ l. IsPermutation l (mine u t.catalogue.elements)) (sym (all_shown u 1 25 t.catalogue.elements d))
    (grouped (λ (row : ElementRow). row.k) numbers (mine u t.catalogue.elements) numbers_apart (λ row j. (h row (in_filter (λ (row : ElementRow). nat_eq row.unit u) t.catalogue.elements row j).0).0))))
    (grouped key (nodes f) t.catalogue.elements a (λ row i. (h row i).1)))

-- each text that is said is one of a row
pub texts_are_good : (t : OfficeRows) (u : ℕ) (ns : List ℕ)
    → ((row : ElementRow) → In row t.catalogue.elements → is_blank_text row.value ≡ false)
    → list_all is_good_text (map (text_said t.catalogue.elements u) ns) ≡ true
texts_are_good t u [] h = refl
texts_are_good t u (k ∷ ns) h =
    and_from (is_good_text (text_said t.catalogue.elements u k)) (list_all is_good_text (map (text_said t.catalogue.elements u) ns)) (at (find (λ (row : ElementRow). nat_eq row.unit u && nat_eq row.k (after_level k)) t.catalogue.elements) refl) (texts_are_good t u ns h)
  where
    at : (r : Option ElementRow)
        → find (λ (row : ElementRow). nat_eq row.unit u && nat_eq row.k (after_level k)) t.catalogue.elements ≡ r
        → is_good_text (option_map (λ (row : ElementRow). row.value) r) ≡ true
    at None e = refl
    at (Some row) e = ap not (h row (find_some (λ (row : ElementRow). nat_eq row.unit u && nat_eq row.k (after_level k)) t.catalogue.elements row e).0)
