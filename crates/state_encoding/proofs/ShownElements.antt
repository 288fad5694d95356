-- The rows of the texts and of the containers of a sound catalogue have their keys and no cause.
use Rattle.std.proofs.Common.{◌≡◌, ℕ, zero, suc, ◌+◌, ◌<◌, ◌≤◌, Bool, true, false, cond, not, List, [], ◌∷◌, length}
use Rattle.std.proofs.Common.{Option, Some, None, refl, sym, ap, ◌∙◌, subst, nat_eq, nat_lt, inl, inr, arith, map}
use Rattle.std.specs.List.{IsDistinct}
use Rattle.std.specs.Prelude.{unwrap_or}
use Rattle.catalogue_core.specs.Sources.{is_between}
use Rattle.office_core.specs.Words.{stands}
use Rattle.state_encoding.proofs.Common.{AllByRecursion, BoxKey, Bytes, ContainerRow, ElementRow, HousingRow, In}
use Rattle.state_encoding.proofs.Common.{In-map, IsGoodUnit, IsSoundCatalogue, OfficeRows, State, Unit, Version}
use Rattle.state_encoding.proofs.Common.{after_level, and_from, and_parts, any_from_In, are_good_container_rows}
use Rattle.state_encoding.proofs.Common.{are_numbered_from, box_itself, box_number, container_row, element_rows_from}
use Rattle.state_encoding.proofs.Common.{false≢true, housing_row, housings_of, is_blank_text, is_good_element}
use Rattle.state_encoding.proofs.Common.{is_good_housing, is_good_text, is_housed_alike, is_same_box, is_same_container}
use Rattle.state_encoding.proofs.Common.{is_same_element, is_same_place, le-leb, list_all, list_any, ltb-false}
use Rattle.state_encoding.proofs.Common.{ltb-true, most_containers, nat_le, nodes, not-true, not_from_false, nth}
use Rattle.state_encoding.proofs.Common.{numbers_from, other_number, rows_from, same_number, slice_get, tables}
use Rattle.state_encoding.proofs.Common.{unit_number, unit_numbers}
use Rattle.state_encoding.proofs.UnitRows.{HasRows, all_rows, number_there, number_back, after_less, elements_own}
use Rattle.state_encoding.proofs.UnitRows.{housings_own}
use Rattle.state_encoding.proofs.RowsByNumber.{each_in, in_each, all_in, in_all, in_map, numbers_apart}
use Rattle.state_encoding.proofs.Apart.{in_flat_map, pairs_apart, all_different}

-- ---- the texts

-- the row of a text at a place from j on
record IsTextRow (u j n : ℕ) (row : ElementRow) : Type 0 where
  unit : row.unit ≡ u
  place : ℕ
  behind : j ≤ place
  before : place < j + n
  number : row.k ≡ after_level place
  filled : is_blank_text row.value ≡ false

text_row : (u j : ℕ) (texts : List (Option Bytes)) → list_all is_good_text texts ≡ true → (row : ElementRow)
    → In row (element_rows_from u j texts) → IsTextRow u j (length texts) row
text_row u j [] h row i = absurd i
text_row u j (None ∷ texts) h row i = let r = text_row u (suc j) texts h row i in record { unit = r.unit; place = r.place; behind = omega (arith, r.behind); before = omega (arith, r.before); number = r.number; filled = r.filled }
text_row u j (Some text ∷ texts) h row (inl e) =
    record {
      unit = ap (λ (r : ElementRow). r.unit) e;
      place = j;
      behind = omega arith;
      before = omega arith;
      number = ap (λ (r : ElementRow). r.k) e;
      filled = ap (λ (r : ElementRow). is_blank_text r.value) e ∙ not-true (is_blank_text text) (and_parts (not (is_blank_text text)) (list_all is_good_text texts) h).0;
    }
text_row u j (Some text ∷ texts) h row (inr i) =
    let r = text_row u (suc j) texts (and_parts (not (is_blank_text text)) (list_all is_good_text texts) h).1 row i in
    record { unit = r.unit; place = r.place; behind = omega (arith, r.behind); before = omega (arith, r.before); number = r.number; filled = r.filled }

ranged : (i : ℕ) → 1 ≤ i → i < 26 → (is_between 1 26 (after_level i) ≡ true) × (not (nat_eq (after_level i) 4) ≡ true)
ranged i a b = at (nat_lt i 4) refl
  where
    at : (x : Bool) → nat_lt i 4 ≡ x
        → (is_between 1 26 (cond x i (i + 1)) ≡ true) × (not (nat_eq (cond x i (i + 1)) 4) ≡ true)
    at true e =
        let l = ltb-true i 4 e in
        (and_from (nat_le 1 i) (nat_le i 26) (le-leb 1 i a) (le-leb i 26 (omega (arith, l))), ap not (other_number i 4 (λ q. omega (arith, l, q))))
    at false e =
        let l = ltb-false i 4 e in
        (and_from (nat_le 1 (i + 1)) (nat_le (i + 1) 26) (le-leb 1 (i + 1) (omega arith)) (le-leb (i + 1) 26 (omega (arith, b))), ap not (other_number (i + 1) 4 (λ q. omega (arith, l, q))))

numbers_differ : (u j : ℕ) (texts : List (Option Bytes)) → list_all is_good_text texts ≡ true
    → IsDistinct nat_eq (map (λ (row : ElementRow). row.k) (element_rows_from u j texts))
unfolding IsDistinct
numbers_differ u j [] h = tt
numbers_differ u j (None ∷ texts) h = numbers_differ u (suc j) texts h
numbers_differ u j (Some text ∷ texts) h =
    let rest = (and_parts (not (is_blank_text text)) (list_all is_good_text texts) h).1 in (
      in_each (λ k. nat_eq (after_level j) k ≡ false) (map (λ (row : ElementRow). row.k) (element_rows_from u (suc j) texts)) (λ k i.
          let m = in_map (λ (row : ElementRow). row.k) (element_rows_from u (suc j) texts) k i in
          let r = text_row u (suc j) texts rest m.it m.there in
          let less = after_less j r.place (omega (arith, r.behind)) in
          let e = m.is in
          let f = r.number in
          other_number (after_level j) k (λ q. omega (arith, less, e, f, q))),
      numbers_differ u (suc j) texts rest,
    )

pub elements_shown : (version : Version) (s : State) → IsSoundCatalogue s
    → unit_numbers (tables version s).catalogue ≡ map unit_number (nodes s.catalogue.forest)
    → (list_all (is_good_element (unit_numbers (tables version s).catalogue)) (tables version s).catalogue.elements ≡ true) × IsDistinct is_same_element (tables version s).catalogue.elements
elements_shown version s g told =
    let us = nodes s.catalogue.forest in
    let rows : Unit → List ElementRow = λ unit. element_rows_from unit.id 1 unit.values.texts in (
      in_all (is_good_element (unit_numbers (tables version s).catalogue)) (tables version s).catalogue.elements (λ row i.
          let o = in_flat_map rows us row i in
          let k = each_in (IsGoodUnit s.catalogue.containers) us o.unit g.units.each o.there in
          let r = text_row o.unit.id 1 o.unit.values.texts k.texts row o.own in
          let count = k.texts_count in
          let last = r.before in
          let w = ranged r.place r.behind (omega (arith, last, count)) in
          and_from (is_between 1 26 row.k) _ (ap (is_between 1 26) r.number ∙ w.0)
          (and_from (not (nat_eq row.k 4)) _ (ap (λ n. not (nat_eq n 4)) r.number ∙ w.1)
          (and_from (not (is_blank_text row.value)) (stands row.unit (unit_numbers (tables version s).catalogue)) (not_from_false (is_blank_text row.value) r.filled)
          (ap (λ n. stands n (unit_numbers (tables version s).catalogue)) r.unit ∙ (ap (stands o.unit.id) told ∙ any_from_In (map unit_number us) o.unit.id (In-map unit_number us o.unit o.there)))))),
      pairs_apart (λ (row : ElementRow). row.unit) (λ (row : ElementRow). row.k) rows (λ u. elements_own u.id 1 u.values.texts) us g.units.ids
          (λ u i. numbers_differ u.id 1 u.values.texts (each_in (IsGoodUnit s.catalogue.containers) us u g.units.each i).texts),
    )

-- ---- the containers

ids_count : (n : ℕ) (boxes : List BoxKey)
    → map (λ (row : ContainerRow). row.id) (rows_from container_row n boxes) ≡ numbers_from n (length boxes)
ids_count n [] = refl
ids_count n (b ∷ boxes) = ap (λ l. n ∷ l) (ids_count (suc n) boxes)

counted : (n : ℕ) (boxes : List BoxKey)
    → are_numbered_from (λ (row : ContainerRow). row.id) n (rows_from container_row n boxes) ≡ true
counted n [] = refl
counted n (b ∷ boxes) = and_from (nat_eq n n) _ (same_number n) (counted (suc n) boxes)

named : (n : ℕ) (boxes : List BoxKey) → list_all (λ box. not (is_blank_text box.name)) boxes ≡ true
    → list_all (λ (row : ContainerRow). not (is_blank_text row.name)) (rows_from container_row n boxes) ≡ true
named n [] h = refl
named n (b ∷ boxes) h = let p = and_parts (not (is_blank_text b.name)) (list_all (λ box. not (is_blank_text box.name)) boxes) h in and_from (not (is_blank_text b.name)) _ p.0 (named (suc n) boxes p.1)

count_rows : {R : Type 0} (row : ℕ → BoxKey → R) (n : ℕ) (boxes : List BoxKey)
    → length (rows_from row n boxes) ≡ length boxes
count_rows row n [] = refl
count_rows row n (b ∷ boxes) = ap suc (count_rows row (suc n) boxes)

rows_differ : (n : ℕ) (boxes : List BoxKey) → IsDistinct is_same_box boxes
    → IsDistinct is_same_container (rows_from container_row n boxes)
unfolding IsDistinct
rows_differ n [] d = tt
rows_differ n (b ∷ boxes) d = (others (suc n) boxes d.0, rows_differ (suc n) boxes d.1)
  where
    others : (m : ℕ) (xs : List BoxKey) → AllByRecursion (λ x. is_same_box b x ≡ false) xs
        → AllByRecursion (λ row. is_same_container (container_row n b) row ≡ false) (rows_from container_row m xs)
    others m [] h = tt
    others m (x ∷ xs) h = (h.0, others (suc m) xs h.1)

pub record AreShownContainers (version : Version) (s : State) : Type 0 where
  pub good : are_good_container_rows (tables version s).catalogue.containers ≡ true
  pub numbers : IsDistinct nat_eq (map (λ (row : ContainerRow). row.id) (tables version s).catalogue.containers)
  pub boxes : IsDistinct is_same_container (tables version s).catalogue.containers

pub containers_shown : (version : Version) (s : State) → IsSoundCatalogue s → AreShownContainers version s
containers_shown version s g =
    let rows : List ContainerRow = rows_from container_row 1 s.catalogue.containers in
    let count = count_rows container_row 1 s.catalogue.containers in
    let few = g.containers.few in
    record {
      good = and_from (are_numbered_from (λ (row : ContainerRow). row.id) 1 rows) _ (counted 1 s.catalogue.containers)
          (and_from (list_all (λ (row : ContainerRow). not (is_blank_text row.name)) rows) (nat_le (length rows) most_containers) (named 1 s.catalogue.containers g.containers.named) (le-leb (length rows) most_containers (omega (arith, count, few))));
      numbers = subst (IsDistinct nat_eq) (sym (ids_count 1 s.catalogue.containers)) (numbers_apart 1 (length s.catalogue.containers));
      boxes = rows_differ 1 s.catalogue.containers (all_different s.catalogue.containers g.boxes);
    }

-- ---- what lies in the units

-- the row of a container at a place from n on
record IsBoxRow (boxes : List BoxKey) (u n : ℕ) (bs : List BoxKey) (row : HousingRow) : Type 0 where
  unit : row.unit ≡ u
  behind : n ≤ row.ord
  before : row.ord < n + length bs
  box : BoxKey
  there : In box bs
  container : row.container ≡ box_number boxes box

box_row : (boxes : List BoxKey) (u n : ℕ) (bs : List BoxKey) (row : HousingRow)
    → In row (rows_from (housing_row boxes u) n bs) → IsBoxRow boxes u n bs row
box_row boxes u n [] row i = absurd i
box_row boxes u n (b ∷ bs) row (inl e) =
    let o = ap (λ (r : HousingRow). r.ord) e in
    record { unit = ap (λ (r : HousingRow). r.unit) e; behind = omega (arith, o); before = omega (arith, o); box = b; there = inl refl; container = ap (λ (r : HousingRow). r.container) e }
box_row boxes u n (b ∷ bs) row (inr i) =
    let r = box_row boxes u (suc n) bs row i in
    record { unit = r.unit; behind = omega (arith, r.behind); before = omega (arith, r.before); box = r.box; there = inr r.there; container = r.container }

number_ranged : (boxes : List BoxKey) (b : BoxKey) → list_any (is_same_box b) boxes ≡ true
    → is_between 1 (length boxes) (box_number boxes b) ≡ true
number_ranged boxes b h =
    let r = number_there boxes b h in
    let e : box_number boxes b ≡ suc r.0 = ap (λ n. unwrap_or n 0) r.1 in
    let l = short boxes r.0 b r.2 in
    and_from (nat_le 1 (box_number boxes b)) (nat_le (box_number boxes b) (length boxes)) (le-leb 1 (box_number boxes b) (omega (arith, e))) (le-leb (box_number boxes b) (length boxes) (omega (arith, e, l)))
  where
    short : (xs : List BoxKey) (i : ℕ) (x : BoxKey) → slice_get xs i ≡ Some x → i < length xs
    short [] i x e = absurd (cc)
    short (y ∷ ys) zero x e = omega arith
    short (y ∷ ys) (suc i) x e = let l = short ys i x e in omega (arith, l)

ords_count : (boxes : List BoxKey) (u n : ℕ) (bs : List BoxKey)
    → map (λ (row : HousingRow). row.ord) (rows_from (housing_row boxes u) n bs) ≡ numbers_from n (length bs)
ords_count boxes u n [] = refl
ords_count boxes u n (b ∷ bs) = ap (λ l. n ∷ l) (ords_count boxes u (suc n) bs)

numbers_kept : (boxes : List BoxKey) (u n : ℕ) (bs : List BoxKey)
    → map (λ (row : HousingRow). row.container) (rows_from (housing_row boxes u) n bs) ≡ map (box_number boxes) bs
numbers_kept boxes u n [] = refl
numbers_kept boxes u n (b ∷ bs) = ap (λ l. box_number boxes b ∷ l) (numbers_kept boxes u (suc n) bs)

-- different containers have different numbers
number_each : (boxes bs : List BoxKey) → list_all (λ box. list_any (is_same_box box) boxes) bs ≡ true
    → IsDistinct is_same_box bs → IsDistinct nat_eq (map (box_number boxes) bs)
unfolding IsDistinct
number_each boxes [] h d = tt
number_each boxes (b ∷ bs) h d =
    let p = and_parts (list_any (is_same_box b) boxes) (list_all (λ box. list_any (is_same_box box) boxes) bs) h in
    (others bs (number_back boxes b p.0) p.1 d.0, number_each boxes bs p.1 d.1)
  where
    one : (a c : BoxKey) → Some a ≡ Some c → a ≡ c
    one a c e = cc

    others : (xs : List BoxKey) → nth boxes (box_number boxes b) ≡ Some b
        → list_all (λ box. list_any (is_same_box box) boxes) xs ≡ true
        → AllByRecursion (λ x. is_same_box b x ≡ false) xs
        → AllByRecursion (λ n. nat_eq (box_number boxes b) n ≡ false) (map (box_number boxes) xs)
    others [] e k a = tt
    others (x ∷ xs) e k a =
        let q = and_parts (list_any (is_same_box x) boxes) (list_all (λ box. list_any (is_same_box box) boxes) xs) k in (
          other_number (box_number boxes b) (box_number boxes x) (λ same.
              let z = one b x (sym e ∙ (ap (nth boxes) same ∙ number_back boxes x q.0)) in
              false≢true (sym a.0 ∙ (ap (is_same_box b) (sym z) ∙ box_itself b))),
          others xs e q.1 a.1,
        )

pub record AreShownHousings (version : Version) (s : State) : Type 0 where
  pub good : list_all (is_good_housing (tables version s).catalogue) (tables version s).catalogue.housings ≡ true
  pub places : IsDistinct is_same_place (tables version s).catalogue.housings
  pub once : IsDistinct is_housed_alike (tables version s).catalogue.housings

pub housings_shown : (version : Version) (s : State) → IsSoundCatalogue s
    → unit_numbers (tables version s).catalogue ≡ map unit_number (nodes s.catalogue.forest) → AreShownHousings version s
housings_shown version s g told =
    let t : OfficeRows = tables version s in
    let us = nodes s.catalogue.forest in
    let rows : Unit → List HousingRow =
    λ unit. rows_from (housing_row s.catalogue.containers unit.id) 1 unit.values.boxes in
    record {
      good = in_all (is_good_housing t.catalogue) t.catalogue.housings (λ row i.
          let o = in_flat_map rows us row i in
          let u : Unit = o.unit in
          let k = each_in (IsGoodUnit s.catalogue.containers) us u g.units.each o.there in
          let r = box_row s.catalogue.containers u.id 1 u.values.boxes row o.own in
          let mine : length (housings_of row.unit t.catalogue.housings) ≡ length u.values.boxes =
          ap (λ n. length (housings_of n t.catalogue.housings)) r.unit
          ∙ (ap length (each_in (HasRows t s.catalogue.containers) us u (all_rows version s g.units.ids) o.there).housings ∙ count_rows (housing_row s.catalogue.containers u.id) 1 u.values.boxes) in
          let last = r.before in
          and_from (stands row.unit (unit_numbers t.catalogue)) _ (ap (λ n. stands n (unit_numbers t.catalogue)) r.unit ∙ (ap (stands u.id) told ∙ any_from_In (map unit_number us) u.id (In-map unit_number us u o.there)))
          (and_from (is_between 1 (length t.catalogue.containers) row.container) (is_between 1 (length (housings_of row.unit t.catalogue.housings)) row.ord)
          (ap (λ n. is_between 1 n row.container) (count_rows container_row 1 s.catalogue.containers) ∙ (ap (is_between 1 (length s.catalogue.containers)) r.container ∙ number_ranged s.catalogue.containers r.box (all_in (λ box. list_any (is_same_box box) s.catalogue.containers) u.values.boxes r.box k.known r.there)))
          (and_from (nat_le 1 row.ord) (nat_le row.ord (length (housings_of row.unit t.catalogue.housings))) (le-leb 1 row.ord r.behind) (le-leb row.ord (length (housings_of row.unit t.catalogue.housings)) (omega (arith, mine, last))))));
      places = pairs_apart (λ (row : HousingRow). row.unit) (λ (row : HousingRow). row.ord) rows (λ u. housings_own s.catalogue.containers u.id 1 u.values.boxes) us g.units.ids
          (λ u i. subst (IsDistinct nat_eq) (sym (ords_count s.catalogue.containers u.id 1 u.values.boxes)) (numbers_apart 1 (length u.values.boxes)));
      once = pairs_apart (λ (row : HousingRow). row.unit) (λ (row : HousingRow). row.container) rows (λ u. housings_own s.catalogue.containers u.id 1 u.values.boxes) us g.units.ids
          (λ u i. let k = each_in (IsGoodUnit s.catalogue.containers) us u g.units.each i in
          subst (IsDistinct nat_eq) (sym (numbers_kept s.catalogue.containers u.id 1 u.values.boxes)) (number_each s.catalogue.containers u.values.boxes k.known (all_different u.values.boxes k.apart)));
    }
