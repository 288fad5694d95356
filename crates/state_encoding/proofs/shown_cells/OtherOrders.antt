-- What rows say, and what is told of them, is the same in each other order of them.
use Rattle.std.proofs.Common.{◌≡◌, ℕ, Bool, true, false, cond, not, ◌&&◌, List, [], ◌∷◌, length, Option, Some, None}
use Rattle.std.proofs.Common.{refl, sym, ap, ◌∙◌, subst, inl, inr, nat_eq, map}
use Rattle.std.specs.List.{IsDistinct}
use Rattle.std.specs.Prelude.{filter_map, unwrap_or}
use Rattle.isad_core.specs.Words.{is_between, stands}
use Rattle.isad_core.specs.declared.values.Values.{Values}
use Rattle.state_encoding.proofs.Common.{BoxKey, Bytes, CatalogueRows, ContainerRow, ElementRow, HousingRow, In}
use Rattle.state_encoding.proofs.Common.{In-permutation, IsDistinct-IsPermutation, IsPermutation, IsPermutation-map}
use Rattle.state_encoding.proofs.Common.{IsPermutation-sym, MeetsCatalogueKeys, Unit, UnitRow, after_level}
use Rattle.state_encoding.proofs.Common.{all_stand_in, and_from, and_parts, any_passes, are_good_units, box_at}
use Rattle.state_encoding.proofs.Common.{box_from, boxes_from, boxes_from_rows, each, eq-eqb, eqb-true, eqb_comm}
use Rattle.state_encoding.proofs.Common.{false≢true, filter, find, find_none, find_some, fun_ext, height, housings_of}
use Rattle.state_encoding.proofs.Common.{is_blank_text, is_good_element, is_good_housing, is_good_unit_row}
use Rattle.state_encoding.proofs.Common.{is_housed_alike, is_named_alike, is_same_container, is_same_element}
use Rattle.state_encoding.proofs.Common.{is_same_place, length-filter, length_permutation, list_all, list_any}
use Rattle.state_encoding.proofs.Common.{list_any-IsPermutation, most_deep, most_units, nat_le, numbers_from}
use Rattle.state_encoding.proofs.Common.{option_map, place_numbers, places_said, sum_by-IsPermutation, text_said}
use Rattle.state_encoding.proofs.Common.{unit_from, unit_from_rows, unit_numbers, values_from_rows}
use Rattle.state_encoding.proofs.RowsByNumber.{all_in, in_all, each_in, found_by}
use Rattle.state_encoding.proofs.UnitRows.{found_kept}
use Rattle.state_encoding.proofs.told.ToldCatalogue.{alike_flips}

-- ---- tests

module _ {X : Type 0} (p : X → Bool) (xs ys : List X) (same : IsPermutation xs ys) where
  pub all_too : list_all p xs ≡ true → list_all p ys ≡ true
  all_too h = in_all p ys (λ y i. all_in p xs y h (In-permutation xs ys y same i))

  pub any_too : list_any p ys ≡ list_any p xs
  any_too = sym (list_any-IsPermutation p xs ys same)

  pub as_many : length (filter p ys) ≡ length (filter p xs)
  as_many = length-filter p ys ∙ (sum_by-IsPermutation (λ x. cond (p x) 1 0) xs ys same ∙ sym (length-filter p xs))

  -- where no two pass the test, the same one is found
  pub finds_too : ((a b : X) → In a xs → In b xs → p a ≡ true → p b ≡ true → a ≡ b) → find p ys ≡ find p xs
  finds_too one = at (find p ys) (find p xs) refl refl
    where
      at : (r q : Option X) → find p ys ≡ r → find p xs ≡ q → r ≡ q
      at None None e f = refl
      at None (Some x) e f =
          let k = find_some p xs x f in
          absurd (false≢true (sym (find_none p ys e) ∙ any_passes p ys x (In-permutation ys xs x (IsPermutation-sym xs ys same) k.0) k.1))
      at (Some y) None e f =
          let k = find_some p ys y e in
          absurd (false≢true (sym (find_none p xs f) ∙ any_passes p xs y (In-permutation xs ys y same k.0) k.1))
      at (Some y) (Some x) e f =
          let k = find_some p ys y e in
          let l = find_some p xs x f in
          ap Some (one y x (In-permutation xs ys y same k.0) l.0 k.1 l.1)

-- two rows that are alike are one
one_row : {X : Type 0} (alike : X → X → Bool) → ((a b : X) → alike a b ≡ alike b a) → (xs : List X)
    → IsDistinct alike xs → (a b : X) → In a xs → In b xs → alike a b ≡ true → a ≡ b
unfolding IsDistinct
one_row alike flips [] d a b i j e = absurd i
one_row alike flips (x ∷ xs) d a b (inl i) (inl j) e = i ∙ sym j
one_row alike flips (x ∷ xs) d a b (inl i) (inr j) e =
    absurd (false≢true (sym (each_in (λ y. alike x y ≡ false) xs b d.0 j) ∙ subst (λ y. alike y b ≡ true) i e))
one_row alike flips (x ∷ xs) d a b (inr i) (inl j) e =
    absurd (false≢true (sym (each_in (λ y. alike x y ≡ false) xs a d.0 i) ∙ (flips x a ∙ subst (λ y. alike a y ≡ true) j e)))
one_row alike flips (x ∷ xs) d a b (inr i) (inr j) e = one_row alike flips xs d.1 a b i j e

-- where no two rows have one pair of numbers, the same row is found by them
module _ {X : Type 0} (first second : X → ℕ) where
  abbrev is_pair : X → X → Bool
  is_pair a b = nat_eq (first a) (first b) && nat_eq (second a) (second b)

  pub flips : (a b : X) → is_pair a b ≡ is_pair b a
  flips a b =
      ap (λ p. p && nat_eq (second a) (second b)) (eqb_comm (first a) (first b))
      ∙ ap (λ p. nat_eq (first b) (first a) && p) (eqb_comm (second a) (second b))

  pub pair_too : (xs ys : List X) → IsPermutation xs ys → IsDistinct is_pair xs → (m n : ℕ)
      → find (λ x. nat_eq (first x) m && nat_eq (second x) n) ys ≡ find (λ x. nat_eq (first x) m && nat_eq (second x) n) xs
  pair_too xs ys same d m n =
      finds_too (λ x. nat_eq (first x) m && nat_eq (second x) n) xs ys same (λ a b i j e f.
      let p = and_parts (nat_eq (first a) m) (nat_eq (second a) n) e in
      let q = and_parts (nat_eq (first b) m) (nat_eq (second b) n) f in
      one_row is_pair flips xs d a b i j
      (and_from (nat_eq (first a) (first b)) (nat_eq (second a) (second b))
      (eq-eqb (first a) (first b) (eqb-true (first a) m p.0 ∙ sym (eqb-true (first b) m q.0)))
      (eq-eqb (second a) (second b) (eqb-true (second a) n p.1 ∙ sym (eqb-true (second b) n q.1)))))

pub number_too : {X : Type 0} (key : X → ℕ) (xs ys : List X) → IsPermutation xs ys → IsDistinct nat_eq (map key xs)
    → (n : ℕ) → find (λ x. nat_eq (key x) n) ys ≡ find (λ x. nat_eq (key x) n) xs
number_too {X} key xs ys same d n =
    finds_too (λ x. nat_eq (key x) n) xs ys same (λ a b i j e f. one a b (found_by key xs a d i) (subst (λ m. find (λ x. nat_eq (key x) m) xs ≡ Some b) (eqb-true (key b) n f ∙ sym (eqb-true (key a) n e)) (found_by key xs b d j)))
  where
    one : (a b : X) → find (λ x. nat_eq (key x) (key a)) xs ≡ Some a → find (λ x. nat_eq (key x) (key a)) xs ≡ Some b
        → a ≡ b
    one a b e f = let s : Some a ≡ Some b = sym e ∙ f in cc

stand_too : (others others' ns ns' : List ℕ) → IsPermutation others others' → IsPermutation ns ns'
    → all_stand_in others ns ≡ true → all_stand_in others' ns' ≡ true
stand_too others others' ns ns' same own h =
    in_all (λ n. stands n others') ns' (λ n i. any_too (nat_eq n) others others' same ∙ all_in (λ n. stands n others) ns n h (In-permutation ns ns' n own i))

-- ---- the catalogue's rows, in another order

pub record IsReordered (c d : CatalogueRows) : Type 0 where
  pub units : IsPermutation c.units d.units
  pub numbers : IsPermutation (place_numbers c.places) (place_numbers d.places)
  pub places : places_said d.places ≡ places_said c.places
  pub elements : IsPermutation c.elements d.elements
  pub containers : d.containers ≡ c.containers
  pub housings : IsPermutation c.housings d.housings

module _ (c d : CatalogueRows) (r : IsReordered c d) where
  unit_ids : IsPermutation (unit_numbers c) (unit_numbers d)
  unit_ids = IsPermutation-map (λ (row : UnitRow). row.id) c.units d.units r.units

  pub units_too : (next : ℕ) → are_good_units next c ≡ true → are_good_units next d ≡ true
  units_too next h =
      let rows = and_parts (list_all (is_good_unit_row next) c.units) _ h in
      let placed = and_parts (all_stand_in (place_numbers c.places) (unit_numbers c)) _ rows.1 in
      let told = and_parts (all_stand_in (unit_numbers c) (place_numbers c.places)) _ placed.1 in
      let few = and_parts (nat_le (length c.units) most_units) (nat_le (height (places_said c.places)) most_deep) told.1 in
      and_from (list_all (is_good_unit_row next) d.units) _ (all_too (is_good_unit_row next) c.units d.units r.units rows.0)
      (and_from (all_stand_in (place_numbers d.places) (unit_numbers d)) _ (stand_too (place_numbers c.places) (place_numbers d.places) (unit_numbers c) (unit_numbers d) r.numbers unit_ids placed.0)
      (and_from (all_stand_in (unit_numbers d) (place_numbers d.places)) _ (stand_too (unit_numbers c) (unit_numbers d) (place_numbers c.places) (place_numbers d.places) unit_ids r.numbers told.0)
      (and_from (nat_le (length d.units) most_units) (nat_le (height (places_said d.places)) most_deep)
      (ap (λ n. nat_le n most_units) (length_permutation c.units d.units r.units) ∙ few.0)
      (ap (λ f. nat_le (height f) most_deep) r.places ∙ few.1))))

  known_too : (u : ℕ) → stands u (unit_numbers d) ≡ stands u (unit_numbers c)
  known_too u = any_too (nat_eq u) (unit_numbers c) (unit_numbers d) unit_ids

  pub elements_too : list_all (is_good_element (unit_numbers c)) c.elements ≡ true
      → list_all (is_good_element (unit_numbers d)) d.elements ≡ true
  elements_too h =
      let rows = all_too (is_good_element (unit_numbers c)) c.elements d.elements r.elements h in
      in_all (is_good_element (unit_numbers d)) d.elements (λ row i.
      ap (λ b. is_between 1 26 row.k && (not (nat_eq row.k 4) && (not (is_blank_text row.value) && b))) (known_too row.unit)
      ∙ all_in (is_good_element (unit_numbers c)) d.elements row rows i)

  pub housings_too : list_all (is_good_housing c) c.housings ≡ true → list_all (is_good_housing d) d.housings ≡ true
  housings_too h =
      let rows = all_too (is_good_housing c) c.housings d.housings r.housings h in
      in_all (is_good_housing d) d.housings (λ row i.
      ap (λ b. b && (is_between 1 (length d.containers) row.container && is_between 1 (length (housings_of row.unit d.housings)) row.ord)) (known_too row.unit)
      ∙ (ap (λ l. stands row.unit (unit_numbers c) && (is_between 1 (length l) row.container && is_between 1 (length (housings_of row.unit d.housings)) row.ord)) r.containers
      ∙ (ap (λ n. stands row.unit (unit_numbers c) && (is_between 1 (length c.containers) row.container && is_between 1 n row.ord)) (as_many (λ (other : HousingRow). nat_eq other.unit row.unit) c.housings d.housings r.housings)
      ∙ all_in (is_good_housing c) d.housings row rows i)))

  pub keys_too : MeetsCatalogueKeys c → MeetsCatalogueKeys d
  keys_too k = record {
    units = IsDistinct-IsPermutation nat_eq eqb_comm (unit_numbers c) (unit_numbers d) unit_ids k.units;
    names = IsDistinct-IsPermutation is_named_alike alike_flips c.units d.units r.units k.names;
    places = IsDistinct-IsPermutation nat_eq eqb_comm (place_numbers c.places) (place_numbers d.places) r.numbers k.places;
    elements = IsDistinct-IsPermutation is_same_element (flips (λ (row : ElementRow). row.unit) (λ (row : ElementRow). row.k)) c.elements d.elements r.elements k.elements;
    containers = subst (λ l. IsDistinct nat_eq (map (λ (row : ContainerRow). row.id) l)) (sym r.containers) k.containers;
    boxes = subst (IsDistinct is_same_container) (sym r.containers) k.boxes;
    housings = IsDistinct-IsPermutation is_same_place (flips (λ (row : HousingRow). row.unit) (λ (row : HousingRow). row.ord)) c.housings d.housings r.housings k.housings;
    housed_once = IsDistinct-IsPermutation is_housed_alike (flips (λ (row : HousingRow). row.unit) (λ (row : HousingRow). row.container)) c.housings d.housings r.housings k.housed_once;
  }

  -- ---- what they say

  module _ (ids : IsDistinct nat_eq (unit_numbers c)) (texts : IsDistinct is_same_element c.elements) (lie : IsDistinct is_same_place c.housings) where
    text_too : (u k : ℕ) → text_said d.elements u k ≡ text_said c.elements u k
    text_too u k = ap (option_map (λ (row : ElementRow). row.value)) (pair_too (λ (row : ElementRow). row.unit) (λ (row : ElementRow). row.k) c.elements d.elements r.elements texts u (after_level k))

    box_too : (u m : ℕ)
        → find (λ (row : HousingRow). nat_eq row.ord m) (housings_of u d.housings) ≡ find (λ (row : HousingRow). nat_eq row.ord m) (housings_of u c.housings)
    box_too u m =
        sym (found_kept (λ (row : HousingRow). nat_eq row.unit u) (λ (row : HousingRow). nat_eq row.ord m) d.housings)
        ∙ (pair_too (λ (row : HousingRow). row.unit) (λ (row : HousingRow). row.ord) c.housings d.housings r.housings lie u m
        ∙ found_kept (λ (row : HousingRow). nat_eq row.unit u) (λ (row : HousingRow). nat_eq row.ord m) c.housings)

    boxes_too : (u : ℕ)
        → boxes_from_rows (map box_from d.containers) d.housings u ≡ boxes_from_rows (map box_from c.containers) c.housings u
    boxes_too u =
        let boxes : List BoxKey = map box_from c.containers in
        ap (λ l. boxes_from_rows (map box_from l) d.housings u) r.containers
        ∙ (ap (λ n. boxes_from boxes (housings_of u d.housings) 1 n) (as_many (λ (row : HousingRow). nat_eq row.unit u) c.housings d.housings r.housings)
        ∙ ap (λ f. filter_map (λ m. box_at boxes (f m)) (numbers_from 1 (length (housings_of u c.housings)))) (fun_ext (box_too u)))

    values_too : (u : ℕ) (level : Bytes) → values_from_rows d u level ≡ values_from_rows c u level
    values_too u level =
        ap (λ f. record { level = level; texts = map f (numbers_from 1 25); boxes = boxes_from_rows (map box_from d.containers) d.housings u }) (fun_ext (text_too u))
        ∙ ap (λ l. record { level = level; texts = map (text_said c.elements u) (numbers_from 1 25); boxes = l }) (boxes_too u)

    from_too : (row : UnitRow) → unit_from d row ≡ unit_from c row
    from_too row = ap (λ v. record { id = row.id; source = row.source; legacy = row.legacy; values = v; draft = row.draft; until = row.until }) (values_too row.id row.level)

    unit_too : (u : ℕ) → unit_from_rows d u ≡ unit_from_rows c u
    unit_too u =
        let none : Values → Unit =
        λ v. record { id = u; source = []; legacy = []; values = v; draft = false; until = None } in
        ap (λ o. unwrap_or (option_map (unit_from d) o) (none (values_from_rows d u []))) (number_too (λ (row : UnitRow). row.id) c.units d.units r.units ids u)
        ∙ (ap (λ f. unwrap_or (option_map f (find (λ (row : UnitRow). nat_eq row.id u) c.units)) (none (values_from_rows d u []))) (fun_ext from_too)
        ∙ ap (λ v. unwrap_or (option_map (unit_from c) (find (λ (row : UnitRow). nat_eq row.id u) c.units)) (none v)) (values_too u []))

    pub forest_too : each (unit_from_rows d) (places_said d.places) ≡ each (unit_from_rows c) (places_said c.places)
    forest_too = ap (λ f. each f (places_said d.places)) (fun_ext unit_too) ∙ ap (each (unit_from_rows c)) r.places
