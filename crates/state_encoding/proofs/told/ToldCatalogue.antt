-- Rows of the catalogue's tables with their keys and without a cause say a sound catalogue, and are its rows.
use Rattle.std.proofs.Common.{◌≡◌, ℕ, ◌+◌, ◌<◌, ◌≤◌, true, false, not, List, [], ◌∷◌, length, Option, Some, None, refl}
use Rattle.std.proofs.Common.{sym, ap, ◌∙◌, subst, nat_eq, inl, inr, arith, map}
use Rattle.std.proofs.lemmas.Slice.Eq.{bytes_eq-Decides}
use Rattle.std.specs.List.{IsDistinct}
use Rattle.std.specs.Prelude.{ℤ, nat_lt}
use Rattle.catalogue_core.proofs.Heights.{height-each}
use Rattle.catalogue_core.proofs.NodeLemmas.{length-nodes}
use Rattle.catalogue_core.specs.Sources.{is_between}
use Rattle.office_core.specs.Words.{stands}
use Rattle.state_encoding.proofs.Common.{AllByRecursion, AreGoodSettings, AreGoodUnits, ArePlacesOf, BoxKey}
use Rattle.state_encoding.proofs.Common.{ContainerRow, ElementRow, Empty, Forest, HousingRow, In, In-map, IsCatalogueOf}
use Rattle.state_encoding.proofs.Common.{IsDayNumber, IsDistinct-IsPermutation, IsGoodUnit, IsPermutation}
use Rattle.state_encoding.proofs.Common.{IsPermutation-refl, IsPermutation-sym, IsSomeDay, IsSoundCatalogue}
use Rattle.state_encoding.proofs.Common.{MeetsCatalogueKeys, Node, OfficeRow, OfficeRows, SaysTheCatalogue, Unit}
use Rattle.state_encoding.proofs.Common.{UnitRow, Version, all_stand_in, and_parts, are_good_container_rows}
use Rattle.state_encoding.proofs.Common.{are_good_places, are_good_units, are_numbered_from, box_from, boxes_from_rows}
use Rattle.state_encoding.proofs.Common.{catalogue_cause, containers_are_bad, distinct, each, elements_are_bad}
use Rattle.state_encoding.proofs.Common.{encoding, eqb-true, height, housings_of, is_blank_text, is_country}
use Rattle.state_encoding.proofs.Common.{is_day_number, is_day_number-so, is_good_element, is_good_housing}
use Rattle.state_encoding.proofs.Common.{is_good_office, is_good_unit_row, is_named_alike, is_repository, is_same_box}
use Rattle.state_encoding.proofs.Common.{is_same_unit, is_some_day, is_source, is_unit_number, leb-true, length-map}
use Rattle.state_encoding.proofs.Common.{length_permutation, list_all, list_all-map, ltb-true, most_bytes}
use Rattle.state_encoding.proofs.Common.{most_containers, most_daily, most_deep, most_hands, most_run_size, most_seats}
use Rattle.state_encoding.proofs.Common.{most_unit_numbers, most_units, nat_le, nodes, nodes-each, not-false, not-true}
use Rattle.state_encoding.proofs.Common.{numbers_from, office_is_bad, place_numbers, place_rows, places_are_bad}
use Rattle.state_encoding.proofs.Common.{places_said, size, state_of, text_said, unit_from, unit_from_rows, unit_number}
use Rattle.state_encoding.proofs.Common.{unit_numbers, unit_row, units_are_bad, version_number}
use Rattle.state_encoding.proofs.Judging.{none_held}
use Rattle.state_encoding.proofs.RowsByNumber.{in_map, all_in, stands_in}
use Rattle.state_encoding.proofs.told.ToldPlaces.{ArePlaced, good_places, numbers_given}
use Rattle.state_encoding.proofs.told.ToldUnits.{AreUnitsOf, each_said, units_are_said, said_id}
use Rattle.state_encoding.proofs.told.ToldElements.{IsGoodElement, good_element, elements_are_said, texts_are_good}
use Rattle.state_encoding.proofs.told.ToldContainers.{containers_are_said, boxes_apart, stay_distinct}
use Rattle.state_encoding.proofs.told.ToldHousings.{IsGoodHousing, said_apart, said_known, housings_are_said}

-- ---- no test holds

pub record HasNoCause (version : Version) (t : OfficeRows) : Type 0 where
  pub office : is_good_office version t.office ≡ true
  pub places : are_good_places (encoding version) t.catalogue.places ≡ true
  pub units : are_good_units t.office.next_unit t.catalogue ≡ true
  pub elements : list_all (is_good_element (unit_numbers t.catalogue)) t.catalogue.elements ≡ true
  pub containers : are_good_container_rows t.catalogue.containers ≡ true
  pub housings : list_all (is_good_housing t.catalogue) t.catalogue.housings ≡ true

pub no_cause : (version : Version) (t : OfficeRows) → catalogue_cause version t ≡ None → HasNoCause version t
no_cause version t h =
    let a = none_held (office_is_bad version t) (places_are_bad (encoding version) t.catalogue ∷ units_are_bad t.office.next_unit t.catalogue ∷ elements_are_bad t.catalogue ∷ containers_are_bad t.catalogue ∷ []) h in
    let b = none_held (places_are_bad (encoding version) t.catalogue) (units_are_bad t.office.next_unit t.catalogue ∷ elements_are_bad t.catalogue ∷ containers_are_bad t.catalogue ∷ []) a.1 in
    let c = none_held (units_are_bad t.office.next_unit t.catalogue) (elements_are_bad t.catalogue ∷ containers_are_bad t.catalogue ∷ []) b.1 in
    let d = none_held (elements_are_bad t.catalogue) (containers_are_bad t.catalogue ∷ []) c.1 in
    let e = none_held (containers_are_bad t.catalogue) [] d.1 in
    let f = and_parts (are_good_container_rows t.catalogue.containers) (list_all (is_good_housing t.catalogue) t.catalogue.housings) (not-false _ e.0) in
    record {
      office = not-false (is_good_office version t.office) a.0;
      places = not-false (are_good_places (encoding version) t.catalogue.places) b.0;
      units = not-false (are_good_units t.office.next_unit t.catalogue) c.0;
      elements = not-false (list_all (is_good_element (unit_numbers t.catalogue)) t.catalogue.elements) d.0;
      containers = f.0;
      housings = f.1;
    }

-- ---- the office

within : (low high n : ℕ) → is_between low high n ≡ true → (low ≤ n) × (n ≤ high)
within low high n h = let p = and_parts (nat_le low n) (nat_le n high) h in (leb-true low n p.0, leb-true n high p.1)

pub record IsGoodOffice (version : Version) (row : OfficeRow) : Type 0 where
  pub of_version : version_number version ≡ row.version
  pub settings : AreGoodSettings (record { country = row.country; repo = row.repo; seats = row.seats; daily = row.daily; hands = row.hands; run_size = row.run_size })
  pub day : IsDayNumber row.day
  pub next : (1 ≤ row.next_unit) × (row.next_unit ≤ most_unit_numbers + 1)

good_office : (version : Version) (row : OfficeRow) → is_good_office version row ≡ true → IsGoodOffice version row
good_office version row h =
    let a = and_parts (nat_eq row.version (version_number version)) _ h in
    let b = and_parts (is_country row.country) _ a.1 in
    let c = and_parts (is_repository row.repo) _ b.1 in
    let d = and_parts (is_between 1 most_seats row.seats) _ c.1 in
    let e = and_parts (is_between 1 most_daily row.daily) _ d.1 in
    let f = and_parts (is_between 1 most_hands row.hands) _ e.1 in
    let g = and_parts (is_between 1 most_run_size row.run_size) _ f.1 in
    let i = and_parts (is_day_number row.day) (is_between 1 (most_unit_numbers + 1) row.next_unit) g.1 in
    record {
      of_version = sym (eqb-true row.version (version_number version) a.0);
      settings = record { country = b.0; repo = c.0; seats = d.0; daily = e.0; hands = f.0; run_size = g.0 };
      day = is_day_number-so row.day i.0;
      next = within 1 (most_unit_numbers + 1) row.next_unit i.1;
    }

-- ---- the units

some_day : (until : Option ℤ) → is_some_day until ≡ true → IsSomeDay until
some_day None h = tt
some_day (Some day) h = is_day_number-so day h

-- what a good row of a unit is
record IsGoodRow (next : ℕ) (row : UnitRow) : Type 0 where
  given : (1 ≤ row.id) × (row.id < next)
  source : is_source row.source ≡ true
  legacy : is_blank_text row.legacy ≡ false
  legacy_short : length row.legacy ≤ most_bytes
  level_short : length row.level ≤ most_bytes
  until : IsSomeDay row.until

good_row : (next : ℕ) (row : UnitRow) → is_unit_number row.id ≡ true → is_good_unit_row next row ≡ true
    → IsGoodRow next row
good_row next row n h =
    let b = and_parts (nat_lt row.id next) _ h in
    let c = and_parts (is_source row.source) _ b.1 in
    let d = and_parts (not (is_blank_text row.legacy)) _ c.1 in
    let e = and_parts (nat_le (length row.legacy) most_bytes) _ d.1 in
    let f = and_parts (nat_le (length row.level) most_bytes) (is_some_day row.until) e.1 in
    record {
      given = ((within 1 most_unit_numbers row.id n).0, ltb-true row.id next b.0);
      source = c.0;
      legacy = not-true (is_blank_text row.legacy) d.0;
      legacy_short = leb-true (length row.legacy) most_bytes e.0;
      level_short = leb-true (length row.level) most_bytes f.0;
      until = some_day row.until f.1;
    }

record AreGoodRows (t : OfficeRows) : Type 0 where
  each : (row : UnitRow) → In row t.catalogue.units → IsGoodRow t.office.next_unit row
  placed : all_stand_in (place_numbers t.catalogue.places) (unit_numbers t.catalogue) ≡ true
  told : all_stand_in (unit_numbers t.catalogue) (place_numbers t.catalogue.places) ≡ true
  few : length t.catalogue.units ≤ most_units
  depth : height (state_of t).catalogue.forest ≤ most_deep

good_rows : (version : Version) (t : OfficeRows) → are_good_places (encoding version) t.catalogue.places ≡ true
    → are_good_units t.office.next_unit t.catalogue ≡ true → AreGoodRows t
good_rows version t p h =
    let a = and_parts (list_all (is_good_unit_row t.office.next_unit) t.catalogue.units) _ h in
    let b = and_parts (all_stand_in (place_numbers t.catalogue.places) (unit_numbers t.catalogue)) _ a.1 in
    let c = and_parts (all_stand_in (unit_numbers t.catalogue) (place_numbers t.catalogue.places)) _ b.1 in
    let d = and_parts (nat_le (length t.catalogue.units) most_units) (nat_le (height (places_said t.catalogue.places)) most_deep) c.1 in
    let number : (row : UnitRow) → In row t.catalogue.units → is_unit_number row.id ≡ true = λ row i.
    numbers_given (encoding version) t.catalogue.places row.id p (stands_in row.id (place_numbers t.catalogue.places) (all_in (λ n. stands n (place_numbers t.catalogue.places)) (unit_numbers t.catalogue) row.id b.0 (In-map (λ (row : UnitRow). row.id) t.catalogue.units row i))) in
    record {
      each = λ row i. good_row t.office.next_unit row (number row i) (all_in (is_good_unit_row t.office.next_unit) t.catalogue.units row a.0 i);
      placed = b.0;
      told = c.0;
      few = leb-true (length t.catalogue.units) most_units d.0;
      depth = subst (λ n. n ≤ most_deep) (sym (height-each (unit_from_rows t.catalogue) (places_said t.catalogue.places))) (leb-true (height (places_said t.catalogue.places)) most_deep d.1);
    }

units_of : (version : Version) (t : OfficeRows)
    → ArePlaced (encoding version) t.catalogue.places (places_said t.catalogue.places) → AreGoodRows t
    → AreUnitsOf t (places_said t.catalogue.places)
units_of version t p g =
    record {
      apart = p.apart;
      told = λ u i. in_map (λ (row : UnitRow). row.id) t.catalogue.units u (stands_in u (unit_numbers t.catalogue) (all_in (λ n. stands n (unit_numbers t.catalogue)) (place_numbers t.catalogue.places) u g.told (p.numbered u i)));
      placed = λ row i. p.placed row.id (stands_in row.id (place_numbers t.catalogue.places) (all_in (λ n. stands n (place_numbers t.catalogue.places)) (unit_numbers t.catalogue) row.id g.placed (In-map (λ (row : UnitRow). row.id) t.catalogue.units row i)));
    }

-- no two units have one number in one source
names_apart : (us : List Unit) → IsDistinct is_named_alike (map unit_row us) → IsDistinct is_same_unit us
unfolding IsDistinct
names_apart [] d = tt
names_apart (u ∷ us) d = (others us d.0, names_apart us d.1)
  where
    flips : (v : Unit) → is_same_unit u v ≡ is_named_alike (unit_row u) (unit_row v)
    flips v = grind (arith, bytes_eq-Decides v.source u.source, bytes_eq-Decides u.source v.source, bytes_eq-Decides v.legacy u.legacy, bytes_eq-Decides u.legacy v.legacy)

    others : (vs : List Unit) → AllByRecursion (λ row. is_named_alike (unit_row u) row ≡ false) (map unit_row vs)
        → AllByRecursion (λ v. is_same_unit u v ≡ false) vs
    others [] h = tt
    others (v ∷ vs) h = (flips v ∙ h.0, others vs h.1)

pub alike_flips : (a b : UnitRow) → is_named_alike a b ≡ is_named_alike b a
alike_flips a b = grind (arith, bytes_eq-Decides a.source b.source, bytes_eq-Decides b.source a.source, bytes_eq-Decides a.legacy b.legacy, bytes_eq-Decides b.legacy a.legacy)

good_unit : (t : OfficeRows) (row : UnitRow) → IsGoodRow t.office.next_unit row
    → ((e : ElementRow) → In e t.catalogue.elements → is_blank_text e.value ≡ false)
    → distinct (boxes_from_rows (map box_from t.catalogue.containers) t.catalogue.housings row.id) ≡ boxes_from_rows (map box_from t.catalogue.containers) t.catalogue.housings row.id
    → IsGoodUnit (map box_from t.catalogue.containers) (unit_from t.catalogue row)
good_unit t row g e d =
    record {
      source = g.source;
      legacy = g.legacy;
      legacy_short = g.legacy_short;
      level_short = g.level_short;
      texts = texts_are_good t row.id (numbers_from 1 25) e;
      texts_count = length-map (numbers_from 1 25) (text_said t.catalogue.elements row.id);
      known = said_known (map box_from t.catalogue.containers) (housings_of row.id t.catalogue.housings) 1 (length (housings_of row.id t.catalogue.housings));
      apart = d;
    }

all_mapped : (P : Unit → Type 0) (g : ℕ → Unit) (us : List ℕ) → ((u : ℕ) → In u us → P (g u))
    → AllByRecursion P (map g us)
all_mapped P g [] h = tt
all_mapped P g (u ∷ us) h = (h u (inl refl), all_mapped P g us (λ v i. h v (inr i)))

ids_said : (t : OfficeRows) (us : List ℕ) → map (λ (unit : Unit). unit.id) (map (unit_from_rows t.catalogue) us) ≡ us
ids_said t [] = refl
ids_said t (u ∷ us) =
    ap (λ v. v ∷ map (λ (unit : Unit). unit.id) (map (unit_from_rows t.catalogue) us)) (said_id t u)
    ∙ ap (λ l. u ∷ l) (ids_said t us)

-- ---- the containers

good_housing : (t : OfficeRows) (units : List ℕ) → ((u : ℕ) → In u (unit_numbers t.catalogue) → In u units)
    → (row : HousingRow) → is_good_housing t.catalogue row ≡ true
    → IsGoodHousing (map box_from t.catalogue.containers) units t.catalogue.housings row
good_housing t units f row h =
    let a = and_parts (stands row.unit (unit_numbers t.catalogue)) _ h in
    let b = and_parts (is_between 1 (length t.catalogue.containers) row.container) (is_between 1 (length (housings_of row.unit t.catalogue.housings)) row.ord) a.1 in
    let n : length (map box_from t.catalogue.containers) ≡ length t.catalogue.containers =
    length-map t.catalogue.containers box_from in
    let c = within 1 (length t.catalogue.containers) row.container b.0 in
    record {
      unit = f row.unit (stands_in row.unit (unit_numbers t.catalogue) a.0);
      container = (c.0, (omega (arith, c.1, n)));
      ord = within 1 (length (housings_of row.unit t.catalogue.housings)) row.ord b.1;
    }

names_there : (rows : List ContainerRow) → list_all (λ (row : ContainerRow). not (is_blank_text row.name)) rows ≡ true
    → list_all (λ (box : BoxKey). not (is_blank_text box.name)) (map box_from rows) ≡ true
names_there rows h = list_all-map (λ (box : BoxKey). not (is_blank_text box.name)) box_from rows ∙ h

-- ---- all of it

module _ (version : Version) (t : OfficeRows) (k : MeetsCatalogueKeys t.catalogue) (n : HasNoCause version t) where
  boxes : List BoxKey
  boxes = map box_from t.catalogue.containers

  placed : ArePlaced (encoding version) t.catalogue.places (places_said t.catalogue.places)
  placed = good_places (encoding version) t.catalogue.places n.places

  rows : AreGoodRows t
  rows = good_rows version t n.places n.units

  units : AreUnitsOf t (places_said t.catalogue.places)
  units = units_of version t placed rows

  reordered : IsPermutation (map unit_row (nodes (state_of t).catalogue.forest)) t.catalogue.units
  reordered = units_are_said t (places_said t.catalogue.places) k.units units

  boxes_differ : IsDistinct is_same_box (map box_from t.catalogue.containers)
  boxes_differ = boxes_apart t.catalogue.containers k.boxes

  there : (u : ℕ) → In u (unit_numbers t.catalogue) → In u (nodes (places_said t.catalogue.places))
  there u i = let r = in_map (λ (row : UnitRow). row.id) t.catalogue.units u i in subst (λ v. In v (nodes (places_said t.catalogue.places))) r.is (units.placed r.it r.there)

  element : (row : ElementRow) → In row t.catalogue.elements → IsGoodElement (unit_numbers t.catalogue) row
  element row i = good_element (unit_numbers t.catalogue) row (all_in (is_good_element (unit_numbers t.catalogue)) t.catalogue.elements row n.elements i)

  housing : (row : HousingRow) → In row t.catalogue.housings
      → IsGoodHousing (map box_from t.catalogue.containers) (nodes (places_said t.catalogue.places)) t.catalogue.housings row
  housing row i = good_housing t (nodes (places_said t.catalogue.places)) there row (all_in (is_good_housing t.catalogue) t.catalogue.housings row n.housings i)

  office : IsGoodOffice version t.office
  office = good_office version t.office n.office

  -- what is so of each unit of a row is so of each unit
  of_units : (P : Unit → Type 0) → ((row : UnitRow) → In row t.catalogue.units → P (unit_from t.catalogue row))
      → AllByRecursion P (nodes (state_of t).catalogue.forest)
  of_units P h = subst (AllByRecursion P) (sym (nodes-each (unit_from_rows t.catalogue) (places_said t.catalogue.places))) (all_mapped P (unit_from_rows t.catalogue) (nodes (places_said t.catalogue.places)) (each_said t (places_said t.catalogue.places) P k.units units h))

  sound_units : AreGoodUnits (state_of t).catalogue
  sound_units =
      let f = (state_of t).catalogue.forest in
      let count : length (map unit_row (nodes f)) ≡ length (nodes f) = length-map (nodes f) unit_row in
      let all : length t.catalogue.units ≡ length (map unit_row (nodes f)) =
      length_permutation (map unit_row (nodes f)) t.catalogue.units reordered in
      let sized : length (nodes f) ≡ size f = length-nodes f in
      record {
        each = of_units (IsGoodUnit (map box_from t.catalogue.containers)) (λ row i. good_unit t row (rows.each row i) (λ e j. (element e j).filled)
            (said_apart (map box_from t.catalogue.containers) t.catalogue.housings (nodes (places_said t.catalogue.places)) boxes_differ k.housings housing k.housed_once row.id));
        ids = subst (IsDistinct nat_eq) (sym (ap (map (λ (unit : Unit). unit.id)) (nodes-each (unit_from_rows t.catalogue) (places_said t.catalogue.places)) ∙ ids_said t (nodes (places_said t.catalogue.places)))) placed.apart;
        pairs = names_apart (nodes f) (IsDistinct-IsPermutation is_named_alike alike_flips t.catalogue.units (map unit_row (nodes f)) (IsPermutation-sym (map unit_row (nodes f)) t.catalogue.units reordered) k.names);
        given = of_units (λ (unit : Unit). (1 ≤ unit.id) × (unit.id < t.office.next_unit)) (λ row i. (rows.each row i).given);
        next = office.next;
        few = (let l = rows.few in omega (arith, l, count, all, sized));
        depth = rows.depth;
      }

  sound : IsSoundCatalogue (state_of t)
  sound =
      let c = and_parts (are_numbered_from (λ (row : ContainerRow). row.id) 1 t.catalogue.containers) _ n.containers in
      let d = and_parts (list_all (λ (row : ContainerRow). not (is_blank_text row.name)) t.catalogue.containers) (nat_le (length t.catalogue.containers) most_containers) c.1 in
      let l = leb-true (length t.catalogue.containers) most_containers d.1 in
      let same : length (map box_from t.catalogue.containers) ≡ length t.catalogue.containers =
      length-map t.catalogue.containers box_from in
      record {
        settings = office.settings;
        today = office.day;
        closures = of_units (λ (unit : Unit). IsSomeDay unit.until) (λ row i. (rows.each row i).until);
        units = sound_units;
        containers = record { named = names_there t.catalogue.containers d.0; few = omega (arith, l, same) };
        boxes = stay_distinct (map box_from t.catalogue.containers) boxes_differ;
      }

  shown : IsCatalogueOf version t (state_of t)
  shown =
      let f = places_said t.catalogue.places in
      let c = and_parts (are_numbered_from (λ (row : ContainerRow). row.id) 1 t.catalogue.containers) _ n.containers in
      record {
        office = ap (λ v. record t.office { version = v }) office.of_version;
        units = reordered;
        places = subst (λ g. ArePlacesOf (place_rows (encoding version) g) t.catalogue.places) (sym (numbers_back f)) placed.rows;
        elements = elements_are_said t f placed.apart k.elements (λ row i. let e = element row i in (e.number, there row.unit (stands_in row.unit (unit_numbers t.catalogue) e.unit)));
        containers = subst (λ l. IsPermutation l t.catalogue.containers) (sym (containers_are_said 1 t.catalogue.containers c.0)) (IsPermutation-refl t.catalogue.containers);
        housings = housings_are_said t f placed.apart boxes_differ k.housings housing;
      }
    where
      numbers_back : (g : Forest ℕ) → each unit_number (each (unit_from_rows t.catalogue) g) ≡ g
      numbers_back Empty = refl
      numbers_back (Node u c o) =
          ap (λ v. Node v (each unit_number (each (unit_from_rows t.catalogue) c)) (each unit_number (each (unit_from_rows t.catalogue) o))) (said_id t u)
          ∙ (ap (λ x. Node u x (each unit_number (each (unit_from_rows t.catalogue) o))) (numbers_back c) ∙ ap (λ x. Node u c x) (numbers_back o))

pub catalogue_is_said : (version : Version) (t : OfficeRows) → SaysTheCatalogue version t
catalogue_is_said version t k h = let n = no_cause version t h in (sound version t k n, shown version t k n)
