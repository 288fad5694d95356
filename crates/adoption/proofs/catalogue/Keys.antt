-- The rows of the catalogue's tables have their keys.
use Rattle.std.proofs.Common.{◌≡◌, ℕ, pos, List, [], ◌∷◌, map, Bool, true, false, not, ◌&&◌, Option, Some, filter_map}
use Rattle.std.proofs.Common.{nat_eq, sym, ap₂, subst, ◌∙◌, arith}
use Rattle.std.proofs.Math.Bool.{and_comm}
use Rattle.std.proofs.lemmas.Map.Keys.{IsDistinct-IsPermutation}
use Rattle.std.specs.List.{IsDistinct}
use Rattle.sqlite_value.specs.Keys.{first_key}
use Rattle.tree_core.specs.declared.rows.Link.{Link}
use Rattle.tree_core.specs.declared.rows.Span.{Span}
use Rattle.office_tables.proofs.Tests.{both, same_number, same_bytes}
use Rattle.office_tables.specs.Schema as tables
use Rattle.row_completeness.proofs.KeptPlaces.{links_rise, spans_rise}
use Rattle.row_completeness.specs.WholePlaces.{AreWholePlaces}
use Rattle.state_encoding.proofs.shown_cells.OtherOrders.{flips}
use Rattle.adoption.proofs.Common.{AllByRecursion, AreGoodTables, ContainerRow, Database, Datatype, ElementRow, First}
use Rattle.adoption.proofs.Common.{HousingRow, IsPermutation-map, IsWholeTable, KeysDiffer, MeetsCatalogueKeys, Null}
use Rattle.adoption.proofs.Common.{Rises, Row, Second, Table, Unique, UnitRow, Version, agree, all_weaker, and_parts}
use Rattle.adoption.proofs.Common.{by, clashes, column, distinct_numbers, distinct_pairs, encoding, eqb_comm, in_order}
use Rattle.adoption.proofs.Common.{in_order-permutation, int_cmp, is_housed_alike, is_named_alike, is_null}
use Rattle.adoption.proofs.Common.{is_same_container, is_same_element, is_same_place, keys_differ, not-true, passes}
use Rattle.adoption.proofs.Common.{place_numbers, places_in, plain, read_container, read_element, read_housing}
use Rattle.adoption.proofs.Common.{read_link, read_pairs, read_span, read_unit, rows_in, rows_rise, schema}
use Rattle.adoption.proofs.Common.{stay_in_order, then_by}
use Rattle.adoption.proofs.catalogue.Rules.{IsKeyed, live, rows_keyed, place_whole, unit_whole, element_whole}
use Rattle.adoption.proofs.catalogue.Rules.{container_whole, housing_whole, unit_keyed, container_keyed}
use Rattle.adoption.proofs.catalogue.Readings.{unit_parts, element_parts, container_parts, housing_parts}

-- ---- what a key is of rows that are read

unit_key : (a b : Row) (x y : UnitRow) → read_unit a ≡ Some x → read_unit b ≡ Some y
    → agree plain (2 ∷ 3 ∷ []) a (2 ∷ 3 ∷ []) b ≡ is_named_alike x y
unfolding first_key
unit_key a b x y is said =
    let p = unit_parts a x is in
    let q = unit_parts b y said in
    rw (p.source, q.source, p.legacy, q.legacy) (both (same_bytes x.source y.source) (same_bytes x.legacy y.legacy))

element_key : (a b : Row) (x y : ElementRow) → read_element a ≡ Some x → read_element b ≡ Some y
    → agree plain (1 ∷ 2 ∷ []) a (1 ∷ 2 ∷ []) b ≡ is_same_element x y
unfolding first_key
element_key a b x y is said =
    let p = element_parts a x is in
    let q = element_parts b y said in
    rw (p.unit, q.unit, p.k, q.k)
    (both (same_number x.unit y.unit ∙ eqb_comm y.unit x.unit) (same_number x.k y.k ∙ eqb_comm y.k x.k))

container_key : (a b : Row) (x y : ContainerRow) → read_container a ≡ Some x → read_container b ≡ Some y
    → agree plain (2 ∷ 3 ∷ 4 ∷ []) a (2 ∷ 3 ∷ 4 ∷ []) b ≡ is_same_container x y
unfolding first_key
container_key a b x y is said =
    let p = container_parts a x is in
    let q = container_parts b y said in
    rw (p.name, q.name, p.location, q.location, p.kind, q.kind)
    (ap₂ ◌&&◌ (same_bytes x.name y.name) (both (same_bytes x.location y.location) (same_bytes x.kind y.kind)))

place_key : (a b : Row) (x y : HousingRow) → read_housing a ≡ Some x → read_housing b ≡ Some y
    → agree plain (1 ∷ 2 ∷ []) a (1 ∷ 2 ∷ []) b ≡ is_same_place x y
unfolding first_key
place_key a b x y is said =
    let p = housing_parts a x is in
    let q = housing_parts b y said in
    rw (p.unit, q.unit, p.ord, q.ord)
    (both (same_number x.unit y.unit ∙ eqb_comm y.unit x.unit) (same_number x.ord y.ord ∙ eqb_comm y.ord x.ord))

once_key : (a b : Row) (x y : HousingRow) → read_housing a ≡ Some x → read_housing b ≡ Some y
    → agree plain (3 ∷ 1 ∷ []) a (3 ∷ 1 ∷ []) b ≡ is_housed_alike x y
unfolding first_key
once_key a b x y is said =
    let p = housing_parts a x is in
    let q = housing_parts b y said in
    rw (p.unit, q.unit, p.container, q.container)
    (both (same_number x.container y.container ∙ eqb_comm y.container x.container)
    (same_number x.unit y.unit ∙ eqb_comm y.unit x.unit)
    ∙ and_comm (nat_eq x.container y.container) (nat_eq x.unit y.unit))

-- no two rows that are read have one key
apart : {X : Type 0} (read : Row → Option X) (alike : X → X → Bool) (places : List ℕ)
    → ((a b : Row) (x y : X) → read a ≡ Some x → read b ≡ Some y → agree plain places a places b ≡ alike x y)
    → (table : Table) (rows : List Row) → IsWholeTable table rows
    → AllByRecursion (λ row. clashes plain places rows row ≡ false) rows → IsDistinct alike (filter_map read rows)
apart read alike places key table rows whole own =
    distinct_pairs alike (filter_map read rows)
    (read_pairs read (KeysDiffer plain places) (λ x y. alike x y ≡ false) (λ a b x y is said h. sym (key a b x y is said) ∙ h) rows (keys_differ plain places rows whole.rise whole.numbers own))

-- ---- the places

pub whole_places : (v : Version) (db : Database) → AreGoodTables v db → AreWholePlaces (db.trees tables.link.tree)
whole_places First db it =
    let keyed = rows_keyed tables.link (λ b row h. (and_parts (is_null b) _ h).0) 4 (omega arith) (db.trees tables.link.tree) (place_whole First db it).cells ((live First db it).obeys.rules Datatype).1.1.1.1.1.1.1.1.1.1.1.1.0 in
    record { rise = (place_whole First db it).rise; cells = (place_whole First db it).cells; keys = all_weaker (IsKeyed 4) (λ row. column row 1 ≡ Null) (λ row h. h.1) (db.trees tables.link.tree) keyed }
whole_places Second db it =
    let keyed = rows_keyed tables.span (λ b row h. (and_parts (is_null b) _ h).0) 4 (omega arith) (db.trees tables.span.tree) (place_whole Second db it).cells ((live Second db it).obeys.rules Datatype).1.1.1.1.1.1.1.1.1.1.1.1.0 in
    record { rise = (place_whole Second db it).rise; cells = (place_whole Second db it).cells; keys = all_weaker (IsKeyed 4) (λ row. column row 1 ≡ Null) (λ row h. h.1) (db.trees tables.span.tree) keyed }

places_distinct : (v : Version) (db : Database) → AreWholePlaces (db.trees tables.link.tree)
    → IsDistinct nat_eq (place_numbers (places_in (encoding v) db.trees))
places_distinct First db whole =
    let links = filter_map read_link (db.trees tables.link.tree) in
    let number : Link → ℕ = λ link. link.id in
    IsDistinct-IsPermutation nat_eq eqb_comm (map number links) (map number (in_order (by number) links)) (IsPermutation-map number links (in_order (by number) links) (in_order-permutation (by number) links))
    (distinct_numbers number links (links_rise (db.trees tables.link.tree) whole))
places_distinct Second db whole =
    let spans = filter_map read_span (db.trees tables.span.tree) in
    let number : Span → ℕ = λ span. span.id in
    let before : Span → Span → Bool = then_by (λ (span : Span). span.lft) number in
    IsDistinct-IsPermutation nat_eq eqb_comm (map number spans) (map number (in_order before spans)) (IsPermutation-map number spans (in_order before spans) (in_order-permutation before spans))
    (distinct_numbers number spans (spans_rise (db.trees tables.span.tree) whole))

-- ---- of all tables

module _ (v : Version) (db : Database) (it : AreGoodTables v db) where
  -- no index that is unique has two entries alike
  unit_own : AllByRecursion (λ row. clashes plain (2 ∷ 3 ∷ []) (db.trees tables.unit.tree) row ≡ false) (db.trees tables.unit.tree)
  unit_own =
      all_weaker (λ row. passes Unique (schema v) db.trees tables.unit row ≡ true) (λ row. clashes plain (2 ∷ 3 ∷ []) (db.trees tables.unit.tree) row ≡ false)
      (λ row h. not-true _ (and_parts (not (clashes plain (2 ∷ 3 ∷ []) (db.trees tables.unit.tree) row)) _ h).0) (db.trees tables.unit.tree) ((live v db it).obeys.rules Unique).1.1.1.1.1.1.1.1.0

  element_own : AllByRecursion (λ row. clashes plain (1 ∷ 2 ∷ []) (db.trees tables.element.tree) row ≡ false) (db.trees tables.element.tree)
  element_own =
      all_weaker (λ row. passes Unique (schema v) db.trees tables.element row ≡ true) (λ row. clashes plain (1 ∷ 2 ∷ []) (db.trees tables.element.tree) row ≡ false)
      (λ row h. not-true _ (and_parts (not (clashes plain (1 ∷ 2 ∷ []) (db.trees tables.element.tree) row)) _ h).0) (db.trees tables.element.tree) ((live v db it).obeys.rules Unique).1.1.1.1.1.1.1.1.1.0

  container_own : AllByRecursion (λ row. clashes plain (2 ∷ 3 ∷ 4 ∷ []) (db.trees tables.container.tree) row ≡ false) (db.trees tables.container.tree)
  container_own =
      all_weaker (λ row. passes Unique (schema v) db.trees tables.container row ≡ true) (λ row. clashes plain (2 ∷ 3 ∷ 4 ∷ []) (db.trees tables.container.tree) row ≡ false)
      (λ row h. not-true _ (and_parts (not (clashes plain (2 ∷ 3 ∷ 4 ∷ []) (db.trees tables.container.tree) row)) _ h).0) (db.trees tables.container.tree) ((live v db it).obeys.rules Unique).1.1.1.1.1.1.1.1.1.1.0

  abbrev OwnPlaces : Row → Type 0
  OwnPlaces row = clashes plain (1 ∷ 2 ∷ []) (db.trees tables.housing.tree) row ≡ false

  abbrev HousedOnce : Row → Type 0
  HousedOnce row = clashes plain (3 ∷ 1 ∷ []) (db.trees tables.housing.tree) row ≡ false

  place_own : AllByRecursion OwnPlaces (db.trees tables.housing.tree)
  place_own =
      all_weaker (λ row. passes Unique (schema v) db.trees tables.housing row ≡ true) OwnPlaces
      (λ row h. not-true _ (and_parts (not (clashes plain (1 ∷ 2 ∷ []) (db.trees tables.housing.tree) row)) _ h).0) (db.trees tables.housing.tree) ((live v db it).obeys.rules Unique).1.1.1.1.1.1.1.1.1.1.1.0

  once_own : AllByRecursion HousedOnce (db.trees tables.housing.tree)
  once_own =
      all_weaker (λ row. passes Unique (schema v) db.trees tables.housing row ≡ true) HousedOnce
      (λ row h. not-true _ (and_parts (not (clashes plain (3 ∷ 1 ∷ []) (db.trees tables.housing.tree) row)) _ (and_parts (not (clashes plain (1 ∷ 2 ∷ []) (db.trees tables.housing.tree) row)) _ h).1).0) (db.trees tables.housing.tree) ((live v db it).obeys.rules Unique).1.1.1.1.1.1.1.1.1.1.1.0

  -- the rows in the order of their numbers

  abbrev units : List UnitRow
  units = filter_map read_unit (db.trees tables.unit.tree)

  pub units_rise : Rises (λ (a b : UnitRow). int_cmp (pos a.id) (pos b.id)) units
  units_rise = rows_rise read_unit (λ (u : UnitRow). pos u.id) (IsKeyed 7) (λ row u h fit. (unit_parts row u h).id) (db.trees tables.unit.tree) (unit_whole v db it).rise (unit_keyed v db it)

  pub units_ordered : in_order (by (λ (u : UnitRow). u.id)) units ≡ units
  units_ordered = stay_in_order (λ (u : UnitRow). u.id) units units_rise

  abbrev containers : List ContainerRow
  containers = filter_map read_container (db.trees tables.container.tree)

  pub containers_rise : Rises (λ (a b : ContainerRow). int_cmp (pos a.id) (pos b.id)) containers
  containers_rise = rows_rise read_container (λ (c : ContainerRow). pos c.id) (IsKeyed 5) (λ row c h fit. (container_parts row c h).id) (db.trees tables.container.tree) (container_whole v db it).rise (container_keyed v db it)

  pub containers_ordered : in_order (by (λ (c : ContainerRow). c.id)) containers ≡ containers
  containers_ordered = stay_in_order (λ (c : ContainerRow). c.id) containers containers_rise

  -- those without a number that is told
  abbrev elements : List ElementRow
  elements = filter_map read_element (db.trees tables.element.tree)

  abbrev by_element : ElementRow → ElementRow → Bool
  by_element = then_by (λ (e : ElementRow). e.unit) (λ (e : ElementRow). e.k)

  abbrev housings : List HousingRow
  housings = filter_map read_housing (db.trees tables.housing.tree)

  abbrev by_place : HousingRow → HousingRow → Bool
  by_place = then_by (λ (l : HousingRow). l.unit) (λ (l : HousingRow). l.ord)

  pub keys_met : MeetsCatalogueKeys (rows_in v db.trees).catalogue
  keys_met = record {
    units = subst (λ (us : List UnitRow). IsDistinct nat_eq (map (λ (u : UnitRow). u.id) us)) (sym units_ordered) (distinct_numbers (λ (u : UnitRow). u.id) units units_rise);
    names = subst (IsDistinct is_named_alike) (sym units_ordered) (apart read_unit is_named_alike (2 ∷ 3 ∷ []) unit_key tables.unit (db.trees tables.unit.tree) (unit_whole v db it) unit_own);
    places = places_distinct v db (whole_places v db it);
    elements = IsDistinct-IsPermutation is_same_element (flips (λ (e : ElementRow). e.unit) (λ (e : ElementRow). e.k)) elements (in_order by_element elements) (in_order-permutation by_element elements)
        (apart read_element is_same_element (1 ∷ 2 ∷ []) element_key tables.element (db.trees tables.element.tree) (element_whole v db it) element_own);
    containers = subst (λ (cs : List ContainerRow). IsDistinct nat_eq (map (λ (c : ContainerRow). c.id) cs)) (sym containers_ordered) (distinct_numbers (λ (c : ContainerRow). c.id) containers containers_rise);
    boxes = subst (IsDistinct is_same_container) (sym containers_ordered) (apart read_container is_same_container (2 ∷ 3 ∷ 4 ∷ []) container_key tables.container (db.trees tables.container.tree) (container_whole v db it) container_own);
    housings = IsDistinct-IsPermutation is_same_place (flips (λ (l : HousingRow). l.unit) (λ (l : HousingRow). l.ord)) housings (in_order by_place housings) (in_order-permutation by_place housings)
        (apart read_housing is_same_place (1 ∷ 2 ∷ []) place_key tables.housing (db.trees tables.housing.tree) (housing_whole v db it) place_own);
    housed_once = IsDistinct-IsPermutation is_housed_alike (flips (λ (l : HousingRow). l.unit) (λ (l : HousingRow). l.container)) housings (in_order by_place housings) (in_order-permutation by_place housings)
        (apart read_housing is_housed_alike (3 ∷ 1 ∷ []) once_key tables.housing (db.trees tables.housing.tree) (housing_whole v db it) once_own);
  }
