-- The tables show the catalogue that their rows say.
use Rattle.std.proofs.Common.{◌≡◌, ℕ, List, [], ◌∷◌, map, filter, Bool, true, false, not, filter_map, nat_eq, refl, sym}
use Rattle.std.proofs.Common.{ap, ap₂, subst, ◌∙◌}
use Rattle.std.specs.List.{IsDistinct}
use Rattle.office_tables.specs.RowCells.{element_cells as element_row_cells, housing_cells as housing_row_cells}
use Rattle.office_tables.specs.Schema as tables
use Rattle.row_completeness.specs.WholePlaces.{RepresentsWhatItDescribes, places_are_defective}
use Rattle.office_core.specs.State.{State}
use Rattle.state_encoding.proofs.told.ToldCatalogue.{HasNoCause, no_cause, catalogue_is_said}
use Rattle.state_encoding.proofs.told.ToldUnits.{said_id}
use Rattle.state_encoding.specs.DeskEncoding.{rows_from}
use Rattle.state_encoding.specs.RowSoundness.{IsCatalogueOf, IsSoundCatalogue}
use Rattle.refinement.specs.Representation.{office_of}
use Rattle.adoption.proofs.Common.{AllByRecursion, AreGoodTables, ContainerRow, Database, ElementRow, Empty, First}
use Rattle.adoption.proofs.Common.{Forest, HousingRow, IsPermutation, IsPermutation-map, IsPermutation-sym}
use Rattle.adoption.proofs.Common.{IsPermutation-trans, Node, OfficeRows, RepresentsCatalogue, RepresentsContainers}
use Rattle.adoption.proofs.Common.{RepresentsElements, RepresentsHousings, RepresentsItsCatalogue, RepresentsOffice}
use Rattle.adoption.proofs.Common.{RepresentsUnits, Second, Trees, Unit, Version, all_weaker, and_parts}
use Rattle.adoption.proofs.Common.{are_good_places, are_numbered_from, container_cells, each, element_rows_from}
use Rattle.adoption.proofs.Common.{elements_of, encoding, eqb-true, flat_map, has_numbered, has_unread, housing_places}
use Rattle.adoption.proofs.Common.{housing_row, in_order, in_order-permutation, nodes, numbered_containers}
use Rattle.adoption.proofs.Common.{numbered_texts, office_cells, or_from, or_parts, places_said, read_container}
use Rattle.adoption.proofs.Common.{read_element, read_housing, read_unit, rows_in, rows_kept, state_of, then_by}
use Rattle.adoption.proofs.Common.{unit_cells, unit_from_rows, unit_row, unread, version_number}
use Rattle.adoption.proofs.tables.Causeless.{ArePassed, are_passed}
use Rattle.adoption.proofs.catalogue.Rules.{IsKeyed, IsNumbered, office_whole, office_keyed, unit_keyed}
use Rattle.adoption.proofs.catalogue.Rules.{container_keyed, element_whole, element_numbered, housing_whole}
use Rattle.adoption.proofs.catalogue.Rules.{housing_numbered}
use Rattle.adoption.proofs.catalogue.Readings.{is_unit, is_element, is_container, is_housing}
use Rattle.adoption.proofs.catalogue.Keys.{keys_met, whole_places, units_rise, units_ordered, containers_ordered}
use Rattle.adoption.proofs.catalogue.Offices.{office_stored}
use Rattle.adoption.proofs.catalogue.Owned.{each_has, all_owned}
use Rattle.adoption.proofs.catalogue.Told.{element_cell, element_units, elements_told, housing_cell, housing_units}
use Rattle.adoption.proofs.catalogue.Told.{housings_told, containers_told}
use Rattle.adoption.proofs.catalogue.Units.{units_stored}

no_defect : (v : Version) (db : Trees) → AllByRecursion (λ (b : Bool). b ≡ false) (unread v db)
    → are_good_places (encoding v) (rows_in v db).catalogue.places ≡ true → places_are_defective (encoding v) db ≡ false
no_defect First db read good = or_from _ _ read.1.0 (ap not good)
no_defect Second db read good = or_from _ _ read.1.0 (ap not good)

-- the numbers of the units that are said
numbers_back : (t : OfficeRows) (f : Forest ℕ) → each (λ (u : Unit). u.id) (each (unit_from_rows t.catalogue) f) ≡ f
numbers_back t Empty = refl
numbers_back t (Node u children others) =
    ap (λ n. Node n (each (λ (u : Unit). u.id) (each (unit_from_rows t.catalogue) children)) (each (λ (u : Unit). u.id) (each (unit_from_rows t.catalogue) others))) (said_id t u)
    ∙ ap₂ (Node u) (numbers_back t children) (numbers_back t others)

module _ (v : Version) (db : Database) (it : AreGoodTables v db) where
  abbrev t : OfficeRows
  t = rows_in v db.trees

  abbrev s : State
  s = state_of (rows_in v db.trees)

  -- ---- what is known of the rows

  passed : ArePassed v db.trees
  passed = are_passed v db.trees it.catalogue it.desk

  good : HasNoCause v t
  good = no_cause v t passed.catalogue

  is_said : IsSoundCatalogue s × IsCatalogueOf v t s
  is_said = catalogue_is_said v t (keys_met v db it) passed.catalogue

  read : AllByRecursion (λ (b : Bool). b ≡ false) (unread v db.trees)
  read = passed.read

  apart : IsDistinct nat_eq (map (λ (unit : Unit). unit.id) (nodes s.catalogue.forest))
  apart = is_said.0.units.ids

  -- ---- the office

  of_version : version_number v ≡ t.office.version
  of_version = sym (eqb-true t.office.version (version_number v) (and_parts (nat_eq t.office.version (version_number v)) _ good.office).0)

  office : RepresentsOffice v db.trees (office_of s)
  office =
      office_stored v (db.trees tables.office.tree) (office_whole v db it).rise (office_keyed v db it) read.0 of_version
      ∙ ap (λ o. office_cells o ∷ []) (sym is_said.1.office)

  -- ---- the units

  units : RepresentsUnits db.trees s.catalogue.forest
  units =
      units_stored t.catalogue db.trees (places_said t.catalogue.places) (filter_map read_unit (db.trees tables.unit.tree))
      (rows_kept read_unit unit_cells (IsKeyed 7) is_unit (db.trees tables.unit.tree) read.1.1.0 (unit_keyed v db it)) (units_rise v db it)
      (subst (IsPermutation (map unit_row (nodes s.catalogue.forest))) (units_ordered v db it) is_said.1.units)

  -- ---- the elements

  abbrev element_list : List ElementRow
  element_list = filter_map read_element (db.trees tables.element.tree)

  abbrev texts_of : Unit → List ElementRow
  texts_of unit = element_rows_from unit.id 1 unit.values.texts

  all_texts : IsPermutation (flat_map texts_of (nodes s.catalogue.forest)) element_list
  all_texts =
      let before : ElementRow → ElementRow → Bool = then_by (λ (e : ElementRow). e.unit) (λ (e : ElementRow). e.k) in
      IsPermutation-trans _ (in_order before element_list) _ is_said.1.elements (IsPermutation-sym element_list (in_order before element_list) (in_order-permutation before element_list))

  elements : RepresentsElements db.trees s.catalogue.forest
  elements = record {
    elements = element_list;
    rows = has_numbered read_element (IsNumbered 4) (λ row fit. fit.1) element_row_cells is_element (db.trees tables.element.tree) read.1.1.1.0 (element_whole v db it).rise (element_numbered v db it);
    are = all_weaker (λ (u : Unit). IsPermutation (texts_of u) (filter (λ (e : ElementRow). nat_eq u.id e.unit) element_list)) (λ (u : Unit). IsPermutation (numbered_texts u.values) (elements_of u.id element_list))
        (λ u same. subst (λ cells. IsPermutation cells (elements_of u.id element_list)) (elements_told u.id u.values.texts) (IsPermutation-map element_cell (texts_of u) (filter (λ (e : ElementRow). nat_eq u.id e.unit) element_list) same))
        (nodes s.catalogue.forest) (each_has (λ (u : Unit). u.id) (λ (e : ElementRow). e.unit) texts_of (λ u. element_units u.id 1 u.values.texts) (nodes s.catalogue.forest) element_list apart all_texts);
    others = all_owned (λ (u : Unit). u.id) (λ (e : ElementRow). e.unit) texts_of (λ u. element_units u.id 1 u.values.texts) (nodes s.catalogue.forest) element_list apart all_texts;
  }

  -- ---- the containers, and what lies in them

  read_both : (has_unread read_container (db.trees tables.container.tree) ≡ false) × (has_unread read_housing (db.trees tables.housing.tree) ≡ false)
  read_both = or_parts (has_unread read_container (db.trees tables.container.tree)) (has_unread read_housing (db.trees tables.housing.tree)) read.1.1.1.1.0

  containers : RepresentsContainers db.trees s.catalogue.containers
  containers =
      rows_kept read_container container_cells (IsKeyed 5) is_container (db.trees tables.container.tree) read_both.0 (container_keyed v db it)
      ∙ (ap (map container_cells) (sym (containers_ordered v db it))
      ∙ containers_told t.catalogue.containers (and_parts (are_numbered_from (λ (row : ContainerRow). row.id) 1 t.catalogue.containers) _ good.containers).0)

  abbrev housing_list : List HousingRow
  housing_list = filter_map read_housing (db.trees tables.housing.tree)

  abbrev boxes_of : Unit → List HousingRow
  boxes_of unit = rows_from (housing_row s.catalogue.containers unit.id) 1 unit.values.boxes

  all_boxes : IsPermutation (flat_map boxes_of (nodes s.catalogue.forest)) housing_list
  all_boxes =
      let before : HousingRow → HousingRow → Bool = then_by (λ (l : HousingRow). l.unit) (λ (l : HousingRow). l.ord) in
      IsPermutation-trans _ (in_order before housing_list) _ is_said.1.housings (IsPermutation-sym housing_list (in_order before housing_list) (in_order-permutation before housing_list))

  housings : RepresentsHousings db.trees s.catalogue.forest s.catalogue.containers
  housings = record {
    housings = housing_list;
    rows = has_numbered read_housing (IsNumbered 4) (λ row fit. fit.1) housing_row_cells is_housing (db.trees tables.housing.tree) read_both.1 (housing_whole v db it).rise (housing_numbered v db it);
    are = all_weaker (λ (u : Unit). IsPermutation (boxes_of u) (filter (λ (l : HousingRow). nat_eq u.id l.unit) housing_list)) (λ (u : Unit). IsPermutation (numbered_containers s.catalogue.containers u.values) (housing_places u.id housing_list))
        (λ u same. subst (λ cells. IsPermutation cells (housing_places u.id housing_list)) (housings_told s.catalogue.containers u.id u.values.boxes) (IsPermutation-map housing_cell (boxes_of u) (filter (λ (l : HousingRow). nat_eq u.id l.unit) housing_list) same))
        (nodes s.catalogue.forest) (each_has (λ (u : Unit). u.id) (λ (l : HousingRow). l.unit) boxes_of (λ u. housing_units s.catalogue.containers u.id 1 u.values.boxes) (nodes s.catalogue.forest) housing_list apart all_boxes);
    others = all_owned (λ (u : Unit). u.id) (λ (l : HousingRow). l.unit) boxes_of (λ u. housing_units s.catalogue.containers u.id 1 u.values.boxes) (nodes s.catalogue.forest) housing_list apart all_boxes;
  }

  -- ---- all of it

  catalogue : RepresentsCatalogue v db (office_of s) s.catalogue
  catalogue = record {
    schema_is = it.schema_is;
    office = office;
    next = refl;
    units = units;
    elements = elements;
    containers = containers;
    housings = housings;
  }

  pub catalogue_shown : (places : Trees → Forest ℕ → Type 0)
      → ((db : Trees) → RepresentsWhatItDescribes places (encoding v) db) → RepresentsItsCatalogue places v db
  catalogue_shown places represents = record {
    keys = keys_met v db it;
    represents = record {
      catalogue = catalogue;
      shown = subst (places db.trees) (sym (numbers_back t (places_said t.catalogue.places))) (represents db.trees (whole_places v db it) (no_defect v db.trees read good.places));
    };
  }
