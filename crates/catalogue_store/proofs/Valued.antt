-- What the tables show after a unit takes other values.
use Rattle.std.proofs.Common.{◌≡◌, ℕ, List, map, filter, true, false, not, inl, inr, if◌then◌else◌, nat_eq, refl, sym}
use Rattle.std.proofs.Common.{subst, ◌∙◌}
use Rattle.office_tables.specs.Schema as tables
use Rattle.catalogue_statements.proofs.HousingLemmas.{same_cells}
use Rattle.catalogue_statements.proofs.Parts.{own_cells, others_cells, all_theirs}
use Rattle.catalogue_statements.specs.DescriptionRows.{cell_of}
use Rattle.catalogue_store.proofs.Common.{AllByRecursion, BoxKey, Catalogue, Database, ElementRow, Forest, HousingRow}
use Rattle.catalogue_store.proofs.Common.{IsDescribed, IsPermutation, IsPermutation-map, IsPermutation-trans}
use Rattle.catalogue_store.proofs.Common.{KnowsItsContainers, OfficeRow, Represents, Trees, Unit, Values, Version}
use Rattle.catalogue_store.proofs.Common.{WithHousings, WithTexts, all_both, all_map, all_weaker, cases_Bool}
use Rattle.catalogue_store.proofs.Common.{cells_of_unit, each, each_each, elements_of, eqb-true, has, has_id}
use Rattle.catalogue_store.proofs.Common.{housing_cell, housing_places, is_same_box, kept_by, list_all, list_any, nodes}
use Rattle.catalogue_store.proofs.Common.{nodes-each, numbered_containers, numbered_texts, rising, still_there}
use Rattle.catalogue_store.proofs.Common.{with_boxes, with_values}

-- what tells the unit's values in the tables is what tells these, and all else is as it was
pub record HasValued (old new : Database) (unit : ℕ) (values : Values) (units : List Unit) (elements : List ElementRow) (housings : List HousingRow) (boxes : List BoxKey) : Type 0 where
  pub schema : new.schema ≡ old.schema
  pub office : new.trees tables.office.tree ≡ old.trees tables.office.tree
  pub places : new.trees tables.link.tree ≡ old.trees tables.link.tree
  pub units_are : new.trees tables.unit.tree ≡ map cells_of_unit (map (λ (u : Unit). if has_id unit u then record u { values = values } else u) units)
  pub described : IsDescribed unit values boxes (filter (λ x. not (nat_eq unit x.unit)) elements) (filter (λ x. not (nat_eq unit x.unit)) housings) new.trees

module _ (unit : ℕ) (values : Values) where
  abbrev pub valued : Unit → Unit
  valued u = if has_id unit u then record u { values = values } else u

  pub same_id : (u : Unit) → (valued u).id ≡ u.id
  same_id u = kept_by (λ (u : Unit). u.id) (has_id unit u) (record u { values = values }) u refl

  -- what is true of a unit by its number and its values
  by_values : (P : ℕ → Values → Type 0) (u : Unit) → P unit values → (has_id unit u ≡ false → P u.id u.values)
      → P (valued u).id (valued u).values
  by_values P u own other = elim (cases_Bool (has_id unit u)) [
    | inl is ↦ rw is (subst (λ n. P n values) (eqb-true unit u.id is) own)
    | inr not ↦ rw not (other not)
  ]

  elements_still : (f : Forest Unit) (xs ys : List ElementRow)
      → WithTexts unit (numbered_texts values) (filter (λ x. not (nat_eq unit x.unit)) xs) ys
      → AllByRecursion (λ u. IsPermutation (numbered_texts u.values) (elements_of u.id xs)) (nodes f)
      → AllByRecursion (λ u. IsPermutation (numbered_texts u.values) (elements_of u.id ys)) (nodes (each valued f))
  elements_still f xs ys told all =
      let P = λ (n : ℕ) (v : Values). IsPermutation (numbered_texts v) (elements_of n ys) in
      subst (AllByRecursion (λ (u : Unit). P u.id u.values)) (sym (nodes-each valued f))
      (all_map valued (λ (u : Unit). P u.id u.values) (λ (u : Unit). IsPermutation (numbered_texts u.values) (elements_of u.id xs))
      (λ u h. by_values P u (own_cells (λ (e : ElementRow). e.unit) cell_of unit (numbered_texts values) xs ys told)
      (λ apart. IsPermutation-trans (numbered_texts u.values) (elements_of u.id xs) (elements_of u.id ys) h (others_cells (λ (e : ElementRow). e.unit) cell_of unit u.id (numbered_texts values) xs ys apart told)))
      (nodes f) all)

  abbrev IsKnown : List BoxKey → Unit → Type 0
  IsKnown boxes u = list_all (λ box. list_any (is_same_box box) boxes) u.values.boxes ≡ true

  housings_still : (f : Forest Unit) (boxes more : List BoxKey) (xs ys : List HousingRow)
      → ((u : Unit) → IsKnown boxes u → numbered_containers more u.values ≡ numbered_containers boxes u.values)
      → WithHousings unit (numbered_containers more values) (filter (λ x. not (nat_eq unit x.unit)) xs) ys
      → AllByRecursion (IsKnown boxes) (nodes f)
      → AllByRecursion (λ u. IsPermutation (numbered_containers boxes u.values) (housing_places u.id xs)) (nodes f)
      → AllByRecursion (λ u. IsPermutation (numbered_containers more u.values) (housing_places u.id ys)) (nodes (each valued f))
  housings_still f boxes more xs ys same told known all =
      let P = λ (n : ℕ) (v : Values). IsPermutation (numbered_containers more v) (housing_places n ys) in
      let Q = λ (u : Unit). IsPermutation (numbered_containers more u.values) (housing_places u.id xs) in
      let still = all_both (IsKnown boxes) (λ (u : Unit). IsPermutation (numbered_containers boxes u.values) (housing_places u.id xs)) Q (λ u k h. subst (λ l. IsPermutation l (housing_places u.id xs)) (sym (same u k)) h) (nodes f) known all in
      subst (AllByRecursion (λ (u : Unit). P u.id u.values)) (sym (nodes-each valued f))
      (all_map valued (λ (u : Unit). P u.id u.values) Q
      (λ u h. by_values P u (own_cells (λ (h : HousingRow). h.unit) housing_cell unit (numbered_containers more values) xs ys told)
      (λ apart. IsPermutation-trans (numbered_containers more u.values) (housing_places u.id xs) (housing_places u.id ys) h (others_cells (λ (h : HousingRow). h.unit) housing_cell unit u.id (numbered_containers more values) xs ys apart told)))
      (nodes f) still)

  pub shows_valued : (v : Version) (represents : Trees → Forest ℕ → Type 0)
      → ((old new : Trees) (f : Forest ℕ) → new tables.link.tree ≡ old tables.link.tree → represents old f → represents new f)
      → (old new : Database) (o : OfficeRow) (c : Catalogue) (it : Represents represents v old o c)
      → KnowsItsContainers c → has (has_id unit) c.forest ≡ true
      → HasValued old new unit values it.catalogue.units.units it.catalogue.elements.elements it.catalogue.housings.housings c.containers
      → Represents represents v new o (with_values unit values c)
  shows_valued v represents same old new o c it knows there wrote =
      let at = it.catalogue in
      let f = c.forest in
      let boxes = with_boxes c.containers values.boxes in
      let here = λ (n : ℕ). has (has_id n) (each valued f) ≡ true in
      let own : here unit = still_there valued same_id f unit ∙ there in
      let made = wrote.described in
      record {
        catalogue = record {
          schema_is = wrote.schema ∙ at.schema_is;
          office = wrote.office ∙ at.office;
          next = at.next;
          units = record {
            units = map valued at.units.units;
            rows = wrote.units_are;
            rise = rising valued same_id at.units.units at.units.rise;
            are = subst (λ l. IsPermutation l (map valued at.units.units)) (sym (nodes-each valued f)) (IsPermutation-map valued (nodes f) at.units.units at.units.are);
          };
          elements = record {
            elements = made.elements;
            rows = made.texts.rows;
            are = elements_still f at.elements.elements made.elements made.texts_more at.elements.are;
            others = all_theirs (λ (e : ElementRow). e.unit) cell_of here unit (numbered_texts values) at.elements.elements made.elements own
                (all_weaker (λ (e : ElementRow). has (has_id e.unit) f ≡ true) (λ (e : ElementRow). here e.unit) (λ e h. still_there valued same_id f e.unit ∙ h) at.elements.elements at.elements.others) made.texts_more;
          };
          containers = made.housed.containers;
          housings = record {
            housings = made.housings;
            rows = made.housed.rows;
            are = housings_still f c.containers boxes at.housings.housings made.housings (λ u known. same_cells c.containers values.boxes u.values.boxes 1 knows.apart known) made.housed_more knows.known at.housings.are;
            others = all_theirs (λ (h : HousingRow). h.unit) housing_cell here unit (numbered_containers boxes values) at.housings.housings made.housings own
                (all_weaker (λ (h : HousingRow). has (has_id h.unit) f ≡ true) (λ (h : HousingRow). here h.unit) (λ h k. still_there valued same_id f h.unit ∙ k) at.housings.housings at.housings.others) made.housed_more;
          };
        };
        shown = same old.trees new.trees (each (λ (u : Unit). u.id) (each valued f)) wrote.places (subst (represents old.trees) (sym (each_each valued (λ (u : Unit). u.id) (λ (u : Unit). u.id) same_id f)) it.shown);
      }
