-- What the tables show after a unit is added.
use Rattle.std.proofs.Common.{◌≡◌, ◌≢◌, ℕ, ◌+◌, ◌≤◌, pos, List, [], ◌∷◌, length, filter, Bool, true, false, not, Option}
use Rattle.std.proofs.Common.{nat_eq, Equal, refl, sym, ap, subst, ◌∙◌, inl, inr}
use Rattle.catalogue_core.proofs.NodeLemmas.{nodes_add}
use Rattle.office_tables.specs.Schema as tables
use Rattle.catalogue_statements.proofs.Common.{AllByRecursion, BoxKey, Catalogue, Database, ElementRow, Forest}
use Rattle.catalogue_statements.proofs.Common.{HousingRow, IsDescribed, IsPermutation, IsPermutation-cons}
use Rattle.catalogue_statements.proofs.Common.{IsPermutation-filter, IsPermutation-sym, IsPermutation-trans}
use Rattle.catalogue_statements.proofs.Common.{KnowsItsContainers, OfficeRow, Represents, RepresentsNumbered}
use Rattle.catalogue_statements.proofs.Common.{RepresentsUnits, Trees, Unit, Version, WithHousings, WithTexts, add}
use Rattle.catalogue_statements.proofs.Common.{add-each, all-permutation, all_both, all_from, all_has, all_weaker}
use Rattle.catalogue_statements.proofs.Common.{by_number, cases_Bool, cell_of, cells_of_unit, each, elements_of}
use Rattle.catalogue_statements.proofs.Common.{eqb-true, eqb_comm, false≢true, fresh_key, had, has, has_id, has_place}
use Rattle.catalogue_statements.proofs.Common.{housing_cell, housing_places, int_cmp, int_cmp_total, is_eq, is_same_box}
use Rattle.catalogue_statements.proofs.Common.{is_taken, length_permutation, list_all, list_any, nodes}
use Rattle.catalogue_statements.proofs.Common.{numbered_containers, numbered_texts, office_row, once, or_left, or_right}
use Rattle.catalogue_statements.proofs.Common.{put_by, put_more, put_rises, put_row, put_rows, same_nat, same_test}
use Rattle.catalogue_statements.proofs.Common.{some_from, some_has, tied_itself, with_boxes, with_numbered}
use Rattle.catalogue_statements.proofs.Finding.{itself}
use Rattle.catalogue_statements.proofs.HousingLemmas.{same_cells}
use Rattle.catalogue_statements.proofs.Parts.{own_cells, others_cells, all_theirs, without_none}
use Rattle.catalogue_statements.proofs.UnitQueries.{by_number_total}

-- what stands in one order stands in the other
pub any_in : {X : Type 0} (p : X → Bool) (xs ys : List X) → IsPermutation xs ys → list_any p ys ≡ true
    → list_any p xs ≡ true
any_in p xs ys same h = let x = some_has p ys h in some_from p xs x.0 (had xs ys same x.0 x.1) x.2

-- no two units have one number
pub numbered_once : (db : Trees) (f : Forest Unit) → RepresentsUnits db f → (n : ℕ) → has (has_id n) f ≡ true
    → length (filter (has_id n) (nodes f)) ≤ 1
numbered_once db f at n there =
    let v = some_has (has_id n) (nodes f) there in
    let same : filter (has_id n) at.units ≡ filter (λ z. is_eq (by_number v.0 z)) at.units =
    same_test (has_id n) (λ z. is_eq (by_number v.0 z)) (λ z. ap (λ m. nat_eq m z.id) (eqb-true n v.0.id v.2) ∙ eqb_comm v.0.id z.id ∙ sym (same_nat v.0.id z.id)) at.units in
    subst (λ m. m ≤ 1) (ap length (sym same) ∙ (length_permutation (filter (has_id n) (nodes f)) (filter (has_id n) at.units) (IsPermutation-filter (has_id n) (nodes f) at.units at.are)))
    (once by_number by_number_total v.0 at.units at.rise)

-- a number that was free for a row is no unit's
pub no_unit : (db : Trees) (f : Forest Unit) → (at : RepresentsUnits db f) → (u : Unit)
    → is_taken (db tables.unit.tree) (cells_of_unit u) ≡ false → has (has_id u.id) f ≡ false
no_unit db f at u free = elim (cases_Bool (has (has_id u.id) f)) [
  | inr none ↦ none
  | inl there ↦ absurd (
      let apart = fresh_key cells_of_unit (λ (x : Unit). pos x.id) (λ _. refl) u at.units (ap (λ rows. is_taken rows (cells_of_unit u)) (sym at.rows) ∙ free) in
      let x = some_has (has_id u.id) (nodes f) there in
      let same : u.id ≡ x.0.id = eqb-true u.id x.0.id x.2 in
      all_has (λ (x : Unit). int_cmp (pos x.id) (pos u.id) ≢ Equal) at.units x.0 apart (had at.units (nodes f) (IsPermutation-sym (nodes f) at.units at.are) x.0 x.1)
      (ap (λ n. int_cmp (pos n) (pos u.id)) (sym same) ∙ tied_itself int_cmp_total (pos u.id)))
]

-- the tables tell of one unit more
pub record HasAdded (represents : Trees → Forest ℕ → Type 0) (v : Version) (old new : Database) (o : OfficeRow) (c : Catalogue) (parent : Option ℕ) (u : Unit) (elements : List ElementRow) (housings : List HousingRow) : Type 0 where
  pub schema : new.schema ≡ old.schema
  pub office : new.trees tables.office.tree ≡ office_row v (record o { next_unit = u.id + 1 }) ∷ []
  pub units : new.trees tables.unit.tree ≡ put_row (cells_of_unit u) (old.trees tables.unit.tree)
  pub fresh : is_taken (old.trees tables.unit.tree) (cells_of_unit u) ≡ false
  pub described : IsDescribed u.id u.values c.containers elements housings new.trees
  pub shown : represents new.trees (add nat_eq parent u.id (each (λ (x : Unit). x.id) c.forest))

module _ (u : Unit) (parent : Option ℕ) (f : Forest Unit) (many : IsPermutation (nodes (add has_id parent u f)) (u ∷ nodes f)) (new_id : has (has_id u.id) f ≡ false) where
  abbrev grown : Forest Unit
  grown = add has_id parent u f

  -- a unit that was there is another
  apart : (n : ℕ) → has (has_id n) f ≡ true → nat_eq u.id n ≡ false
  apart n there = elim (cases_Bool (nat_eq u.id n)) [
    | inr not ↦ not
    | inl same ↦ absurd (false≢true (sym new_id ∙ ap (λ m. has (has_id m) f) (eqb-true u.id n same) ∙ there))
  ]

  others_apart : AllByRecursion (λ x. nat_eq u.id x.id ≡ false) (nodes f)
  others_apart = all_from (λ (x : Unit). nat_eq u.id x.id ≡ false) (nodes f) (λ x h. apart x.id (some_from (has_id x.id) (nodes f) x h (itself x.id)))

  -- what is true of the new unit and of those that were there
  of_all : (P : Unit → Type 0) → P u → AllByRecursion P (nodes f) → AllByRecursion P (nodes grown)
  of_all P own all = all-permutation P (u ∷ nodes f) (nodes grown) (IsPermutation-sym (nodes grown) (u ∷ nodes f) many) (own, all)

  abbrev here : ℕ → Type 0
  here n = has (has_id n) grown ≡ true

  still_here : (n : ℕ) → has (has_id n) f ≡ true → here n
  still_here n h = any_in (has_id n) (nodes grown) (u ∷ nodes f) many (or_right (has_id n u) (has (has_id n) f) h)

  own_here : here u.id
  own_here = any_in (has_id u.id) (nodes grown) (u ∷ nodes f) many (or_left (has_id u.id u) (has (has_id u.id) f) (itself u.id))

  texts_grown : (xs ys : List ElementRow) → AllByRecursion (λ x. has (has_id x.unit) f ≡ true) xs
      → WithTexts u.id (numbered_texts u.values) xs ys
      → WithTexts u.id (numbered_texts u.values) (filter (λ x. not (nat_eq u.id x.unit)) xs) ys
  texts_grown xs ys there told =
      subst (λ l. WithTexts u.id (numbered_texts u.values) l ys)
      (sym (without_none (λ (e : ElementRow). e.unit) cell_of u.id xs (all_weaker (λ (x : ElementRow). has (has_id x.unit) f ≡ true) (λ (x : ElementRow). nat_eq u.id x.unit ≡ false) (λ x h. apart x.unit h) xs there))) told

  housings_grown : (cells : List (ℕ × ℕ)) (xs ys : List HousingRow)
      → AllByRecursion (λ x. has (has_id x.unit) f ≡ true) xs → WithHousings u.id cells xs ys
      → WithHousings u.id cells (filter (λ x. not (nat_eq u.id x.unit)) xs) ys
  housings_grown cells xs ys there told =
      subst (λ l. WithHousings u.id cells l ys)
      (sym (without_none (λ (h : HousingRow). h.unit) housing_cell u.id xs (all_weaker (λ (x : HousingRow). has (has_id x.unit) f ≡ true) (λ (x : HousingRow). nat_eq u.id x.unit ≡ false) (λ x h. apart x.unit h) xs there))) told

  elements_still : (xs ys : List ElementRow)
      → WithTexts u.id (numbered_texts u.values) (filter (λ x. not (nat_eq u.id x.unit)) xs) ys
      → AllByRecursion (λ x. IsPermutation (numbered_texts x.values) (elements_of x.id xs)) (nodes f)
      → AllByRecursion (λ x. IsPermutation (numbered_texts x.values) (elements_of x.id ys)) (nodes grown)
  elements_still xs ys told all =
      let P = λ (x : Unit). IsPermutation (numbered_texts x.values) (elements_of x.id ys) in
      of_all P (own_cells (λ (e : ElementRow). e.unit) cell_of u.id (numbered_texts u.values) xs ys told)
      (all_both (λ (x : Unit). nat_eq u.id x.id ≡ false) (λ (x : Unit). IsPermutation (numbered_texts x.values) (elements_of x.id xs)) P
      (λ x other h. IsPermutation-trans (numbered_texts x.values) (elements_of x.id xs) (elements_of x.id ys) h (others_cells (λ (e : ElementRow). e.unit) cell_of u.id x.id (numbered_texts u.values) xs ys other told))
      (nodes f) others_apart all)

  abbrev IsKnown : List BoxKey → Unit → Type 0
  IsKnown boxes x = list_all (λ box. list_any (is_same_box box) boxes) x.values.boxes ≡ true

  housings_still : (boxes more : List BoxKey) (xs ys : List HousingRow)
      → ((x : Unit) → IsKnown boxes x → numbered_containers more x.values ≡ numbered_containers boxes x.values)
      → WithHousings u.id (numbered_containers more u.values) (filter (λ x. not (nat_eq u.id x.unit)) xs) ys
      → AllByRecursion (IsKnown boxes) (nodes f)
      → AllByRecursion (λ x. IsPermutation (numbered_containers boxes x.values) (housing_places x.id xs)) (nodes f)
      → AllByRecursion (λ x. IsPermutation (numbered_containers more x.values) (housing_places x.id ys)) (nodes grown)
  housings_still boxes more xs ys same told known all =
      let P = λ (x : Unit). IsPermutation (numbered_containers more x.values) (housing_places x.id ys) in
      let Q = λ (x : Unit). IsPermutation (numbered_containers more x.values) (housing_places x.id xs) in
      let still = all_both (IsKnown boxes) (λ (x : Unit). IsPermutation (numbered_containers boxes x.values) (housing_places x.id xs)) Q (λ x k h. subst (λ l. IsPermutation l (housing_places x.id xs)) (sym (same x k)) h) (nodes f) known all in
      of_all P (own_cells (λ (h : HousingRow). h.unit) housing_cell u.id (numbered_containers more u.values) xs ys told)
      (all_both (λ (x : Unit). nat_eq u.id x.id ≡ false) Q P
      (λ x other h. IsPermutation-trans (numbered_containers more x.values) (housing_places x.id xs) (housing_places x.id ys) h (others_cells (λ (h : HousingRow). h.unit) housing_cell u.id x.id (numbered_containers more u.values) xs ys other told))
      (nodes f) others_apart still)

pub shows_added : (v : Version) (represents : Trees → Forest ℕ → Type 0) (old new : Database) (o : OfficeRow) (c : Catalogue) (parent : Option ℕ) (u : Unit) (it : Represents represents v old o c)
    → has_place has_id parent c.forest ≡ true → KnowsItsContainers c
    → HasAdded represents v old new o c parent u it.catalogue.elements.elements it.catalogue.housings.housings
    → RepresentsNumbered represents v new o (with_numbered parent u c)
shows_added v represents old new o c parent u it there knows wrote =
    let at = it.catalogue in
    let f = c.forest in
    let boxes = with_boxes c.containers u.values.boxes in
    let key = λ (x : Unit). pos x.id in
    let new_id = no_unit old.trees f at.units u wrote.fresh in
    let many = nodes_add has_id parent u f (numbered_once old.trees f at.units) there in
    let free = fresh_key cells_of_unit key (λ _. refl) u at.units.units (ap (λ rows. is_taken rows (cells_of_unit u)) (sym at.units.rows) ∙ wrote.fresh) in
    let made = wrote.described in
    let texts = texts_grown u parent f many new_id at.elements.elements made.elements at.elements.others made.texts_more in
    let housed = housings_grown u parent f many new_id (numbered_containers boxes u.values) at.housings.housings made.housings at.housings.others made.housed_more in
    let grown = add has_id parent u f in
    record {
      catalogue = record {
        schema_is = wrote.schema ∙ at.schema_is;
        office = wrote.office;
        next = refl;
        units = record {
          units = put_by key u at.units.units;
          rows = wrote.units ∙ ap (put_row (cells_of_unit u)) at.units.rows ∙ put_rows cells_of_unit key (λ _. refl) u at.units.units;
          rise = put_rises cells_of_unit key (λ _. refl) u at.units.units at.units.rise;
          are = IsPermutation-trans (nodes grown) (u ∷ nodes f) (put_by key u at.units.units) many
              (IsPermutation-trans (u ∷ nodes f) (u ∷ at.units.units) (put_by key u at.units.units) (IsPermutation-cons u (nodes f) at.units.units at.units.are) (put_more key u at.units.units free));
        };
        elements = record {
          elements = made.elements;
          rows = made.texts.rows;
          are = elements_still u parent f many new_id at.elements.elements made.elements texts at.elements.are;
          others = all_theirs (λ (e : ElementRow). e.unit) cell_of (λ n. has (has_id n) grown ≡ true) u.id (numbered_texts u.values) at.elements.elements made.elements (own_here u parent f many new_id)
              (all_weaker (λ (e : ElementRow). has (has_id e.unit) f ≡ true) (λ (e : ElementRow). has (has_id e.unit) grown ≡ true) (λ e h. still_here u parent f many new_id e.unit h) at.elements.elements at.elements.others) texts;
        };
        containers = made.housed.containers;
        housings = record {
          housings = made.housings;
          rows = made.housed.rows;
          are = housings_still u parent f many new_id c.containers boxes at.housings.housings made.housings (λ x known. same_cells c.containers u.values.boxes x.values.boxes 1 knows.apart known) housed knows.known at.housings.are;
          others = all_theirs (λ (h : HousingRow). h.unit) housing_cell (λ n. has (has_id n) grown ≡ true) u.id (numbered_containers boxes u.values) at.housings.housings made.housings (own_here u parent f many new_id)
              (all_weaker (λ (h : HousingRow). has (has_id h.unit) f ≡ true) (λ (h : HousingRow). has (has_id h.unit) grown ≡ true) (λ h k. still_here u parent f many new_id h.unit k) at.housings.housings at.housings.others) housed;
        };
      };
      shown = subst (represents new.trees) (sym (add-each nat_eq (λ (x : Unit). x.id) parent u f)) wrote.shown;
    }
