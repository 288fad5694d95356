-- What the tables tell of a unit of the catalogue: its level, its texts, and its containers.
use Rattle.std.proofs.Common.{◌≡◌, ℕ, Bool, cond, List, [], ◌∷◌, length, map, filter, find, slice_get, Option, Some, None}
use Rattle.std.proofs.Common.{true, false, nat_eq, refl, sym, ap, subst, ◌∙◌, inl, inr}
use Rattle.std.specs.Prelude.{option_map}
use Rattle.catalogue_statements.proofs.FoundUnits.{one_told}
use Rattle.isad_core.specs.declared.values.Values.{Values}
use Rattle.catalogue_store.proofs.Common.{AllByRecursion, Bytes, Catalogue, Database, ElementRow, Forest, Has}
use Rattle.catalogue_store.proofs.Common.{HousingRow, box_number}
use Rattle.catalogue_store.proofs.Common.{IsPermutation, IsPermutation-refl, KnowsItsContainers, OfficeRow}
use Rattle.catalogue_store.proofs.Common.{RepresentsUnits, RepresentsValues, TellsTexts, Trees, Unit, all_has}
use Rattle.catalogue_store.proofs.Common.{cases_Bool, elements_of, eqb-true, false≢true, has, has_id, housing_places}
use Rattle.catalogue_store.proofs.Common.{is_same_box, list_all, list_any, nodes, none_found, numbered_containers}
use Rattle.catalogue_store.proofs.Common.{numbered_texts, unwrap_or}
use Rattle.catalogue_store.specs.UnitValues.{containers_of_unit, no_values, values_of_unit, values_or_none}
use Rattle.catalogue_store.specs.declared.unit_values.UnitContainers.{UnitContainers}
use Rattle.catalogue_store.specs.declared.unit_values.UnitValues.{UnitValues}

-- ---- whether a number is that of a unit

-- what is found is there, and passes
found_there : {A : Type 0} (p : A → Bool) (xs : List A) (x : A) → find p xs ≡ Some x → Has xs x × (p x ≡ true)
found_there p [] x e = absurd (let clash : None ≡ Some x = e in cc)
found_there p (y ∷ ys) x e = elim (cases_Bool (p y)) [
  | inl here ↦
      let one : Some y ≡ Some x = sym (ap (λ b. cond b (Some y) (find p ys)) here) ∙ e in
      let same : y ≡ x = cc in
      (inl (sym same), subst (λ z. p z ≡ true) same here)
  | inr not ↦
      let rest = found_there p ys x (sym (ap (λ b. cond b (Some y) (find p ys)) not) ∙ e) in
      (inr rest.0, rest.1)
]

not_there : {A : Type 0} (p : A → Bool) (xs : List A) → find p xs ≡ None → list_any p xs ≡ false
not_there p [] e = refl
not_there p (y ∷ ys) e = elim (cases_Bool (p y)) [
  | inl here ↦ absurd (let clash : Some y ≡ None = sym (ap (λ b. cond b (Some y) (find p ys)) here) ∙ e in cc)
  | inr not ↦ rw not (not_there p ys (sym (ap (λ b. cond b (Some y) (find p ys)) not) ∙ e))
]

-- where each row is of some unit, none is of a number that no unit has
no_rows : {R : Type 0} (of : R → ℕ) (f : Forest Unit) (n : ℕ) (rows : List R)
    → AllByRecursion (λ r. has (has_id (of r)) f ≡ true) rows → find (has_id n) (nodes f) ≡ None
    → filter (λ r. nat_eq n (of r)) rows ≡ []
no_rows of f n [] there none = refl
no_rows of f n (r ∷ rows) there none = elim (cases_Bool (nat_eq n (of r))) [
  | inl same ↦
      let is : has (has_id n) f ≡ true = subst (λ m. has (has_id m) f ≡ true) (sym (eqb-true n (of r) same)) there.0 in
      absurd (false≢true (sym (not_there (has_id n) (nodes f) none) ∙ is))
  | inr other ↦ rw other (no_rows of f n rows there.1 none)
]

-- ---- what a row of a unit tells

-- the first of the rows with this number tells of the unit, and there is none if no unit has it
pub first_told : {B : Type 0} (tell : Unit → B) (db : Trees) (f : Forest Unit) (at : RepresentsUnits db f) (n : ℕ) (ys : List Unit)
    → IsPermutation (filter (λ (u : Unit). nat_eq n u.id) at.units) ys
    → slice_get (map tell ys) 0 ≡ option_map tell (find (has_id n) (nodes f))
first_told {B} tell db f at n ys same = by_first (slice_get (map tell ys) 0) refl
  where
    by_first : (first : Option B) → slice_get (map tell ys) 0 ≡ first
        → slice_get (map tell ys) 0 ≡ option_map tell (find (has_id n) (nodes f))
    by_first None e = e ∙ sym (ap (option_map tell) (none_found db f at n ys same tell e))
    by_first (Some told) e =
        let found = one_told db f at n ys same tell told e in
        e ∙ ap Some found.4 ∙ sym (ap (option_map tell) found.3)

module _ (db : Database) (o : OfficeRow) (c : Catalogue) (it : RepresentsValues db o c) (n : ℕ) where
  module _ (u : Unit) (there : Has (nodes c.forest) u) (is : n ≡ u.id) where
    texts_of_one : TellsTexts n db u.values it.catalogue.elements.elements
    texts_of_one =
        let elements = it.catalogue.elements in
        record {
          rows = elements.rows;
          places = all_has (λ (u : Unit). length u.values.texts ≡ 25) (nodes c.forest) u it.places there;
          are = subst (λ n. IsPermutation (numbered_texts u.values) (elements_of n elements.elements)) (sym is)
              (all_has (λ (u : Unit). IsPermutation (numbered_texts u.values) (elements_of u.id elements.elements)) (nodes c.forest) u elements.are there);
        }

    containers_of_one : IsPermutation (numbered_containers c.containers u.values) (housing_places n it.catalogue.housings.housings)
    containers_of_one =
        let housings = it.catalogue.housings in
        subst (λ n. IsPermutation (numbered_containers c.containers u.values) (housing_places n housings.housings)) (sym is)
        (all_has (λ (u : Unit). IsPermutation (numbered_containers c.containers u.values) (housing_places u.id housings.housings)) (nodes c.forest) u housings.are there)

  -- of a number that no unit has, no text is told and no container

  pub texts_told : TellsTexts n db (values_or_none n c) it.catalogue.elements.elements
  texts_told = by_unit (find (has_id n) (nodes c.forest)) refl
    where
      by_unit : (found : Option Unit) → find (has_id n) (nodes c.forest) ≡ found
          → TellsTexts n db (unwrap_or (option_map (λ (u : Unit). u.values) found) no_values) it.catalogue.elements.elements
      by_unit None e = record {
        rows = it.catalogue.elements.rows;
        places = refl;
        are = subst (λ (l : List ElementRow). IsPermutation {X = ℕ × Bytes} [] (map (λ (e : ElementRow). (e.k, e.value)) l))
            (sym (no_rows (λ (e : ElementRow). e.unit) c.forest n it.catalogue.elements.elements it.catalogue.elements.others e)) (IsPermutation-refl []);
      }
      by_unit (Some u) e =
          let found = found_there (has_id n) (nodes c.forest) u e in
          texts_of_one u found.0 (eqb-true n u.id found.1)

  pub containers_told : IsPermutation (numbered_containers c.containers (values_or_none n c)) (housing_places n it.catalogue.housings.housings)
  containers_told = by_unit (find (has_id n) (nodes c.forest)) refl
    where
      by_unit : (found : Option Unit) → find (has_id n) (nodes c.forest) ≡ found
          → IsPermutation (numbered_containers c.containers (unwrap_or (option_map (λ (u : Unit). u.values) found) no_values)) (housing_places n it.catalogue.housings.housings)
      by_unit None e =
          subst (λ (l : List HousingRow). IsPermutation {X = ℕ × ℕ} [] (map (λ (h : HousingRow). (h.ord, h.container)) l))
          (sym (no_rows (λ (h : HousingRow). h.unit) c.forest n it.catalogue.housings.housings it.catalogue.housings.others e)) (IsPermutation-refl [])
      by_unit (Some u) e =
          let found = found_there (has_id n) (nodes c.forest) u e in
          containers_of_one u found.0 (eqb-true n u.id found.1)

  pub boxes_known : KnowsItsContainers c → list_all (λ box. list_any (is_same_box box) c.containers) (values_or_none n c).boxes ≡ true
  boxes_known knows = by_unit (find (has_id n) (nodes c.forest)) refl
    where
      by_unit : (found : Option Unit) → find (has_id n) (nodes c.forest) ≡ found
          → list_all (λ box. list_any (is_same_box box) c.containers) (unwrap_or (option_map (λ (u : Unit). u.values) found) no_values).boxes ≡ true
      by_unit None e = refl
      by_unit (Some u) e = all_has (λ (u : Unit). list_all (λ box. list_any (is_same_box box) c.containers) u.values.boxes ≡ true) (nodes c.forest) u knows.known (found_there (has_id n) (nodes c.forest) u e).0

-- what is told of a unit tells which unit it is
pub told_of : {B : Type 0} (tell : Unit → B) (found : Option Unit) (told : B) → option_map tell found ≡ Some told
    → (u : Unit) × (found ≡ Some u) × (told ≡ tell u)
told_of tell None told e = absurd (let clash : None ≡ Some told = e in cc)
told_of tell (Some u) told e = (u, refl, let same : Some (tell u) ≡ Some told = e in cc)

pub none_told : {B : Type 0} (tell : Unit → B) (found : Option Unit) → option_map tell found ≡ None → found ≡ None
none_told tell None e = refl
none_told tell (Some u) e = absurd (let clash : Some (tell u) ≡ None = e in cc)

-- level, texts and containers, read apart, are the values of the unit
pub values_told : (c : Catalogue) (n : ℕ) (u : Unit) (level : Bytes) (texts : List (Option Bytes)) (housed : UnitContainers)
    → find (has_id n) (nodes c.forest) ≡ Some u → level ≡ u.values.level → texts ≡ (values_or_none n c).texts
    → housed ≡ containers_of_unit n c
    → Some (let x : UnitValues = record { values = record { level = level; texts = texts; boxes = housed.boxes }; containers = housed.numbers } in x) ≡ values_of_unit n c
values_told c n u level texts housed found level_is texts_are housed_is =
    let told = λ (level : Bytes) (texts : List (Option Bytes)) (housed : UnitContainers). Some (let x : UnitValues = record { values = record { level = level; texts = texts; boxes = housed.boxes }; containers = housed.numbers } in x) in
    let of_one = λ (v : Values). (let x : UnitContainers = record { boxes = v.boxes; numbers = map (box_number c.containers) v.boxes } in x) in
    let is : values_or_none n c ≡ u.values = ap (λ (o : Option Unit). unwrap_or (option_map (λ (u : Unit). u.values) o) no_values) found in
    ap (λ l. told l texts housed) level_is
    ∙ ap (λ t. told u.values.level t housed) (texts_are ∙ ap (λ (v : Values). v.texts) is)
    ∙ ap (told u.values.level u.values.texts) (housed_is ∙ ap of_one is)
    ∙ sym (ap (option_map (λ (u : Unit). (let x : UnitValues = record { values = u.values; containers = map (box_number c.containers) u.values.boxes } in x))) found)
