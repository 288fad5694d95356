-- An element, and a container of a unit, has its unit, since the rows of an open connection keep the foreign keys of its tables.
use Rattle.std.proofs.Common.{◌≡◌, ℕ, pos, List, [], ◌∷◌, map, Bool, true, false, ◌||◌, Option, Some, None, is_none}
use Rattle.std.proofs.Common.{refl, sym, ap, ap₂, subst, ◌∙◌, filter_map, nat_eq, IsTrue}
use Rattle.sqlite.specs.Effect.{IsDatabase}
use Rattle.sqlite_schema.specs.Names.{same_name}
use Rattle.sqlite_schema.specs.Rules.{agree, has_null, has_parent}
use Rattle.sqlite_schema.specs.declared.schema.Constraint.TheVariants.{ForeignKey}
use Rattle.sqlite_value.specs.Keys.{joined, first_key}
use Rattle.office_tables.proofs.Tests.{only, same_number}
use Rattle.office_tables.specs.Schema.{schema, to_unit}
use Rattle.office_tables.specs.Schema as tables
use Rattle.row_decoding.specs.TableRows.{by}
use Rattle.integrity_checks.proofs.Common.{AllByRecursion, ElementRow, First, HousingRow, Int, IsLive, Row, Second}
use Rattle.integrity_checks.proofs.Common.{State, Trees, UnitRow, Version, and_parts, any_alike, catalogue_in, column}
use Rattle.integrity_checks.proofs.Common.{cons_option, flag_in, from_first, has_unread, is_number, list_all, list_any}
use Rattle.integrity_checks.proofs.Common.{number_in, option_map_or, or_null_in, or_parts, ordered_alike, plain}
use Rattle.integrity_checks.proofs.Common.{read_element, read_housing, read_unit, stands, text_in, true≢false}
use Rattle.integrity_checks.proofs.Common.{unit_numbers, whole_in}

-- ---- what a row that is read has

unit_key : (row : Row) (u : UnitRow) → read_unit row ≡ Some u → column row 0 ≡ Int (pos u.id)
unit_key row u h =
    let a = from_first (number_in (column row 0)) _ u h in
    let b = from_first (flag_in (column row 6)) _ u a.2 in
    let c = from_first (or_null_in whole_in (column row 5)) _ u b.2 in
    let d = from_first (text_in (column row 2)) _ u c.2 in
    let e = from_first (text_in (column row 3)) _ u d.2 in
    let f = from_first (text_in (column row 4)) _ u e.2 in
    let made : a.0 ≡ u.id = ap (λ (o : Option UnitRow). option_map_or (λ (x : UnitRow). x.id) o 0) f.2 in
    is_number (column row 0) a.0 a.1 ∙ ap (λ n. Int (pos n)) made

element_unit : (row : Row) (e : ElementRow) → read_element row ≡ Some e → column row 1 ≡ Int (pos e.unit)
element_unit row e h =
    let a = from_first (number_in (column row 1)) _ e h in
    let b = from_first (number_in (column row 2)) _ e a.2 in
    let c = from_first (text_in (column row 3)) _ e b.2 in
    let made : a.0 ≡ e.unit = ap (λ (o : Option ElementRow). option_map_or (λ (x : ElementRow). x.unit) o 0) c.2 in
    is_number (column row 1) a.0 a.1 ∙ ap (λ n. Int (pos n)) made

pub housing_unit : (row : Row) (h : HousingRow) → read_housing row ≡ Some h → column row 1 ≡ Int (pos h.unit)
housing_unit row h is =
    let a = from_first (number_in (column row 1)) _ h is in
    let b = from_first (number_in (column row 2)) _ h a.2 in
    let c = from_first (number_in (column row 3)) _ h b.2 in
    let made : a.0 ≡ h.unit = ap (λ (o : Option HousingRow). option_map_or (λ (x : HousingRow). x.unit) o 0) c.2 in
    is_number (column row 1) a.0 a.1 ∙ ap (λ n. Int (pos n)) made

-- ---- the unit of a row

-- the row of the unit has the number
key_is : (parent row : Row) (n m : ℕ) → column parent 0 ≡ Int (pos m) → column row 1 ≡ Int (pos n)
    → agree plain (0 ∷ []) parent (1 ∷ []) row ≡ nat_eq n m
unfolding first_key
key_is parent row n m p r = rw (p, r) (only (same_number m n))

abbrev is_of : ℕ → UnitRow → Bool
is_of n unit = nat_eq n unit.id

found : (row : Row) (n : ℕ) → column row 1 ≡ Int (pos n) → (units : List Row) → has_unread read_unit units ≡ false
    → list_any (λ parent. agree plain (0 ∷ []) parent (1 ∷ []) row) units ≡ list_any (is_of n) (filter_map read_unit units)
found row n is [] all = refl
found row n is (parent ∷ units) all =
    at (found row n is units (or_parts _ _ all).1) (read_unit parent) refl (or_parts _ _ all).0
  where
    at : list_any (λ parent. agree plain (0 ∷ []) parent (1 ∷ []) row) units ≡ list_any (is_of n) (filter_map read_unit units)
        → (o : Option UnitRow) → read_unit parent ≡ o → is_none o ≡ false
        → (agree plain (0 ∷ []) parent (1 ∷ []) row || list_any (λ parent. agree plain (0 ∷ []) parent (1 ∷ []) row) units) ≡ list_any (is_of n) (cons_option o (filter_map read_unit units))
    at more None read h = absurd (true≢false h)
    at more (Some u) read h = ap₂ ◌||◌ (key_is parent row n u.id (unit_key parent u read) is) more

any_map : (n : ℕ) (units : List UnitRow) → stands n (map (λ (row : UnitRow). row.id) units) ≡ list_any (is_of n) units
any_map n [] = refl
any_map n (u ∷ units) = ap (λ b. nat_eq n u.id || b) (any_map n units)

-- ---- the foreign key

-- the row's unit is there
abbrev pub HasUnit : Version → Trees → Row → Type 0
HasUnit v db row = list_all (has_parent (schema v).tables db row) (to_unit 1 ∷ []) ≡ true

of_unit : (v : Version) (db : Trees) (row : Row) → HasUnit v db row
    → (has_null (1 ∷ []) row || list_any (λ parent. agree plain (0 ∷ []) parent (1 ∷ []) row) (db tables.unit.tree)) ≡ true
unfolding joined same_name
of_unit First db row h = (and_parts _ _ h).0
of_unit Second db row h = (and_parts _ _ h).0

not_null : (row : Row) (n : ℕ) → column row 1 ≡ Int (pos n) → has_null (1 ∷ []) row ≡ false
not_null row n is = rw is refl

module _ (v : Version) (db : Trees) (all : has_unread read_unit (db tables.unit.tree) ≡ false) where
  has_unit : (row : Row) (n : ℕ) → column row 1 ≡ Int (pos n) → HasUnit v db row
      → stands n (unit_numbers (catalogue_in v db)) ≡ true
  has_unit row n is held =
      let parent = of_unit v db row held in
      let there : list_any (λ parent. agree plain (0 ∷ []) parent (1 ∷ []) row) (db tables.unit.tree) ≡ true =
      sym (ap (λ b. b || list_any (λ parent. agree plain (0 ∷ []) parent (1 ∷ []) row) (db tables.unit.tree)) (not_null row n is)) ∙ parent in
      any_map n (catalogue_in v db).units
      ∙ any_alike (is_of n) (catalogue_in v db).units (filter_map read_unit (db tables.unit.tree)) (ordered_alike (by (λ (row : UnitRow). row.id)) (filter_map read_unit (db tables.unit.tree)))
      ∙ sym (found row n is (db tables.unit.tree) all) ∙ there

  pub element_has_unit : (row : Row) (e : ElementRow) → read_element row ≡ Some e → HasUnit v db row
      → stands e.unit (unit_numbers (catalogue_in v db)) ≡ true
  element_has_unit row e read = has_unit row e.unit (element_unit row e read)

  pub housing_has_unit : (row : Row) (h : HousingRow) → read_housing row ≡ Some h → HasUnit v db row
      → stands h.unit (unit_numbers (catalogue_in v db)) ≡ true
  housing_has_unit row h read = has_unit row h.unit (housing_unit row h read)

-- ---- the rules of an open connection

module _ (s : State) (v : Version) (has : s.now.schema ≡ schema v) (live : IsLive s) (is_open : IsTrue s.is_open) where
  sound : IsDatabase (record { schema = schema v; trees = s.now.trees })
  sound = subst (λ k. IsDatabase (record { schema = k; trees = s.now.trees })) has (live is_open).0

  pub elements_have_units : AllByRecursion (HasUnit v s.now.trees) (s.now.trees tables.element.tree)
  elements_have_units = kept v sound
    where
      kept : (v : Version) → IsDatabase (record { schema = schema v; trees = s.now.trees })
          → AllByRecursion (HasUnit v s.now.trees) (s.now.trees tables.element.tree)
      kept First it = (it.obeys.rules ForeignKey).1.1.1.1.1.1.1.1.1.0
      kept Second it = (it.obeys.rules ForeignKey).1.1.1.1.1.1.1.1.1.0

  pub housings_have_units : AllByRecursion (HasUnit v s.now.trees) (s.now.trees tables.housing.tree)
  housings_have_units = kept v sound
    where
      kept : (v : Version) → IsDatabase (record { schema = schema v; trees = s.now.trees })
          → AllByRecursion (HasUnit v s.now.trees) (s.now.trees tables.housing.tree)
      kept First it = (it.obeys.rules ForeignKey).1.1.1.1.1.1.1.1.1.1.1.0
      kept Second it = (it.obeys.rules ForeignKey).1.1.1.1.1.1.1.1.1.1.1.0
