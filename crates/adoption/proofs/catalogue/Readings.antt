-- A row of the catalogue's tables that has all its cells is the row of what is read of it.
use Rattle.std.proofs.Common.{◌≡◌, ℕ, ℤ, pos, Bool, true, false, Option, Some, None, refl, ap, ◌∙◌}
use Rattle.std.specs.Prelude.{option_map, unwrap_or, nat_eq, cond}
use Rattle.sqlite.specs.Values.{or_null}
use Rattle.office_tables.specs.Flags.{flag}
use Rattle.adoption.proofs.Common.{ContainerRow, ElementRow, HousingRow, Int, OfficeRow, Row, Text, UnitRow, Value}
use Rattle.adoption.proofs.Common.{column, container_cells, element_cells, eqb-true, flag_in, from_first, housing_cells}
use Rattle.adoption.proofs.Common.{is_flag, is_number, is_or_null, is_text, is_whole, number_in, office_cells}
use Rattle.adoption.proofs.Common.{or_null_in, read_container, read_element, read_housing, read_office, read_unit}
use Rattle.adoption.proofs.Common.{text_in, unit_cells, whole_in, whole_row}
use Rattle.adoption.proofs.catalogue.Rules.{IsKeyed, IsNumbered}

same_day : (o : Option ℤ) → option_map (λ (n : ℤ). n) o ≡ o
same_day None = refl
same_day (Some n) = refl

is_day : (v : Value) (o : Option ℤ) → or_null_in whole_in v ≡ Some o → v ≡ or_null Int o
is_day v o h = is_or_null whole_in (λ (n : ℤ). n) is_whole v o h ∙ ap (or_null Int) (same_day o)

-- ---- units

pub record UnitCells (row : Row) (u : UnitRow) : Type 0 where
  pub id : column row 0 ≡ Int (pos u.id)
  pub source : column row 2 ≡ Text u.source
  pub legacy : column row 3 ≡ Text u.legacy
  pub level : column row 4 ≡ Text u.level
  pub draft : column row 6 ≡ Int (flag u.draft)
  pub until : column row 5 ≡ or_null Int u.until

pub unit_parts : (row : Row) (u : UnitRow) → read_unit row ≡ Some u → UnitCells row u
unit_parts row u h =
    let a = from_first (number_in (column row 0)) _ u h in
    let b = from_first (flag_in (column row 6)) _ u a.2 in
    let c = from_first (or_null_in whole_in (column row 5)) _ u b.2 in
    let d = from_first (text_in (column row 2)) _ u c.2 in
    let e = from_first (text_in (column row 3)) _ u d.2 in
    let f = from_first (text_in (column row 4)) _ u e.2 in
    let made : record { id = a.0; source = d.0; legacy = e.0; level = f.0; draft = b.0; until = c.0 } ≡ u =
    ap (λ (o : Option UnitRow). unwrap_or o u) f.2 in
    record {
      id = is_number (column row 0) a.0 a.1 ∙ ap (λ (x : UnitRow). Int (pos x.id)) made;
      source = is_text (column row 2) d.0 d.1 ∙ ap (λ (x : UnitRow). Text x.source) made;
      legacy = is_text (column row 3) e.0 e.1 ∙ ap (λ (x : UnitRow). Text x.legacy) made;
      level = is_text (column row 4) f.0 f.1 ∙ ap (λ (x : UnitRow). Text x.level) made;
      draft = is_flag (column row 6) b.0 b.1 ∙ ap (λ (x : UnitRow). Int (flag x.draft)) made;
      until = is_day (column row 5) c.0 c.1 ∙ ap (λ (x : UnitRow). or_null Int x.until) made;
    }

pub is_unit : (row : Row) (u : UnitRow) → read_unit row ≡ Some u → IsKeyed 7 row → row ≡ unit_cells u
is_unit row u h fit =
    let it = unit_parts row u h in
    whole_row 7 row fit.0 ∙ rw (it.id, fit.1, it.source, it.legacy, it.level, it.draft, it.until) refl

-- ---- elements

pub record ElementCells (row : Row) (e : ElementRow) : Type 0 where
  pub unit : column row 1 ≡ Int (pos e.unit)
  pub k : column row 2 ≡ Int (pos e.k)
  pub value : column row 3 ≡ Text e.value

pub element_parts : (row : Row) (e : ElementRow) → read_element row ≡ Some e → ElementCells row e
element_parts row e h =
    let a = from_first (number_in (column row 1)) _ e h in
    let b = from_first (number_in (column row 2)) _ e a.2 in
    let c = from_first (text_in (column row 3)) _ e b.2 in
    let made : record { unit = a.0; k = b.0; value = c.0 } ≡ e = ap (λ (o : Option ElementRow). unwrap_or o e) c.2 in
    record {
      unit = is_number (column row 1) a.0 a.1 ∙ ap (λ (x : ElementRow). Int (pos x.unit)) made;
      k = is_number (column row 2) b.0 b.1 ∙ ap (λ (x : ElementRow). Int (pos x.k)) made;
      value = is_text (column row 3) c.0 c.1 ∙ ap (λ (x : ElementRow). Text x.value) made;
    }

pub is_element : (row : Row) (e : ElementRow) (n : ℤ) → read_element row ≡ Some e → column row 0 ≡ Int n
    → IsNumbered 4 row → row ≡ element_cells (n, e)
is_element row e n h number fit =
    let it = element_parts row e h in
    whole_row 4 row fit.0 ∙ rw (number, it.unit, it.k, it.value) refl

-- ---- containers

pub record ContainerCells (row : Row) (c : ContainerRow) : Type 0 where
  pub id : column row 0 ≡ Int (pos c.id)
  pub name : column row 2 ≡ Text c.name
  pub location : column row 3 ≡ Text c.location
  pub kind : column row 4 ≡ Text c.kind

pub container_parts : (row : Row) (c : ContainerRow) → read_container row ≡ Some c → ContainerCells row c
container_parts row c h =
    let a = from_first (number_in (column row 0)) _ c h in
    let b = from_first (text_in (column row 2)) _ c a.2 in
    let d = from_first (text_in (column row 3)) _ c b.2 in
    let e = from_first (text_in (column row 4)) _ c d.2 in
    let made : record { id = a.0; name = b.0; location = d.0; kind = e.0 } ≡ c =
    ap (λ (o : Option ContainerRow). unwrap_or o c) e.2 in
    record {
      id = is_number (column row 0) a.0 a.1 ∙ ap (λ (x : ContainerRow). Int (pos x.id)) made;
      name = is_text (column row 2) b.0 b.1 ∙ ap (λ (x : ContainerRow). Text x.name) made;
      location = is_text (column row 3) d.0 d.1 ∙ ap (λ (x : ContainerRow). Text x.location) made;
      kind = is_text (column row 4) e.0 e.1 ∙ ap (λ (x : ContainerRow). Text x.kind) made;
    }

pub is_container : (row : Row) (c : ContainerRow) → read_container row ≡ Some c → IsKeyed 5 row
    → row ≡ container_cells c
is_container row c h fit =
    let it = container_parts row c h in
    whole_row 5 row fit.0 ∙ rw (it.id, fit.1, it.name, it.location, it.kind) refl

-- ---- what lies in them

pub record HousingCells (row : Row) (l : HousingRow) : Type 0 where
  pub unit : column row 1 ≡ Int (pos l.unit)
  pub ord : column row 2 ≡ Int (pos l.ord)
  pub container : column row 3 ≡ Int (pos l.container)

pub housing_parts : (row : Row) (l : HousingRow) → read_housing row ≡ Some l → HousingCells row l
housing_parts row l h =
    let a = from_first (number_in (column row 1)) _ l h in
    let b = from_first (number_in (column row 2)) _ l a.2 in
    let c = from_first (number_in (column row 3)) _ l b.2 in
    let made : record { unit = a.0; ord = b.0; container = c.0 } ≡ l =
    ap (λ (o : Option HousingRow). unwrap_or o l) c.2 in
    record {
      unit = is_number (column row 1) a.0 a.1 ∙ ap (λ (x : HousingRow). Int (pos x.unit)) made;
      ord = is_number (column row 2) b.0 b.1 ∙ ap (λ (x : HousingRow). Int (pos x.ord)) made;
      container = is_number (column row 3) c.0 c.1 ∙ ap (λ (x : HousingRow). Int (pos x.container)) made;
    }

pub is_housing : (row : Row) (l : HousingRow) (n : ℤ) → read_housing row ≡ Some l → column row 0 ≡ Int n
    → IsNumbered 4 row → row ≡ housing_cells (n, l)
is_housing row l n h number fit =
    let it = housing_parts row l h in
    whole_row 4 row fit.0 ∙ rw (number, it.unit, it.ord, it.container) refl

-- ---- the office

pub record OfficeCells (row : Row) (o : OfficeRow) : Type 0 where
  pub one : column row 0 ≡ Int (pos 1)
  pub version : column row 2 ≡ Int (pos o.version)
  pub country : column row 3 ≡ Text o.country
  pub repo : column row 4 ≡ Text o.repo
  pub seats : column row 5 ≡ Int (pos o.seats)
  pub daily : column row 6 ≡ Int (pos o.daily)
  pub hands : column row 7 ≡ Int (pos o.hands)
  pub run_size : column row 8 ≡ Int (pos o.run_size)
  pub day : column row 9 ≡ Int o.day
  pub next_unit : column row 10 ≡ Int (pos o.next_unit)

one_is : (n m : ℕ) (b : Bool) → nat_eq n 1 ≡ b → cond b (Some n) None ≡ Some m → n ≡ 1
one_is n m true is h = eqb-true n 1 is
one_is n m false is h = absurd cc

pub office_parts : (row : Row) (o : OfficeRow) → read_office row ≡ Some o → OfficeCells row o
office_parts row o h =
    let one = from_first (number_in (column row 0)) _ o h in
    let is_one = from_first (cond (nat_eq one.0 1) (Some one.0) None) _ o one.2 in
    let version = from_first (number_in (column row 2)) _ o is_one.2 in
    let seats = from_first (number_in (column row 5)) _ o version.2 in
    let daily = from_first (number_in (column row 6)) _ o seats.2 in
    let hands = from_first (number_in (column row 7)) _ o daily.2 in
    let run_size = from_first (number_in (column row 8)) _ o hands.2 in
    let day = from_first (whole_in (column row 9)) _ o run_size.2 in
    let next = from_first (number_in (column row 10)) _ o day.2 in
    let country = from_first (text_in (column row 3)) _ o next.2 in
    let repo = from_first (text_in (column row 4)) _ o country.2 in
    let made : record { version = version.0; country = country.0; repo = repo.0; seats = seats.0; daily = daily.0; hands = hands.0; run_size = run_size.0; day = day.0; next_unit = next.0 } ≡ o =
    ap (λ (x : Option OfficeRow). unwrap_or x o) repo.2 in
    record {
      one = is_number (column row 0) one.0 one.1 ∙ ap (λ n. Int (pos n)) (one_is one.0 is_one.0 (nat_eq one.0 1) refl is_one.1);
      version = is_number (column row 2) version.0 version.1 ∙ ap (λ (x : OfficeRow). Int (pos x.version)) made;
      country = is_text (column row 3) country.0 country.1 ∙ ap (λ (x : OfficeRow). Text x.country) made;
      repo = is_text (column row 4) repo.0 repo.1 ∙ ap (λ (x : OfficeRow). Text x.repo) made;
      seats = is_number (column row 5) seats.0 seats.1 ∙ ap (λ (x : OfficeRow). Int (pos x.seats)) made;
      daily = is_number (column row 6) daily.0 daily.1 ∙ ap (λ (x : OfficeRow). Int (pos x.daily)) made;
      hands = is_number (column row 7) hands.0 hands.1 ∙ ap (λ (x : OfficeRow). Int (pos x.hands)) made;
      run_size = is_number (column row 8) run_size.0 run_size.1 ∙ ap (λ (x : OfficeRow). Int (pos x.run_size)) made;
      day = is_whole (column row 9) day.0 day.1 ∙ ap (λ (x : OfficeRow). Int x.day) made;
      next_unit = is_number (column row 10) next.0 next.1 ∙ ap (λ (x : OfficeRow). Int (pos x.next_unit)) made;
    }

pub is_office : (row : Row) (o : OfficeRow) → read_office row ≡ Some o → IsKeyed 11 row → row ≡ office_cells o
is_office row o h fit =
    let it = office_parts row o h in
    whole_row 11 row fit.0 ∙ rw (it.one, fit.1, it.version, it.country, it.repo)
    (rw (it.seats, it.daily, it.hands, it.run_size, it.day, it.next_unit) refl)
