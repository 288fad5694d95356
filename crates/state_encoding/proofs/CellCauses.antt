-- Tables without a cause, told of their cells.
use Rattle.std.proofs.Common.{◌≡◌, true, false, Bool, List, [], ◌∷◌, ◌++◌, length, None, Some, Option, filter_map}
use Rattle.std.proofs.Common.{if◌then◌else◌, refl, ap, subst, ◌||◌, IsUtf8, arith, unwrap_or, cond, nat_eq}
use Rattle.std.proofs.lemmas.Str.{IsUtf8-nil}
use Rattle.desk_core.specs.Orders.{in_order}
use Rattle.office_tables.specs.Schema as tables
use Rattle.state_encoding.specs.CellCauses.{rows_in, unread, either_of, no_office}
use Rattle.state_encoding.proofs.Common.{AllByRecursion, AreLegibleRows, CellsDescribeASoundState, CellsHaveNoCause}
use Rattle.state_encoding.proofs.Common.{ContainerRow, ElementRow, IsLegibleContainerRow, IsLegibleUnitRow, OfficeRow}
use Rattle.state_encoding.proofs.Common.{ReaderRow, Row, Trees, UnitRow, Version, all_read, catalogue_tests, column}
use Rattle.state_encoding.proofs.Common.{desk_tests, first, first_held, flag_in, from_first, is_text, number_in}
use Rattle.state_encoding.proofs.Common.{or_null_in, or_parts, put_in_order, read_container, read_element, read_office}
use Rattle.state_encoding.proofs.Common.{read_reader, read_unit, text_in, whole_in}
use Rattle.state_encoding.proofs.Judging.{none_held, hold_none}
use Rattle.state_encoding.proofs.JudgedWhole.{rows_are_said}
use Rattle.state_encoding.proofs.DeskSound.{desk_sound}
use Rattle.state_encoding.proofs.SaidTexts.{texts_said}

-- ---- nothing is unread, and the rows that are read have no cause

either_none : (us ts : List Bool) → length us ≡ length ts → first_held (either_of us ts) ≡ None
    → (first_held us ≡ None) × (first_held ts ≡ None)
either_none [] [] same h = (refl, refl)
either_none [] (t ∷ ts) same h = absurd (omega (arith, same))
either_none (u ∷ us) [] same h = absurd (omega (arith, same))
either_none (u ∷ us) (t ∷ ts) same h =
    let here = none_held (u || t) (either_of us ts) h in
    let parts = or_parts u t here.0 in
    let more = either_none us ts (omega (arith, same)) here.1 in
    (hold_none u us parts.0 more.0, hold_none t ts parts.1 more.1)

pub none_by_cells : (version : Version) (db : Trees) → CellsHaveNoCause version db
none_by_cells version db h =
    let both = either_none (unread version db) (catalogue_tests version (rows_in version db) ++ desk_tests (rows_in version db)) refl h in
    record { read = both.0; rows = both.1 }

-- ---- the texts of rows that can be read are UTF-8

all_put : {X : Type 0} (P : X → Type 0) (before : X → X → Bool) (x : X) (ys : List X) → P x → AllByRecursion P ys
    → AllByRecursion P (put_in_order before x ys)
all_put P before x [] p all = (p, tt)
all_put P before x (y ∷ ys) p all =
    elim (before y x) as (λ b. AllByRecursion P (if b then y ∷ put_in_order before x ys else x ∷ y ∷ ys)) [
      | true ↦ (all.0, all_put P before x ys p all.1)
      | false ↦ (p, all)
    ]

all_ordered : {X : Type 0} (P : X → Type 0) (before : X → X → Bool) (xs : List X) → AllByRecursion P xs
    → AllByRecursion P (in_order before xs)
all_ordered P before [] all = tt
all_ordered P before (x ∷ xs) all = all_put P before x (in_order before xs) all.0 (all_ordered P before xs all.1)

legible_unit : (row : Row) (x : UnitRow) → read_unit row ≡ Some x → IsLegibleUnitRow x
legible_unit row x h =
    let a = from_first (number_in (column row 0)) _ x h in
    let b = from_first (flag_in (column row 6)) _ x a.2 in
    let c = from_first (or_null_in whole_in (column row 5)) _ x b.2 in
    let d = from_first (text_in (column row 2)) _ x c.2 in
    let e = from_first (text_in (column row 3)) _ x d.2 in
    let f = from_first (text_in (column row 4)) _ x e.2 in
    let made : Option UnitRow → UnitRow = λ o. unwrap_or o x in
    record {
      source = subst IsUtf8 (ap (λ o. (made o).source) f.2) (is_text (column row 2) d.0 d.1);
      legacy = subst IsUtf8 (ap (λ o. (made o).legacy) f.2) (is_text (column row 3) e.0 e.1);
      level = subst IsUtf8 (ap (λ o. (made o).level) f.2) (is_text (column row 4) f.0 f.1);
    }

legible_element : (row : Row) (x : ElementRow) → read_element row ≡ Some x → IsUtf8 x.value
legible_element row x h =
    let a = from_first (number_in (column row 1)) _ x h in
    let b = from_first (number_in (column row 2)) _ x a.2 in
    let c = from_first (text_in (column row 3)) _ x b.2 in
    subst IsUtf8 (ap (λ (o : Option ElementRow). (unwrap_or o x).value) c.2) (is_text (column row 3) c.0 c.1)

legible_container : (row : Row) (x : ContainerRow) → read_container row ≡ Some x → IsLegibleContainerRow x
legible_container row x h =
    let a = from_first (number_in (column row 0)) _ x h in
    let b = from_first (text_in (column row 2)) _ x a.2 in
    let c = from_first (text_in (column row 3)) _ x b.2 in
    let d = from_first (text_in (column row 4)) _ x c.2 in
    record {
      name = subst IsUtf8 (ap (λ (o : Option ContainerRow). (unwrap_or o x).name) d.2) (is_text (column row 2) b.0 b.1);
      location = subst IsUtf8 (ap (λ (o : Option ContainerRow). (unwrap_or o x).location) d.2) (is_text (column row 3) c.0 c.1);
      kind = subst IsUtf8 (ap (λ (o : Option ContainerRow). (unwrap_or o x).kind) d.2) (is_text (column row 4) d.0 d.1);
    }

legible_reader : (row : Row) (x : ReaderRow) → read_reader row ≡ Some x → IsUtf8 x.name
legible_reader row x h =
    let a = from_first (number_in (column row 0)) _ x h in
    let b = from_first (whole_in (column row 3)) _ x a.2 in
    let c = from_first (text_in (column row 2)) _ x b.2 in
    subst IsUtf8 (ap (λ (o : Option ReaderRow). (unwrap_or o x).name) c.2) (is_text (column row 2) c.0 c.1)

abbrev AreLegibleSettings : OfficeRow → Type 0
AreLegibleSettings o = IsUtf8 o.country × IsUtf8 o.repo

legible_office : (row : Row) (x : OfficeRow) → read_office row ≡ Some x → AreLegibleSettings x
legible_office row x h =
    let one = from_first (number_in (column row 0)) _ x h in
    let is_one = from_first (cond (nat_eq one.0 1) (Some one.0) None) _ x one.2 in
    let version = from_first (number_in (column row 2)) _ x is_one.2 in
    let seats = from_first (number_in (column row 5)) _ x version.2 in
    let daily = from_first (number_in (column row 6)) _ x seats.2 in
    let hands = from_first (number_in (column row 7)) _ x daily.2 in
    let run_size = from_first (number_in (column row 8)) _ x hands.2 in
    let day = from_first (whole_in (column row 9)) _ x run_size.2 in
    let next = from_first (number_in (column row 10)) _ x day.2 in
    let country = from_first (text_in (column row 3)) _ x next.2 in
    let repo = from_first (text_in (column row 4)) _ x country.2 in
    let made : Option OfficeRow → OfficeRow = λ o. unwrap_or o x in (
      subst IsUtf8 (ap (λ o. (made o).country) repo.2) (is_text (column row 3) country.0 country.1),
      subst IsUtf8 (ap (λ o. (made o).repo) repo.2) (is_text (column row 4) repo.0 repo.1),
    )

legible_first : (rows : List OfficeRow) → AllByRecursion AreLegibleSettings rows
    → AreLegibleSettings (unwrap_or (first rows) no_office)
legible_first [] all = (IsUtf8-nil, IsUtf8-nil)
legible_first (row ∷ rows) all = all.0

pub legible_rows : (version : Version) (db : Trees) → AreLegibleRows (rows_in version db)
legible_rows version db =
    let settings = legible_first (filter_map read_office (db tables.office.tree)) (all_read read_office AreLegibleSettings legible_office (db tables.office.tree)) in
    record {
      country = settings.0;
      repo = settings.1;
      units = all_ordered IsLegibleUnitRow _ _ (all_read read_unit IsLegibleUnitRow legible_unit (db tables.unit.tree));
      elements = all_ordered (λ (x : ElementRow). IsUtf8 x.value) _ _ (all_read read_element (λ (x : ElementRow). IsUtf8 x.value) legible_element (db tables.element.tree));
      containers = all_ordered IsLegibleContainerRow _ _ (all_read read_container IsLegibleContainerRow legible_container (db tables.container.tree));
      readers = all_ordered (λ (x : ReaderRow). IsUtf8 x.name) _ _ (all_read read_reader (λ (x : ReaderRow). IsUtf8 x.name) legible_reader (db tables.reader.tree));
    }

-- ---- tables without a cause

pub cells_are_said : (version : Version) (db : Trees) → CellsDescribeASoundState version db
cells_are_said version db keys h =
    let said = rows_are_said version (rows_in version db) (desk_sound version (rows_in version db)) keys (none_by_cells version db h).rows in
    record {
      sound = record { sound = said.0; texts = texts_said (rows_in version db) (legible_rows version db) };
      tables = said.1;
      legible = legible_rows version db;
    }
