-- Each reading gives back the row of which the cells are.
use Rattle.std.proofs.Common.{◌≡◌, ℕ, ℤ, pos, true, false, Bool, List, [], ◌∷◌, None, Some, Option, filter_map, map}
use Rattle.std.proofs.Common.{refl, sym, ap, subst, ◌∙◌, inl, inr, IsUtf8}
use Rattle.sqlite.specs.Values.{or_null}
use Rattle.sqlite.specs.declared.types.Value.TheVariants.{Int, Text}
use Rattle.office_tables.specs.Flags.{flag}
use Rattle.office_tables.specs.RowNumbers.{HasNumbered}
use Rattle.state_encoding.proofs.Common.{ContainerRow, ElementRow, HasRowsInAnyOrder, HoldingRow, HousingRow, In}
use Rattle.state_encoding.proofs.Common.{In-permutation, IsLegibleContainerRow, IsLegibleUnitRow, IsPermutation, Link}
use Rattle.state_encoding.proofs.Common.{OfficeRow, OrderRow, PermitRow, ReaderRow, Row, RunLineRow, RunRow, SeatRow}
use Rattle.state_encoding.proofs.Common.{Span, UnitRow, cons_option, container_cells, element_cells, flag_in, from}
use Rattle.state_encoding.proofs.Common.{has_unread, holding_cells, housing_cells, is_none, link_cells, map-id}
use Rattle.state_encoding.proofs.Common.{number_in, office_cells, option_map, or_from, or_null_in, order_cells}
use Rattle.state_encoding.proofs.Common.{permit_cells, read_container, read_element, read_holding, read_housing}
use Rattle.state_encoding.proofs.Common.{read_link, read_office, read_order, read_permit, read_reader, read_run}
use Rattle.state_encoding.proofs.Common.{read_run_line, read_seat, read_span, read_unit, reader_cells, run_cells}
use Rattle.state_encoding.proofs.Common.{run_line_cells, says_text, seat_cells, span_cells, text_in, unit_cells}
use Rattle.state_encoding.proofs.Common.{whole_in}

-- ---- cells

flag_back : (b : Bool) → flag_in (Int (flag b)) ≡ Some b
flag_back true = refl
flag_back false = refl

day_back : (day : Option ℤ) → or_null_in whole_in (or_null Int day) ≡ Some day
day_back None = refl
day_back (Some day) = refl

number_back : (n : Option ℕ) → or_null_in number_in (or_null Int (option_map pos n)) ≡ Some n
number_back None = refl
number_back (Some n) = refl

-- ---- rows

pub office_back : (row : OfficeRow) → IsUtf8 row.country → IsUtf8 row.repo → read_office (office_cells row) ≡ Some row
office_back row country repo =
    ap (λ o. from o (λ c. from (text_in (Text row.repo)) (λ r. Some (record row { country = c; repo = r })))) (says_text row.country country)
    ∙ ap (λ o. from o (λ r. Some (record row { repo = r }))) (says_text row.repo repo)

pub unit_back : (row : UnitRow) → IsLegibleUnitRow row → read_unit (unit_cells row) ≡ Some row
unit_back row h =
    ap (λ o. from o (λ d. from (or_null_in whole_in (or_null Int row.until)) (λ u. from (text_in (Text row.source)) (λ s. from (text_in (Text row.legacy)) (λ l. from (text_in (Text row.level)) (λ v. Some (record { id = row.id; source = s; legacy = l; level = v; draft = d; until = u }))))))) (flag_back row.draft)
    ∙ (ap (λ o. from o (λ u. from (text_in (Text row.source)) (λ s. from (text_in (Text row.legacy)) (λ l. from (text_in (Text row.level)) (λ v. Some (record row { source = s; legacy = l; level = v; until = u })))))) (day_back row.until)
    ∙ (ap (λ o. from o (λ s. from (text_in (Text row.legacy)) (λ l. from (text_in (Text row.level)) (λ v. Some (record row { source = s; legacy = l; level = v }))))) (says_text row.source h.source)
    ∙ (ap (λ o. from o (λ l. from (text_in (Text row.level)) (λ v. Some (record row { legacy = l; level = v })))) (says_text row.legacy h.legacy)
    ∙ ap (λ o. from o (λ v. Some (record row { level = v }))) (says_text row.level h.level))))

pub element_back : (row : ℤ × ElementRow) → IsUtf8 row.1.value → read_element (element_cells row) ≡ Some row.1
element_back (n, row) h = ap (λ o. from o (λ v. Some (record row { value = v }))) (says_text row.value h)

pub container_back : (row : ContainerRow) → IsLegibleContainerRow row → read_container (container_cells row) ≡ Some row
container_back row h =
    ap (λ o. from o (λ n. from (text_in (Text row.location)) (λ l. from (text_in (Text row.kind)) (λ k. Some (record { id = row.id; name = n; location = l; kind = k }))))) (says_text row.name h.name)
    ∙ (ap (λ o. from o (λ l. from (text_in (Text row.kind)) (λ k. Some (record row { location = l; kind = k })))) (says_text row.location h.location)
    ∙ ap (λ o. from o (λ k. Some (record row { kind = k }))) (says_text row.kind h.kind))

pub housing_back : (row : ℤ × HousingRow) → read_housing (housing_cells row) ≡ Some row.1
housing_back (n, row) = refl

pub link_back : (row : Link) → read_link (link_cells row) ≡ Some row
link_back row = ap (λ o. from o (λ p. Some (record row { parent = p }))) (number_back row.parent)

pub span_back : (row : Span) → read_span (span_cells row) ≡ Some row
span_back row = refl

pub reader_back : (row : ReaderRow) → IsUtf8 row.name → read_reader (reader_cells row) ≡ Some row
reader_back row h = ap (λ o. from o (λ n. Some (record row { name = n }))) (says_text row.name h)

pub seat_back : (row : SeatRow) → read_seat (seat_cells row) ≡ Some row
seat_back row = refl

pub order_back : (row : OrderRow) → read_order (order_cells row) ≡ Some row
order_back row = refl

pub holding_back : (row : HoldingRow) → read_holding (holding_cells row) ≡ Some row
holding_back row = ap (λ o. from o (λ h. Some (record row { held_by = h }))) (number_back row.held_by)

pub run_back : (row : RunRow) → read_run (run_cells row) ≡ Some row
run_back row = refl

pub run_line_back : (row : ℤ × RunLineRow) → read_run_line (run_line_cells row) ≡ Some row.1
run_line_back (n, row) = refl

pub permit_back : (row : ℤ × PermitRow) → read_permit (permit_cells row) ≡ Some row.1
permit_back (n, row) = refl

-- ---- tables

-- no row is unread, and the rows that are read are these, in whatever order
pub record AreRead {R : Type 0} (read : Row → Option R) (there : List Row) (rows : List R) : Type 0 where
  pub all : has_unread read there ≡ false
  pub same : IsPermutation rows (filter_map read there)

module _ {A R : Type 0} (read : Row → Option R) (cells : A → Row) (tell : A → R) (P : R → Type 0) (back : (a : A) → P (tell a) → read (cells a) ≡ Some (tell a)) where
  each_back : (xs : List A) → ((r : R) → In r (map tell xs) → P r) → filter_map read (map cells xs) ≡ map tell xs
  each_back [] h = refl
  each_back (x ∷ xs) h =
      ap (λ o. cons_option o (filter_map read (map cells xs))) (back x (h (tell x) (inl refl)))
      ∙ ap (λ l. tell x ∷ l) (each_back xs (λ r i. h r (inr i)))

  none_unread : (xs : List A) → ((r : R) → In r (map tell xs) → P r) → has_unread read (map cells xs) ≡ false
  none_unread [] h = refl
  none_unread (x ∷ xs) h =
      or_from (is_none (read (cells x))) (has_unread read (map cells xs)) (ap is_none (back x (h (tell x) (inl refl)))) (none_unread xs (λ r i. h r (inr i)))

  all_back : (there : List Row) (rows : List R) (stored : List A) → there ≡ map cells stored
      → IsPermutation rows (map tell stored) → ((r : R) → In r rows → P r) → AreRead read there rows
  all_back there rows stored are same h =
      let every : (r : R) → In r (map tell stored) → P r =
      λ r i. h r (In-permutation rows (map tell stored) r same i) in
      record {
        all = ap (has_unread read) are ∙ none_unread stored every;
        same = subst (IsPermutation rows) (sym (ap (filter_map read) are ∙ each_back stored every)) same;
      }

-- of rows that have a number of their own
pub numbered_read : {R : Type 0} (read : Row → Option R) (cells : ℤ × R → Row) (P : R → Type 0)
    → ((x : ℤ × R) → P x.1 → read (cells x) ≡ Some x.1)
    → (there : List Row) (rows : List R) → HasNumbered cells there rows → ((r : R) → In r rows → P r)
    → AreRead read there rows
numbered_read read cells P back there rows has h =
    all_back read cells (λ x. x.1) P back there rows has.numbered has.are has.tell h

pub keyed_read : {R : Type 0} (read : Row → Option R) (cells : R → Row) (P : R → Type 0)
    → ((x : R) → P x → read (cells x) ≡ Some x)
    → (there : List Row) (rows : List R) → HasRowsInAnyOrder cells there rows → ((r : R) → In r rows → P r)
    → AreRead read there rows
keyed_read read cells P back there rows has h =
    all_back read cells (λ x. x) P back there rows has.stored has.are (subst (IsPermutation rows) (sym (map-id has.stored)) has.tell) h
