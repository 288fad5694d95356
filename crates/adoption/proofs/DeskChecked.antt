-- The check of the desk's tables tells what the list of causes does.
use Rattle.std.proofs.Common.{◌≡◌, ℕ, ℤ, List, [], ◌∷◌, Bool, true, false, cond, ◌||◌, nat_eq, Option, Some, None}
use Rattle.std.proofs.Common.{is_none, filter_map, option_map, refl, sym, ap, ap₂, ◌∙◌}
use Rattle.std.specs.Cmp.{both_ways}
use Rattle.desk_core.specs.declared.reader.Limits.{Limits}
use Rattle.office_tables.proofs.ByNumber.{any_ordered}
use Rattle.office_tables.specs.Schema as tables
use Rattle.row_decoding.specs.Readings.{read_number}
use Rattle.integrity_checks.specs.DeskChecks.{around_in, is_numbered, cause_of, registration_is_defective}
use Rattle.integrity_checks.specs.DeskChecks.{orders_are_defective, holdings_are_defective, runs_are_defective}
use Rattle.integrity_checks.specs.DeskChecks.{defect_of_desk}
use Rattle.integrity_checks.specs.declared.desk_defect.DeskDefect.TheVariants.{Readers, Orders, Holdings, Runs}
use Rattle.adoption.proofs.Common.{Around, ContainerRow, DeskChecksTellTheCause, OfficeRows, Row, Trees, UnitRow}
use Rattle.adoption.proofs.Common.{Version, around, by, column, cons_option, containers_are_bad, day_is_broken}
use Rattle.adoption.proofs.Common.{elements_are_bad, encoding, eq-eqb, eqb-true, first_held, flag_in, from_first}
use Rattle.adoption.proofs.Common.{has_unread, in_order, list_any, none_held, number_in, of_desk, office_is_bad}
use Rattle.adoption.proofs.Common.{or_null_in, or_parts, places_are_bad, places_are_unread, read_container}
use Rattle.adoption.proofs.Common.{read_element, read_housing, read_office, read_unit, rows_in, text_in, units_are_bad}
use Rattle.adoption.proofs.Common.{whole_in}

-- ---- which units and containers there are

same_back : (a b : ℕ) → nat_eq a b ≡ nat_eq b a
same_back a b = both_ways (nat_eq a b) (nat_eq b a) (λ h. eq-eqb b a (sym (eqb-true a b h))) (λ h. eq-eqb a b (sym (eqb-true b a h)))

module _ {X : Type 0} (read : Row → Option X) (id : X → ℕ) (keyed : (row : Row) (x : X) → read row ≡ Some x → read_number row ≡ Some (id x)) where
  met : (n : ℕ) (rows : List Row) → has_unread read rows ≡ false
      → is_numbered rows n ≡ list_any (λ x. nat_eq (id x) n) (filter_map read rows)
  met n [] none = refl
  met n (row ∷ rows) none =
      let parts = or_parts (is_none (read row)) (has_unread read rows) none in
      at (met n rows parts.1) (read row) refl parts.0
    where
      at : is_numbered rows n ≡ list_any (λ x. nat_eq (id x) n) (filter_map read rows) → (o : Option X) → read row ≡ o
          → is_none o ≡ false
          → is_numbered (row ∷ rows) n ≡ list_any (λ x. nat_eq (id x) n) (cons_option o (filter_map read rows))
      at more None is h = absurd (let clash : true ≡ false = h in cc)
      at more (Some x) is h = ap (λ (o : Option ℕ). list_any (nat_eq n) (cons_option o (filter_map read_number rows))) (keyed row x is) ∙ ap₂ ◌||◌ (same_back n (id x)) more

  pub are_met : (table : List Row) → has_unread read table ≡ false → (n : ℕ) → (before : X → X → Bool)
      → is_numbered table n ≡ list_any (λ x. nat_eq (id x) n) (in_order before (filter_map read table))
  are_met table none n before =
      met n table none ∙ sym (any_ordered id (λ x. nat_eq (id x) n) before (filter_map read table))

unit_keyed : (row : Row) (x : UnitRow) → read_unit row ≡ Some x → read_number row ≡ Some x.id
unit_keyed row x h =
    let a = from_first (number_in (column row 0)) _ x h in
    let b = from_first (flag_in (column row 6)) _ x a.2 in
    let c = from_first (or_null_in whole_in (column row 5)) _ x b.2 in
    let d = from_first (text_in (column row 2)) _ x c.2 in
    let e = from_first (text_in (column row 3)) _ x d.2 in
    let f = from_first (text_in (column row 4)) _ x e.2 in
    let made : a.0 ≡ x.id = ap (λ (o : Option UnitRow). id_or o) f.2 in
    a.1 ∙ ap Some made
  where
    id_or : Option UnitRow → ℕ
    id_or None = 0
    id_or (Some unit) = unit.id

container_keyed : (row : Row) (x : ContainerRow) → read_container row ≡ Some x → read_number row ≡ Some x.id
container_keyed row x h =
    let a = from_first (number_in (column row 0)) _ x h in
    let b = from_first (text_in (column row 2)) _ x a.2 in
    let c = from_first (text_in (column row 3)) _ x b.2 in
    let d = from_first (text_in (column row 4)) _ x c.2 in
    let made : a.0 ≡ x.id = ap (λ (o : Option ContainerRow). id_or o) d.2 in
    a.1 ∙ ap Some made
  where
    id_or : Option ContainerRow → ℕ
    id_or None = 0
    id_or (Some container) = container.id

-- ---- the first that holds

found : (b6 b7 b8 b9 b10 : Bool)
    → option_map cause_of (cond b6 (Some Readers) (cond b7 (Some Orders) (cond b8 (Some Holdings) (cond b9 (Some Runs) None))))
    ≡ of_desk (first_held (false ∷ false ∷ false ∷ false ∷ false ∷ b6 ∷ b7 ∷ b8 ∷ b9 ∷ b10 ∷ []))
found true b7 b8 b9 b10 = refl
found false true b8 b9 b10 = refl
found false false true b9 b10 = refl
found false false false true b10 = refl
found false false false false true = refl
found false false false false false = refl

found_behind : (b1 b2 b3 b4 b5 b6 b7 b8 b9 b10 : Bool) → b1 ≡ false → b2 ≡ false → b3 ≡ false → b4 ≡ false → b5 ≡ false
    → option_map cause_of (cond b6 (Some Readers) (cond b7 (Some Orders) (cond b8 (Some Holdings) (cond b9 (Some Runs) None))))
    ≡ of_desk (first_held (b1 ∷ b2 ∷ b3 ∷ b4 ∷ b5 ∷ b6 ∷ b7 ∷ b8 ∷ b9 ∷ b10 ∷ []))
found_behind b1 b2 b3 b4 b5 b6 b7 b8 b9 b10 n1 n2 n3 n4 n5 =
    found b6 b7 b8 b9 b10 ∙ sym (λ i. of_desk (first_held (n1 i ∷ n2 i ∷ n3 i ∷ n4 i ∷ n5 i ∷ b6 ∷ b7 ∷ b8 ∷ b9 ∷ b10 ∷ [])))

-- ---- the check

module _ (version : Version) (db : Trees) where
  abbrev t : OfficeRows
  t = rows_in version db

  abbrev b1 : Bool
  b1 = has_unread read_office (db tables.office.tree) || office_is_bad version t

  abbrev b2 : Bool
  b2 = places_are_unread (encoding version) db || places_are_bad (encoding version) t.catalogue

  abbrev b3 : Bool
  b3 = has_unread read_unit (db tables.unit.tree) || units_are_bad t.office.next_unit t.catalogue

  abbrev b4 : Bool
  b4 = has_unread read_element (db tables.element.tree) || elements_are_bad t.catalogue

  abbrev b5 : Bool
  b5 = (has_unread read_container (db tables.container.tree) || has_unread read_housing (db tables.housing.tree)) || containers_are_bad t.catalogue

  pub told_alike : (limits : Limits) (today : ℤ) → DeskChecksTellTheCause version db limits today
  told_alike limits today held none =
      let one = none_held b1 (b2 ∷ b3 ∷ b4 ∷ b5 ∷ []) none in
      let two = none_held b2 (b3 ∷ b4 ∷ b5 ∷ []) one.1 in
      let three = none_held b3 (b4 ∷ b5 ∷ []) two.1 in
      let four = none_held b4 (b5 ∷ []) three.1 in
      let five = none_held b5 [] four.1 in
      let units_read = (or_parts (has_unread read_unit (db tables.unit.tree)) (units_are_bad t.office.next_unit t.catalogue) three.0).0 in
      let boxes = (or_parts (has_unread read_container (db tables.container.tree) || has_unread read_housing (db tables.housing.tree)) (containers_are_bad t.catalogue) five.0).0 in
      let boxes_read = (or_parts (has_unread read_container (db tables.container.tree)) (has_unread read_housing (db tables.housing.tree)) boxes).0 in
      let is_unit = λ (n : ℕ). are_met read_unit (λ (row : UnitRow). row.id) unit_keyed (db tables.unit.tree) units_read n (by (λ (row : UnitRow). row.id)) in
      let is_container = λ (n : ℕ). are_met read_container (λ (row : ContainerRow). row.id) container_keyed (db tables.container.tree) boxes_read n (by (λ (row : ContainerRow). row.id)) in
      let same : around_in limits today db ≡ around t =
      λ i. record { seats = held.seats i; daily = held.daily i; run_size = held.run_size i; day = held.day i; is_unit = λ n. is_unit n i; is_container = λ n. is_container n i } in
      ap (λ (a : Around). option_map cause_of (defect_of_desk a db)) same
      ∙ found_behind b1 b2 b3 b4 b5 (registration_is_defective (around t) db) (orders_are_defective (around t) db) (holdings_are_defective (around t) db) (runs_are_defective (around t) db) (day_is_broken t)
      one.0 two.0 three.0 four.0 five.0
