-- What it means, table by table, that none of the causes 1 to 9 holds of the rows of tables.
use Rattle.std.proofs.Common.{◌≡◌, Bool, true, false, ◌||◌, [], ◌∷◌, None, refl}
use Rattle.office_tables.specs.Schema as tables
use Rattle.adoption.proofs.Common.{AllByRecursion, OfficeRows, Trees, Version, around, catalogue_cause}
use Rattle.adoption.proofs.Common.{catalogue_cell_cause, cell_cause, containers_are_bad, day_is_broken}
use Rattle.adoption.proofs.Common.{elements_are_bad, encoding, first_held, has_unread, hold_none, holdings_are_bad}
use Rattle.adoption.proofs.Common.{of_desk, office_is_bad, or_parts, orders_are_bad, places_are_bad, places_are_unread}
use Rattle.adoption.proofs.Common.{read_container, read_element, read_holding, read_housing, read_office, read_order}
use Rattle.adoption.proofs.Common.{read_permit, read_reader, read_run, read_run_line, read_seat, read_unit}
use Rattle.adoption.proofs.Common.{readers_are_bad, rows_in, runs_are_bad, units_are_bad, unread}

-- ---- nine of ten tests do not hold

record NoneOfNine (a b c d e f g h i : Bool) : Type 0 where
  one : a ≡ false
  two : b ≡ false
  three : c ≡ false
  four : d ≡ false
  five : e ≡ false
  six : f ≡ false
  seven : g ≡ false
  eight : h ≡ false
  nine : i ≡ false

none_of_nine : (a b c d e f g h i j : Bool) → first_held (a ∷ b ∷ c ∷ d ∷ e ∷ []) ≡ None
    → of_desk (first_held (a ∷ b ∷ c ∷ d ∷ e ∷ f ∷ g ∷ h ∷ i ∷ j ∷ [])) ≡ None → NoneOfNine a b c d e f g h i
none_of_nine true b c d e f g h i j first desk = absurd (cc)
none_of_nine false true c d e f g h i j first desk = absurd (cc)
none_of_nine false false true d e f g h i j first desk = absurd (cc)
none_of_nine false false false true e f g h i j first desk = absurd (cc)
none_of_nine false false false false true f g h i j first desk = absurd (cc)
none_of_nine false false false false false true g h i j first desk = absurd (cc)
none_of_nine false false false false false false true h i j first desk = absurd (cc)
none_of_nine false false false false false false false true i j first desk = absurd (cc)
none_of_nine false false false false false false false false true j first desk = absurd (cc)
none_of_nine false false false false false false false false false j first desk =
    record { one = refl; two = refl; three = refl; four = refl; five = refl; six = refl; seven = refl; eight = refl; nine = refl }

none_of_five : (a b c d e : Bool) → a ≡ false → b ≡ false → c ≡ false → d ≡ false → e ≡ false
    → first_held (a ∷ b ∷ c ∷ d ∷ e ∷ []) ≡ None
none_of_five a b c d e p q r s t =
    hold_none a (b ∷ c ∷ d ∷ e ∷ []) p (hold_none b (c ∷ d ∷ e ∷ []) q (hold_none c (d ∷ e ∷ []) r (hold_none d (e ∷ []) s (hold_none e [] t refl))))

-- ---- of tables

-- all rows of the desk can be read
pub record IsDeskRead (db : Trees) : Type 0 where
  pub readers : has_unread read_reader (db tables.reader.tree) ≡ false
  pub seats : has_unread read_seat (db tables.seat.tree) ≡ false
  pub orders : has_unread read_order (db tables.orders.tree) ≡ false
  pub holdings : has_unread read_holding (db tables.holding.tree) ≡ false
  pub runs : has_unread read_run (db tables.run.tree) ≡ false
  pub run_lines : has_unread read_run_line (db tables.run_line.tree) ≡ false
  pub permits : has_unread read_permit (db tables.permit.tree) ≡ false

pub record ArePassed (version : Version) (db : Trees) : Type 0 where
  pub read : AllByRecursion (λ b. b ≡ false) (unread version db)
  pub catalogue : catalogue_cause version (rows_in version db) ≡ None
  pub desk : IsDeskRead db
  pub readers : readers_are_bad (around (rows_in version db)) (rows_in version db).desk ≡ false
  pub orders : orders_are_bad (around (rows_in version db)) (rows_in version db).desk ≡ false
  pub holdings : holdings_are_bad (around (rows_in version db)) (rows_in version db).desk ≡ false
  pub runs : runs_are_bad (around (rows_in version db)) (rows_in version db).desk ≡ false

module _ (version : Version) (db : Trees) where
  abbrev t : OfficeRows
  t = rows_in version db

  pub are_passed : catalogue_cell_cause version db ≡ None → of_desk (cell_cause version db) ≡ None
      → ArePassed version db
  are_passed first desk =
      let it =
      none_of_nine
      (has_unread read_office (db tables.office.tree) || office_is_bad version t)
      (places_are_unread (encoding version) db || places_are_bad (encoding version) t.catalogue)
      (has_unread read_unit (db tables.unit.tree) || units_are_bad t.office.next_unit t.catalogue)
      (has_unread read_element (db tables.element.tree) || elements_are_bad t.catalogue)
      ((has_unread read_container (db tables.container.tree) || has_unread read_housing (db tables.housing.tree)) || containers_are_bad t.catalogue)
      ((has_unread read_reader (db tables.reader.tree) || (has_unread read_seat (db tables.seat.tree) || has_unread read_permit (db tables.permit.tree))) || readers_are_bad (around t) t.desk)
      (has_unread read_order (db tables.orders.tree) || orders_are_bad (around t) t.desk)
      (has_unread read_holding (db tables.holding.tree) || holdings_are_bad (around t) t.desk)
      ((has_unread read_run (db tables.run.tree) || has_unread read_run_line (db tables.run_line.tree)) || runs_are_bad (around t) t.desk)
      (false || day_is_broken t)
      first desk in
      let office = or_parts (has_unread read_office (db tables.office.tree)) (office_is_bad version t) it.one in
      let places = or_parts (places_are_unread (encoding version) db) (places_are_bad (encoding version) t.catalogue) it.two in
      let units = or_parts (has_unread read_unit (db tables.unit.tree)) (units_are_bad t.office.next_unit t.catalogue) it.three in
      let elements = or_parts (has_unread read_element (db tables.element.tree)) (elements_are_bad t.catalogue) it.four in
      let boxes = or_parts (has_unread read_container (db tables.container.tree) || has_unread read_housing (db tables.housing.tree)) (containers_are_bad t.catalogue) it.five in
      let readers = or_parts (has_unread read_reader (db tables.reader.tree) || (has_unread read_seat (db tables.seat.tree) || has_unread read_permit (db tables.permit.tree))) (readers_are_bad (around t) t.desk) it.six in
      let orders = or_parts (has_unread read_order (db tables.orders.tree)) (orders_are_bad (around t) t.desk) it.seven in
      let holdings = or_parts (has_unread read_holding (db tables.holding.tree)) (holdings_are_bad (around t) t.desk) it.eight in
      let runs = or_parts (has_unread read_run (db tables.run.tree) || has_unread read_run_line (db tables.run_line.tree)) (runs_are_bad (around t) t.desk) it.nine in
      let room = or_parts (has_unread read_reader (db tables.reader.tree)) (has_unread read_seat (db tables.seat.tree) || has_unread read_permit (db tables.permit.tree)) readers.0 in
      let others = or_parts (has_unread read_seat (db tables.seat.tree)) (has_unread read_permit (db tables.permit.tree)) room.1 in
      let brought = or_parts (has_unread read_run (db tables.run.tree)) (has_unread read_run_line (db tables.run_line.tree)) runs.0 in
      record {
        read = (office.0, (places.0, (units.0, (elements.0, (boxes.0, (readers.0, (orders.0, (holdings.0, (runs.0, (refl, tt))))))))));
        catalogue = none_of_five (office_is_bad version t) (places_are_bad (encoding version) t.catalogue) (units_are_bad t.office.next_unit t.catalogue) (elements_are_bad t.catalogue) (containers_are_bad t.catalogue) office.1 places.1 units.1 elements.1 boxes.1;
        desk = record { readers = room.0; seats = others.0; orders = orders.0; holdings = holdings.0; runs = brought.0; run_lines = brought.1; permits = others.1 };
        readers = readers.1;
        orders = orders.1;
        holdings = holdings.1;
        runs = runs.1;
      }
