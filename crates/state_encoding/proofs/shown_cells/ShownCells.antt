-- Tables that show a sound office: all is read, there is no cause, and they say the office.
use Rattle.std.proofs.Common.{◌≡◌, Bool, false, List, [], ◌∷◌, ◌++◌, None, refl, sym, ap, ◌∙◌, subst, nat_eq, ◌||◌}
use Rattle.std.proofs.Common.{unwrap_or, IsUtf8}
use Rattle.std.specs.List.{IsDistinct}
use Rattle.std.specs.Prelude.{filter_map}
use Rattle.desk_core.proofs.OrderLemmas.{in_order-permutation}
use Rattle.desk_core.specs.DeskRows.{Desk}
use Rattle.desk_core.specs.Orders.{in_order}
use Rattle.office_tables.specs.Schema as tables
use Rattle.state_encoding.specs.CellCauses.{rows_in, unread, either_of, no_office}
use Rattle.state_encoding.specs.OfficeRows.{tables as tables_of}
use Rattle.state_encoding.proofs.Common.{AreLegibleRows, ContainerRow, ElementRow, HasTables, HoldingRow}
use Rattle.state_encoding.proofs.Common.{IsLegibleContainerRow, IsLegibleUnitRow, IsPermutation, IsPermutation-trans}
use Rattle.state_encoding.proofs.Common.{IsRead, IsSoundOffice, MeetsDeskKeys, OfficeRows, OrderRow, PermitRow}
use Rattle.state_encoding.proofs.Common.{ReaderRow, RunLineRow, RunRow, SeatRow, SoundOfficesAreRead}
use Rattle.state_encoding.proofs.Common.{SoundOfficesAreTold, State, TablesDescribe, Trees, Version, and_parts}
use Rattle.state_encoding.proofs.Common.{catalogue_tests, cause, cons_option, container_cells, desk_tests, each}
use Rattle.state_encoding.proofs.Common.{element_cells, encoding, first, first_held, has_unread, holding_cells}
use Rattle.state_encoding.proofs.Common.{housing_cells, is_none, nodes-each, office_cells, or_from, order_cells}
use Rattle.state_encoding.proofs.Common.{permit_cells, read_container, read_element, read_holding, read_housing}
use Rattle.state_encoding.proofs.Common.{read_office, read_order, read_permit, read_reader, read_run, read_run_line}
use Rattle.state_encoding.proofs.Common.{read_seat, read_unit, reader_cells, run_cells, run_line_cells, seat_cells}
use Rattle.state_encoding.proofs.Common.{state_of, unit_cells, unit_number, ⊤}
use Rattle.state_encoding.proofs.DeskPasses.{desk_passes}
use Rattle.state_encoding.proofs.JudgedWhole.{tables_are_shown, sound_catalogue}
use Rattle.state_encoding.proofs.Judging.{none_held, hold_none}
use Rattle.state_encoding.proofs.NumberedRows.{in_order as numbered_in_order}
use Rattle.state_encoding.proofs.RowsByNumber.{each_in}
use Rattle.state_encoding.proofs.ShownElements.{containers_shown}
use Rattle.state_encoding.proofs.ShownUnits.{units_shown}
use Rattle.state_encoding.proofs.Whole.{says_the_state}
use Rattle.state_encoding.proofs.shown_cells.KeyOrder.{by_again, then_by_again}
use Rattle.state_encoding.proofs.shown_cells.LegibleTables.{tables_legible}
use Rattle.state_encoding.proofs.shown_cells.OtherOrders.{IsReordered, keys_too}
use Rattle.state_encoding.proofs.shown_cells.OtherRows.{state_too, no_cause_too}
use Rattle.state_encoding.proofs.shown_cells.ReadCells.{AreRead, keyed_read, numbered_read, office_back, unit_back}
use Rattle.state_encoding.proofs.shown_cells.ReadCells.{element_back, container_back, housing_back, reader_back}
use Rattle.state_encoding.proofs.shown_cells.ReadCells.{seat_back, order_back, holding_back, run_back, run_line_back}
use Rattle.state_encoding.proofs.shown_cells.ReadCells.{permit_back}
use Rattle.state_encoding.proofs.shown_cells.ReadPlaces.{ArePlacesRead, places_read}

either_too : (us ts : List Bool) → first_held us ≡ None → first_held ts ≡ None → first_held (either_of us ts) ≡ None
either_too [] [] h k = refl
either_too [] (t ∷ ts) h k = refl
either_too (u ∷ us) [] h k = refl
either_too (u ∷ us) (t ∷ ts) h k =
    let a = none_held u us h in
    let b = none_held t ts k in
    hold_none (u || t) (either_of us ts) (or_from u t a.0 b.0) (either_too us ts a.1 b.1)

ordered_too : {R : Type 0} (before : R → R → Bool) (rows xs : List R) → IsPermutation rows xs
    → IsPermutation rows (in_order before xs)
ordered_too before rows xs same = IsPermutation-trans rows xs (in_order before xs) same (in_order-permutation before xs)

module _ (version : Version) (db : Trees) (s : State) (has : HasTables db (tables_of version s)) (g : IsSoundOffice s) where
  abbrev t : OfficeRows
  t = tables_of version s

  texts : AreLegibleRows t
  texts = tables_legible version s g.texts

  keys : MeetsDeskKeys t.desk
  keys = (tables_are_shown version s (desk_passes version s) g.sound).0.desk

  -- ---- each table

  units : AreRead read_unit (db tables.unit.tree) t.catalogue.units
  units = keyed_read read_unit unit_cells IsLegibleUnitRow unit_back (db tables.unit.tree) t.catalogue.units has.catalogue.units (λ row i. each_in IsLegibleUnitRow t.catalogue.units row texts.units i)

  elements : AreRead read_element (db tables.element.tree) t.catalogue.elements
  elements =
      numbered_read read_element element_cells (λ (row : ElementRow). IsUtf8 row.value) element_back (db tables.element.tree) t.catalogue.elements has.catalogue.elements
      (λ row i. each_in (λ (row : ElementRow). IsUtf8 row.value) t.catalogue.elements row texts.elements i)

  boxes : AreRead read_container (db tables.container.tree) t.catalogue.containers
  boxes =
      keyed_read read_container container_cells IsLegibleContainerRow container_back (db tables.container.tree) t.catalogue.containers has.catalogue.containers
      (λ row i. each_in IsLegibleContainerRow t.catalogue.containers row texts.containers i)

  housings : AreRead read_housing (db tables.housing.tree) t.catalogue.housings
  housings = numbered_read read_housing housing_cells (λ _. ⊤) (λ row h. housing_back row) (db tables.housing.tree) t.catalogue.housings has.catalogue.housings (λ row i. tt)

  places : ArePlacesRead (encoding version) db (each unit_number s.catalogue.forest)
  places =
      places_read (encoding version) db (each unit_number s.catalogue.forest)
      (subst (IsDistinct nat_eq) (sym (nodes-each unit_number s.catalogue.forest)) g.sound.units.ids) has.catalogue.places

  readers : AreRead read_reader (db tables.reader.tree) t.desk.readers
  readers =
      keyed_read read_reader reader_cells (λ (row : ReaderRow). IsUtf8 row.name) reader_back (db tables.reader.tree) t.desk.readers has.desk.readers
      (λ row i. each_in (λ (row : ReaderRow). IsUtf8 row.name) t.desk.readers row texts.readers i)

  seats : AreRead read_seat (db tables.seat.tree) t.desk.seats
  seats = keyed_read read_seat seat_cells (λ _. ⊤) (λ row h. seat_back row) (db tables.seat.tree) t.desk.seats has.desk.seats (λ row i. tt)

  orders : AreRead read_order (db tables.orders.tree) t.desk.orders
  orders = keyed_read read_order order_cells (λ _. ⊤) (λ row h. order_back row) (db tables.orders.tree) t.desk.orders has.desk.orders (λ row i. tt)

  holdings : AreRead read_holding (db tables.holding.tree) t.desk.holdings
  holdings = keyed_read read_holding holding_cells (λ _. ⊤) (λ row h. holding_back row) (db tables.holding.tree) t.desk.holdings has.desk.holdings (λ row i. tt)

  runs : AreRead read_run (db tables.run.tree) t.desk.runs
  runs = keyed_read read_run run_cells (λ _. ⊤) (λ row h. run_back row) (db tables.run.tree) t.desk.runs has.desk.runs (λ row i. tt)

  run_lines : AreRead read_run_line (db tables.run_line.tree) t.desk.run_lines
  run_lines = numbered_read read_run_line run_line_cells (λ _. ⊤) (λ row h. run_line_back row) (db tables.run_line.tree) t.desk.run_lines has.desk.run_lines (λ row i. tt)

  permits : AreRead read_permit (db tables.permit.tree) t.desk.permits
  permits = numbered_read read_permit permit_cells (λ _. ⊤) (λ row h. permit_back row) (db tables.permit.tree) t.desk.permits has.desk.permits (λ row i. tt)

  office_all : has_unread read_office (db tables.office.tree) ≡ false
  office_all =
      ap (has_unread read_office) has.office
      ∙ or_from (is_none (read_office (office_cells t.office))) false (ap is_none (office_back t.office texts.country texts.repo)) refl

  office_same : (rows_in version db).office ≡ t.office
  office_same =
      ap (λ l. unwrap_or (first (filter_map read_office l)) no_office) has.office
      ∙ ap (λ o. unwrap_or (first (cons_option o [])) no_office) (office_back t.office texts.country texts.repo)

  -- ---- all of them

  all_read : first_held (unread version db) ≡ None
  all_read =
      rw (office_all, places.all, units.all, elements.all, boxes.all, housings.all, readers.all, seats.all, permits.all, orders.all, holdings.all, runs.all, run_lines.all) refl

  desk_same : (rows_in version db).desk ≡ t.desk
  desk_same =
      let d : Desk = (rows_in version db).desk in
      let own : Desk = t.desk in
      ap (λ x. record d { readers = x }) (by_again (λ (row : ReaderRow). row.ticket) own.readers (filter_map read_reader (db tables.reader.tree)) keys.readers readers.same)
      ∙ (ap (λ x. record d { readers = own.readers; seats = x }) (by_again (λ (row : SeatRow). row.seat) own.seats (filter_map read_seat (db tables.seat.tree)) keys.seats seats.same)
      ∙ (ap (λ x. record d { readers = own.readers; seats = own.seats; orders = x }) (by_again (λ (row : OrderRow). row.id) own.orders (filter_map read_order (db tables.orders.tree)) keys.orders orders.same)
      ∙ (ap (λ x. record own { holdings = x; runs = d.runs; run_lines = d.run_lines; permits = d.permits }) (by_again (λ (row : HoldingRow). row.container) own.holdings (filter_map read_holding (db tables.holding.tree)) keys.holdings holdings.same)
      ∙ (ap (λ x. record own { runs = x; run_lines = d.run_lines; permits = d.permits }) (by_again (λ (row : RunRow). row.id) own.runs (filter_map read_run (db tables.run.tree)) keys.runs runs.same)
      ∙ (ap (λ x. record own { run_lines = x; permits = d.permits }) (then_by_again (λ (row : RunLineRow). row.run) (λ (row : RunLineRow). row.container) own.run_lines (filter_map read_run_line (db tables.run_line.tree)) keys.run_lines run_lines.same)
      ∙ ap (λ x. record own { permits = x }) (then_by_again (λ (row : PermitRow). row.ticket) (λ (row : PermitRow). row.unit) own.permits (filter_map read_permit (db tables.permit.tree)) keys.permits permits.same))))))

  boxes_same : (rows_in version db).catalogue.containers ≡ t.catalogue.containers
  boxes_same =
      let good = (containers_shown version s (sound_catalogue s g.sound)).good in
      by_again (λ (row : ContainerRow). row.id) t.catalogue.containers (filter_map read_container (db tables.container.tree))
      (numbered_in_order (λ (row : ContainerRow). row.id) 1 t.catalogue.containers (and_parts _ _ good).0) boxes.same

  reordered : IsReordered t.catalogue (rows_in version db).catalogue
  reordered = record {
    units = ordered_too _ t.catalogue.units (filter_map read_unit (db tables.unit.tree)) units.same;
    numbers = places.same.numbers;
    places = places.same.said;
    elements = ordered_too _ t.catalogue.elements (filter_map read_element (db tables.element.tree)) elements.same;
    containers = boxes_same;
    housings = ordered_too _ t.catalogue.housings (filter_map read_housing (db tables.housing.tree)) housings.same;
  }

  is_read : IsRead version db s
  is_read = record {
    all = all_read;
    catalogue = record {
      office = sym office_same;
      units = reordered.units;
      places = places.same.rows;
      elements = reordered.elements;
      containers = ordered_too _ t.catalogue.containers (filter_map read_container (db tables.container.tree)) boxes.same;
      housings = reordered.housings;
    };
    desk = desk_same;
  }

  rows_same : rows_in version db ≡ record t { catalogue = (rows_in version db).catalogue }
  rows_same =
      ap (λ o. record (rows_in version db) { office = o }) office_same
      ∙ ap (λ d. record t { catalogue = (rows_in version db).catalogue; desk = d }) desk_same

  is_told : TablesDescribe version db s
  is_told =
      let c = (rows_in version db).catalogue in
      let placed = places.same.good (units_shown version s (sound_catalogue s g.sound)).places in
      record {
        keys = record {
          catalogue = keys_too t.catalogue c reordered (tables_are_shown version s (desk_passes version s) g.sound).0.catalogue;
          desk = subst MeetsDeskKeys (sym desk_same) keys;
        };
        causes = either_too (unread version db) (catalogue_tests version (rows_in version db) ++ desk_tests (rows_in version db)) all_read
            (subst (λ rows. cause version rows ≡ None) (sym rows_same) (no_cause_too version s g.sound c reordered placed));
        state = ap state_of rows_same ∙ (state_too version s g.sound c reordered placed ∙ says_the_state version s g.sound);
      }

pub sound_offices_read : (version : Version) (db : Trees) (s : State) → SoundOfficesAreRead version db s
sound_offices_read version db s has g = is_read version db s has g

pub sound_offices_told : (version : Version) (db : Trees) (s : State) → SoundOfficesAreTold version db s
sound_offices_told version db s has g = is_told version db s has g
