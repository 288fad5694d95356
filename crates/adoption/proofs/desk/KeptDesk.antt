-- What a live connection tells of the desk's tables, when they are whole and all of their rows can be read: each has the cells of the
-- rows that are read, and these have their keys.
use Rattle.std.proofs.Common.{◌≡◌, ℕ, length, List, [], ◌∷◌, true, false, not, ◌&&◌, inl, inr, IsTrue, filter_map}
use Rattle.std.proofs.Common.{nat_eq, refl, sym, ap, subst, ◌∙◌, arith}
use Rattle.sqlite_catalog.specs.Listing.{automatic}
use Rattle.sqlite_schema.specs.declared.schema.Index.{Index}
use Rattle.catalogue_core.specs.Members.{StandsIn}
use Rattle.office_tables.specs.Schema as tables
use Rattle.state_encoding.proofs.Grouped.{order_weaker}
use Rattle.adoption.proofs.Common.{AllByRecursion, AreInOrder, Datatype, Desk, HasNumbered, HoldingRow, IsWholeTable}
use Rattle.adoption.proofs.Common.{MeetsDeskKeys, Obeys, OrderRow, PermitRow, ReaderRow, Row, RunLineRow, RunRow}
use Rattle.adoption.proofs.Common.{SeatRow, Table, Trees, Unique, Version, all_both, all_weaker, and_parts, clashes}
use Rattle.adoption.proofs.Common.{eq-eqb, false≢true, guards, holding_cells, is_int, is_null, not-true, order_cells}
use Rattle.adoption.proofs.Common.{passes, permit_cells, read_holding, read_order, read_permit, read_reader, read_run}
use Rattle.adoption.proofs.Common.{read_run_line, read_seat, reader_cells, rowid, rows_in, run_cells, run_line_cells}
use Rattle.adoption.proofs.Common.{schema, seat_cells, test_in, then_by}
use Rattle.adoption.proofs.catalogue.Rules.{IsKeyed, IsNumbered, rows_keyed}
use Rattle.adoption.proofs.desk.DeskRows.{reader_is, seat_is, order_is, holding_is, run_is, run_line_is, permit_is}
use Rattle.adoption.proofs.desk.DeskRows.{seat_parts, line_parts, permit_parts}
use Rattle.adoption.proofs.tables.Causeless.{IsDeskRead}
use Rattle.adoption.proofs.tables.PairsInOrder.{pairs_rise}
use Rattle.adoption.proofs.tables.RowsStored.{AreStored, stored, numbered, stays}
use Rattle.adoption.proofs.tables.UniqueRows.{AreUnique, apart_in_one, apart_in_two}

-- a row has a number of its own
with_numbers : (n : ℕ) (rows : List Row) → AllByRecursion (λ row. length row ≡ n) rows
    → AllByRecursion (λ row. IsTrue (is_int (rowid row))) rows → AllByRecursion (IsNumbered n) rows
with_numbers n rows long own =
    all_both (λ row. length row ≡ n) (λ row. IsTrue (is_int (rowid row))) (IsNumbered n) (λ row l k. (l, k)) rows long own

module _ (version : Version) (db : Trees) (obeys : Obeys (schema version) db) (whole : AllByRecursion (λ (table : Table). IsWholeTable table (db table.tree)) (schema version).tables) (all : IsDeskRead db) where
  abbrev d : Desk
  d = (rows_in version db).desk

  -- ---- by their keys

  pub readers : AreStored reader_cells (λ (r : ReaderRow). r.ticket) (db tables.reader.tree) d.readers
  readers =
      stored read_reader reader_cells (IsKeyed 4) reader_is (λ (r : ReaderRow). r.ticket) (λ r. refl) (db tables.reader.tree) all.readers
      (rows_keyed tables.reader (λ b row h. (and_parts (is_null b) _ h).0) 4 (omega arith) (db tables.reader.tree) whole.0.cells (obeys.rules Datatype).0) whole.0.rise

  seats_keyed : AllByRecursion (IsKeyed 3) (db tables.seat.tree)
  seats_keyed = rows_keyed tables.seat (λ b row h. (and_parts (is_null b) _ h).0) 3 (omega arith) (db tables.seat.tree) whole.1.0.cells (obeys.rules Datatype).1.0

  pub seats : AreStored seat_cells (λ (r : SeatRow). r.seat) (db tables.seat.tree) d.seats
  seats =
      stored read_seat seat_cells (IsKeyed 3) seat_is (λ (r : SeatRow). r.seat) (λ r. refl) (db tables.seat.tree) all.seats
      seats_keyed whole.1.0.rise

  pub orders : AreStored order_cells (λ (r : OrderRow). r.id) (db tables.orders.tree) d.orders
  orders =
      stored read_order order_cells (IsKeyed 6) order_is (λ (r : OrderRow). r.id) (λ r. refl) (db tables.orders.tree) all.orders
      (rows_keyed tables.orders (λ b row h. (and_parts (is_null b) _ h).0) 6 (omega arith) (db tables.orders.tree) whole.1.1.0.cells (obeys.rules Datatype).1.1.0) whole.1.1.0.rise

  pub holdings : AreStored holding_cells (λ (r : HoldingRow). r.container) (db tables.holding.tree) d.holdings
  holdings =
      stored read_holding holding_cells (IsKeyed 4) holding_is (λ (r : HoldingRow). r.container) (λ r. refl) (db tables.holding.tree) all.holdings
      (rows_keyed tables.holding (λ b row h. (and_parts (is_null b) _ h).0) 4 (omega arith) (db tables.holding.tree) whole.1.1.1.0.cells (obeys.rules Datatype).1.1.1.0) whole.1.1.1.0.rise

  pub runs : AreStored run_cells (λ (r : RunRow). r.id) (db tables.run.tree) d.runs
  runs =
      stored read_run run_cells (IsKeyed 3) run_is (λ (r : RunRow). r.id) (λ r. refl) (db tables.run.tree) all.runs
      (rows_keyed tables.run (λ b row h. (and_parts (is_null b) _ h).0) 3 (omega arith) (db tables.run.tree) whole.1.1.1.1.0.cells (obeys.rules Datatype).1.1.1.1.0) whole.1.1.1.1.0.rise

  -- ---- with numbers of their own

  lines_whole : IsWholeTable tables.run_line (db tables.run_line.tree)
  lines_whole = whole.1.1.1.1.1.0

  permits_whole : IsWholeTable tables.permit (db tables.permit.tree)
  permits_whole = whole.1.1.1.1.1.1.0

  pub run_lines : HasNumbered run_line_cells (db tables.run_line.tree) d.run_lines
  run_lines =
      numbered read_run_line run_line_cells (IsNumbered 5) (λ row fit. fit.1) run_line_is (then_by (λ (r : RunLineRow). r.run) (λ (r : RunLineRow). r.container))
      (db tables.run_line.tree) all.run_lines (with_numbers 5 (db tables.run_line.tree) lines_whole.cells lines_whole.numbers) lines_whole.rise

  pub permits : HasNumbered permit_cells (db tables.permit.tree) d.permits
  permits =
      numbered read_permit permit_cells (IsNumbered 4) (λ row fit. fit.1) permit_is (then_by (λ (r : PermitRow). r.ticket) (λ (r : PermitRow). r.unit))
      (db tables.permit.tree) all.permits (with_numbers 4 (db tables.permit.tree) permits_whole.cells permits_whole.numbers) permits_whole.rise

  -- ---- what is unique

  -- a unique index of the table
  guarded : (table : Table) (index : Index) (rows : List Row) → StandsIn index (schema version).indexes
      → guards index table ≡ true → AllByRecursion (λ row. passes Unique (schema version) db table row ≡ true) rows
      → AllByRecursion (λ row. clashes index.order index.columns (db table.tree) row ≡ false) rows
  guarded table index rows there guard keeps =
      all_weaker (λ row. passes Unique (schema version) db table row ≡ true) (λ row. clashes index.order index.columns (db table.tree) row ≡ false)
      (λ row h. not-true (clashes index.order index.columns (db table.tree) row)
      (sym (ap (λ b. not (b && clashes index.order index.columns (db table.tree) row)) guard)
      ∙ test_in (λ (i : Index). not (guards i table && clashes i.order i.columns (db table.tree) row)) (schema version).indexes index h there))
      rows keeps

  unique_seats : AreUnique (2 ∷ []) (db tables.seat.tree)
  unique_seats = record {
    rise = whole.1.0.rise;
    numbers = whole.1.0.numbers;
    apart = guarded tables.seat (automatic tables.seat 0 (2 ∷ []) 2) (db tables.seat.tree) (inl refl) refl (obeys.rules Unique).1.0;
  }

  unique_lines : AreUnique (1 ∷ 2 ∷ []) (db tables.run_line.tree)
  unique_lines = record {
    rise = lines_whole.rise;
    numbers = lines_whole.numbers;
    apart = guarded tables.run_line (automatic tables.run_line 0 (1 ∷ 2 ∷ []) 10) (db tables.run_line.tree) (inr (inr (inr (inr (inl refl))))) refl (obeys.rules Unique).1.1.1.1.1.0;
  }

  unique_permits : AreUnique (1 ∷ 2 ∷ []) (db tables.permit.tree)
  unique_permits = record {
    rise = permits_whole.rise;
    numbers = permits_whole.numbers;
    apart = guarded tables.permit (automatic tables.permit 0 (1 ∷ 2 ∷ []) 12) (db tables.permit.tree) (inr (inr (inr (inr (inr (inl refl)))))) refl (obeys.rules Unique).1.1.1.1.1.1.0;
  }

  -- ---- keys

  sitters_apart : AreInOrder (λ (a b : SeatRow). nat_eq b.ticket a.ticket ≡ false) d.seats
  sitters_apart =
      subst (AreInOrder (λ (a b : SeatRow). nat_eq b.ticket a.ticket ≡ false))
      (sym (stays read_seat seat_cells (IsKeyed 3) seat_is (λ (r : SeatRow). r.seat) (λ r. refl) (db tables.seat.tree)
      seats_keyed whole.1.0.rise))
      (apart_in_one read_seat (db tables.seat.tree) 2 (λ (r : SeatRow). r.ticket) (λ row r h. (seat_parts row r h).ticket) unique_seats)

  pub keys : MeetsDeskKeys d
  keys = record {
    readers = readers.rise;
    seats = seats.rise;
    sitters = order_weaker (λ (a b : SeatRow). nat_eq b.ticket a.ticket ≡ false) (λ (a b : SeatRow). a.ticket ≡ b.ticket → ⊥) d.seats (λ a b h e. false≢true (sym h ∙ eq-eqb b.ticket a.ticket (sym e))) sitters_apart;
    orders = orders.rise;
    holdings = holdings.rise;
    runs = runs.rise;
    run_lines = pairs_rise (λ (r : RunLineRow). r.run) (λ (r : RunLineRow). r.container) (filter_map read_run_line (db tables.run_line.tree))
        (apart_in_two read_run_line (db tables.run_line.tree) 1 2 (λ (r : RunLineRow). r.run) (λ (r : RunLineRow). r.container) (λ row r h. (line_parts row r h).run) (λ row r h. (line_parts row r h).container) unique_lines);
    permits = pairs_rise (λ (r : PermitRow). r.ticket) (λ (r : PermitRow). r.unit) (filter_map read_permit (db tables.permit.tree))
        (apart_in_two read_permit (db tables.permit.tree) 1 2 (λ (r : PermitRow). r.ticket) (λ (r : PermitRow). r.unit) (λ row r h. (permit_parts row r h).ticket) (λ row r h. (permit_parts row r h).unit) unique_permits);
  }
