-- A desk of which one part changes: the tables show the others as before.
use Rattle.std.proofs.Common.{◌≡◌, ◌≤◌, List, [], ◌∷◌, map, length, refl, ◌∙◌}
use Rattle.office_tables.specs.Schema as tables
use Rattle.desk_store.proofs.Common.{AllByRecursion, AreByNumber, AreCounted, Database, Desk, HasNumbered, HoldingRow}
use Rattle.desk_store.proofs.Common.{IsNumberOf, OnlyTouches, OrderRow, PermitRow, ReaderRow, RepresentsDesk}
use Rattle.desk_store.proofs.Common.{RunLineRow, RunRow, SeatRow, holding_cells, most_orders, most_runs, most_tickets}
use Rattle.desk_store.proofs.Common.{order_cells, permit_cells, reader_cells, run_cells, run_line_cells, seat_cells}
use Rattle.desk_store.proofs.Common.{still_numbered}
use Rattle.desk_store.proofs.NumbersOf.{widened}

module _ (old new : Database) (d : Desk) (shown : RepresentsDesk old.trees d) where
  pub with_readers : (xs : List ReaderRow) → OnlyTouches (tables.reader.tree ∷ []) old new
      → new.trees tables.reader.tree ≡ map reader_cells xs → AreCounted (λ (r : ReaderRow). r.ticket) xs
      → length xs ≤ most_tickets → length d.readers ≤ length xs
      → RepresentsDesk new.trees (record d { readers = xs })
  with_readers xs only are counted few more = record {
    readers = are;
    tickets = counted;
    few_tickets = few;
    seats = only tables.seat.tree refl refl ∙ shown.seats;
    seats_rise = shown.seats_rise;
    orders = only tables.orders.tree refl refl ∙ shown.orders;
    order_numbers = shown.order_numbers;
    few_orders = shown.few_orders;
    holdings = only tables.holding.tree refl refl ∙ shown.holdings;
    holdings_rise = shown.holdings_rise;
    runs = only tables.run.tree refl refl ∙ shown.runs;
    run_numbers = shown.run_numbers;
    few_runs = shown.few_runs;
    run_lines = still_numbered run_line_cells _ _ _ (only tables.run_line.tree refl refl) shown.run_lines;
    line_runs = shown.line_runs;
    permits = still_numbered permit_cells _ _ _ (only tables.permit.tree refl refl) shown.permits;
    permit_tickets = widened (λ (p : PermitRow). p.ticket) d.readers xs more d.permits shown.permit_tickets;
  }

  pub with_seats : (xs : List SeatRow) → OnlyTouches (tables.seat.tree ∷ []) old new
      → new.trees tables.seat.tree ≡ map seat_cells xs → AreByNumber (λ (s : SeatRow). s.seat) xs
      → RepresentsDesk new.trees (record d { seats = xs })
  with_seats xs only are rise = record {
    readers = only tables.reader.tree refl refl ∙ shown.readers;
    tickets = shown.tickets;
    few_tickets = shown.few_tickets;
    seats = are;
    seats_rise = rise;
    orders = only tables.orders.tree refl refl ∙ shown.orders;
    order_numbers = shown.order_numbers;
    few_orders = shown.few_orders;
    holdings = only tables.holding.tree refl refl ∙ shown.holdings;
    holdings_rise = shown.holdings_rise;
    runs = only tables.run.tree refl refl ∙ shown.runs;
    run_numbers = shown.run_numbers;
    few_runs = shown.few_runs;
    run_lines = still_numbered run_line_cells _ _ _ (only tables.run_line.tree refl refl) shown.run_lines;
    line_runs = shown.line_runs;
    permits = still_numbered permit_cells _ _ _ (only tables.permit.tree refl refl) shown.permits;
    permit_tickets = shown.permit_tickets;
  }

  pub with_orders : (xs : List OrderRow) → OnlyTouches (tables.orders.tree ∷ []) old new
      → new.trees tables.orders.tree ≡ map order_cells xs → AreCounted (λ (o : OrderRow). o.id) xs
      → length xs ≤ most_orders → RepresentsDesk new.trees (record d { orders = xs })
  with_orders xs only are counted few = record {
    readers = only tables.reader.tree refl refl ∙ shown.readers;
    tickets = shown.tickets;
    few_tickets = shown.few_tickets;
    seats = only tables.seat.tree refl refl ∙ shown.seats;
    seats_rise = shown.seats_rise;
    orders = are;
    order_numbers = counted;
    few_orders = few;
    holdings = only tables.holding.tree refl refl ∙ shown.holdings;
    holdings_rise = shown.holdings_rise;
    runs = only tables.run.tree refl refl ∙ shown.runs;
    run_numbers = shown.run_numbers;
    few_runs = shown.few_runs;
    run_lines = still_numbered run_line_cells _ _ _ (only tables.run_line.tree refl refl) shown.run_lines;
    line_runs = shown.line_runs;
    permits = still_numbered permit_cells _ _ _ (only tables.permit.tree refl refl) shown.permits;
    permit_tickets = shown.permit_tickets;
  }

  pub with_holdings : (xs : List HoldingRow) → OnlyTouches (tables.holding.tree ∷ []) old new
      → new.trees tables.holding.tree ≡ map holding_cells xs → AreByNumber (λ (h : HoldingRow). h.container) xs
      → RepresentsDesk new.trees (record d { holdings = xs })
  with_holdings xs only are rise = record {
    readers = only tables.reader.tree refl refl ∙ shown.readers;
    tickets = shown.tickets;
    few_tickets = shown.few_tickets;
    seats = only tables.seat.tree refl refl ∙ shown.seats;
    seats_rise = shown.seats_rise;
    orders = only tables.orders.tree refl refl ∙ shown.orders;
    order_numbers = shown.order_numbers;
    few_orders = shown.few_orders;
    holdings = are;
    holdings_rise = rise;
    runs = only tables.run.tree refl refl ∙ shown.runs;
    run_numbers = shown.run_numbers;
    few_runs = shown.few_runs;
    run_lines = still_numbered run_line_cells _ _ _ (only tables.run_line.tree refl refl) shown.run_lines;
    line_runs = shown.line_runs;
    permits = still_numbered permit_cells _ _ _ (only tables.permit.tree refl refl) shown.permits;
    permit_tickets = shown.permit_tickets;
  }

  pub with_runs : (xs : List RunRow) (ls : List RunLineRow)
      → OnlyTouches (tables.run.tree ∷ tables.run_line.tree ∷ []) old new → new.trees tables.run.tree ≡ map run_cells xs
      → AreCounted (λ (r : RunRow). r.id) xs → length xs ≤ most_runs
      → HasNumbered run_line_cells (new.trees tables.run_line.tree) ls
      → AllByRecursion (λ (l : RunLineRow). IsNumberOf xs l.run) ls
      → RepresentsDesk new.trees (record d { runs = xs; run_lines = ls })
  with_runs xs ls only are counted few lines of_runs = record {
    readers = only tables.reader.tree refl refl ∙ shown.readers;
    tickets = shown.tickets;
    few_tickets = shown.few_tickets;
    seats = only tables.seat.tree refl refl ∙ shown.seats;
    seats_rise = shown.seats_rise;
    orders = only tables.orders.tree refl refl ∙ shown.orders;
    order_numbers = shown.order_numbers;
    few_orders = shown.few_orders;
    holdings = only tables.holding.tree refl refl ∙ shown.holdings;
    holdings_rise = shown.holdings_rise;
    runs = are;
    run_numbers = counted;
    few_runs = few;
    run_lines = lines;
    line_runs = of_runs;
    permits = still_numbered permit_cells _ _ _ (only tables.permit.tree refl refl) shown.permits;
    permit_tickets = shown.permit_tickets;
  }

  pub with_permits : (xs : List PermitRow) → OnlyTouches (tables.permit.tree ∷ []) old new
      → HasNumbered permit_cells (new.trees tables.permit.tree) xs
      → AllByRecursion (λ (p : PermitRow). IsNumberOf d.readers p.ticket) xs
      → RepresentsDesk new.trees (record d { permits = xs })
  with_permits xs only has of_tickets = record {
    readers = only tables.reader.tree refl refl ∙ shown.readers;
    tickets = shown.tickets;
    few_tickets = shown.few_tickets;
    seats = only tables.seat.tree refl refl ∙ shown.seats;
    seats_rise = shown.seats_rise;
    orders = only tables.orders.tree refl refl ∙ shown.orders;
    order_numbers = shown.order_numbers;
    few_orders = shown.few_orders;
    holdings = only tables.holding.tree refl refl ∙ shown.holdings;
    holdings_rise = shown.holdings_rise;
    runs = only tables.run.tree refl refl ∙ shown.runs;
    run_numbers = shown.run_numbers;
    few_runs = shown.few_runs;
    run_lines = still_numbered run_line_cells _ _ _ (only tables.run_line.tree refl refl) shown.run_lines;
    line_runs = shown.line_runs;
    permits = has;
    permit_tickets = of_tickets;
  }
