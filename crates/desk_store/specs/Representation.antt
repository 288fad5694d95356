-- When the tables represent a desk: each table has the rows of its part of the desk, and no others.
use Rattle.std.specs.Prelude.{◌≡◌, ◌≤◌, ℕ, List, length, map, ⊤}
use Rattle.std.specs.List.{AllByRecursion}
use Rattle.sqlite.specs.Tree.{Trees}
use Rattle.sqlite.specs.Effect.{Database}
use Rattle.isad_core.specs.Limits.{most_orders, most_tickets, most_runs}
use Rattle.desk_core.specs.DeskRows.{Desk, ReaderRow, SeatRow, OrderRow, HoldingRow, RunRow, RunLineRow, PermitRow}
use Rattle.office_tables.specs.RowNumbers.{AreCounted, AreByNumber, HasNumbered}
use Rattle.desk_store.specs.Rows.{reader_cells, seat_cells, order_cells, holding_cells, run_cells, run_line_cells}
use Rattle.office_tables.specs.Permits.{permit_cells}
use Rattle.office_tables.specs.Schema as tables
pub use Rattle.desk_core.specs.LegibleDesks.{IsLegibleReader, IsLegibleOrder, IsKnownPlace, IsLegibleHolding, IsLegible}

-- this is the number of one of these rows, which are numbered from 1
abbrev pub IsNumberOf : {R : Type 0} → List R → ℕ → Type 0
IsNumberOf rows n = (1 ≤ n) × (n ≤ length rows)

-- Tickets, orders and runs are numbered from 1 as they come, up to the most that there may ever be. Seats are sorted by
-- their numbers, and holdings by the numbers of their containers. Each line belongs to a run that was made, and each
-- permit to a ticket that was given.
pub record RepresentsDesk (db : Trees) (d : Desk) : Type 0 where
  pub readers : db tables.reader.tree ≡ map reader_cells d.readers
  pub tickets : AreCounted (λ (r : ReaderRow). r.ticket) d.readers
  pub few_tickets : length d.readers ≤ most_tickets
  pub seats : db tables.seat.tree ≡ map seat_cells d.seats
  pub seats_rise : AreByNumber (λ (s : SeatRow). s.seat) d.seats
  pub orders : db tables.orders.tree ≡ map order_cells d.orders
  pub order_numbers : AreCounted (λ (o : OrderRow). o.id) d.orders
  pub few_orders : length d.orders ≤ most_orders
  pub holdings : db tables.holding.tree ≡ map holding_cells d.holdings
  pub holdings_rise : AreByNumber (λ (h : HoldingRow). h.container) d.holdings
  pub runs : db tables.run.tree ≡ map run_cells d.runs
  pub run_numbers : AreCounted (λ (r : RunRow). r.id) d.runs
  pub few_runs : length d.runs ≤ most_runs
  pub run_lines : HasNumbered run_line_cells (db tables.run_line.tree) d.run_lines
  pub line_runs : AllByRecursion (λ (l : RunLineRow). IsNumberOf d.runs l.run) d.run_lines
  pub permits : HasNumbered permit_cells (db tables.permit.tree) d.permits
  pub permit_tickets : AllByRecursion (λ (p : PermitRow). IsNumberOf d.readers p.ticket) d.permits

-- the same as a property of a whole database
abbrev pub RepresentsDeskAlone : Database → ⊤ → Desk → Type 0
RepresentsDeskAlone db beside d = RepresentsDesk db.trees d
