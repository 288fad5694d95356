-- Why rows of doubtful origin represent no desk, causes 6 to 9: what is checked in the tables of the reading room. Also
-- the keys of the rows. The rows of a table are in the order of its key, as they are read.
use Rattle.std.specs.Prelude.{◌≡◌, ◌≢◌, ◌⊎◌, ℕ, ℤ, ◌<◌, int_le, Bool, not, ◌&&◌, ◌||◌, List, [], ◌∷◌, length, count_by}
use Rattle.std.specs.Prelude.{is_none, nat_eq, nat_le}
use Rattle.std.specs.Ordering.{int_eq}
use Rattle.std.specs.List.{list_any, list_all, AllByRecursion}
use Rattle.isad_core.specs.Days.{is_day_number}
use Rattle.isad_core.specs.Limits.{most_orders, most_tickets, most_runs, most_permits}
use Rattle.isad_core.specs.Words.{is_between, some_and, are_numbered_from}
use Rattle.desk_core.specs.DeskRows.{Desk, ReaderRow, SeatRow, OrderRow, HoldingRow, RunRow, RunLineRow, PermitRow}
use Rattle.desk_core.specs.Names.{is_name}

-- ---- keys

-- each row is related as it should be to every later one
abbrev pub AreInOrder : {R : Type 0} → (R → R → Type 0) → List R → Type 0
AreInOrder Before [] = Unit {0}
AreInOrder Before (row ∷ rows) = AllByRecursion (Before row) rows × AreInOrder Before rows

-- No primary key occurs twice, and no ticket has two seats. The rows are in ascending order of their keys.
pub record MeetsDeskKeys (d : Desk) : Type 0 where
  pub readers : AreInOrder (λ (a b : ReaderRow). a.ticket < b.ticket) d.readers
  pub seats : AreInOrder (λ (a b : SeatRow). a.seat < b.seat) d.seats
  pub sitters : AreInOrder (λ (a b : SeatRow). a.ticket ≢ b.ticket) d.seats
  pub orders : AreInOrder (λ (a b : OrderRow). a.id < b.id) d.orders
  pub holdings : AreInOrder (λ (a b : HoldingRow). a.container < b.container) d.holdings
  pub runs : AreInOrder (λ (a b : RunRow). a.id < b.id) d.runs
  pub run_lines : AreInOrder (λ (a b : RunLineRow). (a.run < b.run) ⊎ ((a.run ≡ b.run) × (a.container < b.container))) d.run_lines
  pub permits : AreInOrder (λ (a b : PermitRow). (a.ticket < b.ticket) ⊎ ((a.ticket ≡ b.ticket) × (a.unit < b.unit))) d.permits

-- ---- what the desk is held against

-- the office's settings and day, and which units and containers exist
pub record Around : Type 0 where
  pub seats : ℕ  -- how many seats there are
  pub daily : ℕ  -- how many orders a ticket may place in a day
  pub run_size : ℕ  -- how many containers a run takes
  pub day : ℤ
  pub is_unit : ℕ → Bool
  pub is_container : ℕ → Bool

abbrev pub is_registered : Desk → ℕ → Bool
is_registered d ticket = list_any (λ (row : ReaderRow). nat_eq row.ticket ticket) d.readers

-- ---- 6: the readers, their seats and their permits

-- the name may be a reader's, and the last day is one of the calendar
abbrev pub is_good_reader : ReaderRow → Bool
is_good_reader row = is_name row.name && is_day_number row.until

-- the seat is one of the office's, and the ticket is registered
abbrev pub is_good_seat : Around → Desk → SeatRow → Bool
is_good_seat a d row = is_between 1 a.seats row.seat && is_registered d row.ticket

-- the ticket is registered and has no more permits than it may, the unit exists, and the last day is one of the
-- calendar
abbrev pub is_good_permit : Around → Desk → PermitRow → Bool
is_good_permit a d row =
    is_registered d row.ticket && (a.is_unit row.unit && (is_day_number row.until
    && nat_le (count_by (λ (other : PermitRow). nat_eq other.ticket row.ticket) d.permits) most_permits))

abbrev pub are_good_readers : Around → Desk → Bool
are_good_readers a d =
    are_numbered_from (λ (row : ReaderRow). row.ticket) 1 d.readers && (nat_le (length d.readers) most_tickets
    && (list_all is_good_reader d.readers && (list_all (is_good_seat a d) d.seats && list_all (is_good_permit a d) d.permits)))

abbrev pub readers_are_bad : Around → Desk → Bool
readers_are_bad a d = not (are_good_readers a d)

-- ---- 7: the orders

-- the order waits or is out
abbrev pub is_live : OrderRow → Bool
is_live row = is_between 1 2 row.state

-- two live orders of one ticket for one container
abbrev pub are_twice : OrderRow → OrderRow → Bool
are_twice a b =
    not (nat_eq a.id b.id) && (is_live a && (is_live b && (nat_eq a.ticket b.ticket && nat_eq a.container b.container)))

-- the ticket's orders of that day
abbrev pub is_of_the_day : OrderRow → OrderRow → Bool
is_of_the_day row other = nat_eq other.ticket row.ticket && int_eq other.day row.day

-- The ticket is registered, the container exists, the state is one of the four, and the order was placed on a day of
-- the calendar that is not after today. The ticket placed no more orders that day than it may, and has no other live
-- order for the container.
abbrev pub is_good_order : Around → Desk → OrderRow → Bool
is_good_order a d row =
    is_registered d row.ticket && (a.is_container row.container && (is_between 1 4 row.state
    && (is_day_number row.day && (int_le row.day a.day
    && (nat_le (count_by (is_of_the_day row) d.orders) a.daily && not (list_any (are_twice row) d.orders))))))

abbrev pub are_good_orders : Around → Desk → Bool
are_good_orders a d =
    are_numbered_from (λ (row : OrderRow). row.id) 1 d.orders
    && (nat_le (length d.orders) most_orders && list_all (is_good_order a d) d.orders)

abbrev pub orders_are_bad : Around → Desk → Bool
orders_are_bad a d = not (are_good_orders a d)

-- ---- 8: where the containers are

-- the order with this number is out, and is for that container
abbrev pub is_out_order : ℕ → ℕ → OrderRow → Bool
is_out_order o c row = nat_eq row.id o && (nat_eq row.container c && nat_eq row.state 2)

-- at the desk, without an order
abbrev pub is_at_desk : HoldingRow → Bool
is_at_desk row = nat_eq row.place 1 && is_none row.held_by

-- out with an order for it that is out
abbrev pub is_out_well : Desk → HoldingRow → Bool
is_out_well d row = nat_eq row.place 2 && some_and (λ o. list_any (is_out_order o row.container) d.orders) row.held_by

abbrev pub is_good_holding : Around → Desk → HoldingRow → Bool
is_good_holding a d row = a.is_container row.container && (is_at_desk row || is_out_well d row)

-- the container is out with the order
abbrev pub is_holding_of : OrderRow → HoldingRow → Bool
is_holding_of order row =
    nat_eq row.container order.container && (nat_eq row.place 2 && some_and (nat_eq order.id) row.held_by)

-- if the order is out, a holding has its container
abbrev pub has_its_holding : Desk → OrderRow → Bool
has_its_holding d order = not (nat_eq order.state 2) || list_any (is_holding_of order) d.holdings

abbrev pub are_good_holdings : Around → Desk → Bool
are_good_holdings a d = list_all (is_good_holding a d) d.holdings && list_all (has_its_holding d) d.orders

abbrev pub holdings_are_bad : Around → Desk → Bool
holdings_are_bad a d = not (are_good_holdings a d)

-- ---- 9: the runs

-- the day is one of the calendar and not after today, and there is at least one line and no more than a run takes
abbrev pub is_good_run : Around → Desk → RunRow → Bool
is_good_run a d row =
    is_day_number row.day && (int_le row.day a.day
    && is_between 1 a.run_size (count_by (λ (line : RunLineRow). nat_eq line.run row.id) d.run_lines))

-- the order of the line, with the line's container and ticket
abbrev pub is_order_of_line : RunLineRow → OrderRow → Bool
is_order_of_line line row =
    nat_eq row.id line.order_no && (nat_eq row.container line.container && nat_eq row.ticket line.ticket)

-- the line is of a run that exists, and for an order that exists
abbrev pub is_good_line : Desk → RunLineRow → Bool
is_good_line d line = list_any (λ (row : RunRow). nat_eq row.id line.run) d.runs && list_any (is_order_of_line line) d.orders

abbrev pub are_good_runs : Around → Desk → Bool
are_good_runs a d =
    are_numbered_from (λ (row : RunRow). row.id) 1 d.runs && (nat_le (length d.runs) most_runs
    && (list_all (is_good_run a d) d.runs && list_all (is_good_line d) d.run_lines))

abbrev pub runs_are_bad : Around → Desk → Bool
runs_are_bad a d = not (are_good_runs a d)
