-- The desk's rows are judged alike, in whatever order they are.
use Rattle.std.proofs.Common.{◌≡◌, List, not, ◌&&◌, ◌||◌, nat_eq, nat_le, ap₂, ◌∙◌}
use Rattle.isad_core.specs.Days.{is_day_number}
use Rattle.desk_core.specs.DeskCauses.{Around}
use Rattle.desk_core.specs.DeskRows.{OrderRow}
use Rattle.integrity_checks.proofs.Common.{Alike, Desk, HoldingRow, PermitRow, RunLineRow, RunRow, SeatRow, all_alike}
use Rattle.integrity_checks.proofs.Common.{any_alike, are_good_holdings, are_good_orders, are_good_runs}
use Rattle.integrity_checks.proofs.Common.{are_numbered_from, are_twice, has_its_holding, int_le, is_at_desk}
use Rattle.integrity_checks.proofs.Common.{is_between, is_good_holding, is_good_line, is_good_order, is_good_permit}
use Rattle.integrity_checks.proofs.Common.{is_good_run, is_good_seat, is_holding_of, is_of_the_day, is_order_of_line}
use Rattle.integrity_checks.proofs.Common.{is_out_order, is_registered, length_alike, list_all, most_orders}
use Rattle.integrity_checks.proofs.Common.{most_permits, most_runs, some_and}

module _ (a : Around) (d : Desk) where
  pub seats_alike : (seats : List SeatRow) → Alike seats d.seats
      → list_all (is_good_seat a (record d { seats = seats })) seats ≡ list_all (is_good_seat a d) d.seats
  seats_alike seats same = all_alike (is_good_seat a d) seats d.seats same

  pub permits_alike : (permits : List PermitRow) → Alike permits d.permits
      → list_all (is_good_permit a (record d { permits = permits })) permits ≡ list_all (is_good_permit a d) d.permits
  permits_alike permits same =
      (λ i. list_all (λ (row : PermitRow). is_registered d row.ticket && (a.is_unit row.unit && (is_day_number row.until && nat_le (same (λ (other : PermitRow). nat_eq other.ticket row.ticket) i) most_permits))) permits)
      ∙ all_alike (is_good_permit a d) permits d.permits same

  module _ (orders : List OrderRow) (same_orders : Alike orders d.orders) where
    pub orders_alike : are_numbered_from (λ (row : OrderRow). row.id) 1 orders ≡ are_numbered_from (λ (row : OrderRow). row.id) 1 d.orders
        → are_good_orders a (record d { orders = orders }) ≡ are_good_orders a d
    orders_alike numbered = ap₂ ◌&&◌ numbered (ap₂ (λ n b. nat_le n most_orders && b) (length_alike orders d.orders same_orders) each)
      where
        each : list_all (is_good_order a (record d { orders = orders })) orders ≡ list_all (is_good_order a d) d.orders
        each =
            (λ i. list_all (λ (row : OrderRow).
            is_registered d row.ticket && (a.is_container row.container && (is_between 1 4 row.state && (is_day_number row.day && (int_le row.day a.day
            && (nat_le (same_orders (is_of_the_day row) i) a.daily && not (any_alike (are_twice row) orders d.orders same_orders i))))))) orders)
            ∙ all_alike (is_good_order a d) orders d.orders same_orders

    pub holdings_alike : (holdings : List HoldingRow) → Alike holdings d.holdings
        → are_good_holdings a (record d { orders = orders; holdings = holdings }) ≡ are_good_holdings a d
    holdings_alike holdings same =
        ap₂ ◌&&◌
        ((λ i. list_all (λ (row : HoldingRow). a.is_container row.container && (is_at_desk row || (nat_eq row.place 2 && some_and (λ o. any_alike (is_out_order o row.container) orders d.orders same_orders i) row.held_by))) holdings)
        ∙ all_alike (is_good_holding a d) holdings d.holdings same)
        ((λ i. list_all (λ (order : OrderRow). not (nat_eq order.state 2) || any_alike (is_holding_of order) holdings d.holdings same i) orders)
        ∙ all_alike (has_its_holding d) orders d.orders same_orders)

    pub runs_alike : (runs : List RunRow) (lines : List RunLineRow) → Alike runs d.runs → Alike lines d.run_lines
        → are_numbered_from (λ (row : RunRow). row.id) 1 runs ≡ are_numbered_from (λ (row : RunRow). row.id) 1 d.runs
        → are_good_runs a (record d { orders = orders; runs = runs; run_lines = lines }) ≡ are_good_runs a d
    runs_alike runs lines same_runs same_lines numbered =
        ap₂ ◌&&◌ numbered (ap₂ (λ n b. nat_le n most_runs && b) (length_alike runs d.runs same_runs) (ap₂ ◌&&◌
        ((λ i. list_all (λ (row : RunRow). is_day_number row.day && (int_le row.day a.day && is_between 1 a.run_size (same_lines (λ (line : RunLineRow). nat_eq line.run row.id) i))) runs)
        ∙ all_alike (is_good_run a d) runs d.runs same_runs)
        ((λ i. list_all (λ (line : RunLineRow). any_alike (λ (row : RunRow). nat_eq row.id line.run) runs d.runs same_runs i && any_alike (is_order_of_line line) orders d.orders same_orders i) lines)
        ∙ all_alike (is_good_line d) lines d.run_lines same_lines)))
