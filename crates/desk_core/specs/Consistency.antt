-- The definitions of the desk's causes, row by row, as they are checked from the values at hand.
use Rattle.std.specs.Prelude.{ℕ, ℤ, Bool, not, ◌&&◌, ◌||◌, cond, List, Option, None, nat_eq, nat_le, slice_get}
use Rattle.std.specs.Prelude.{slice_index, ◌-◌}
use Rattle.std.specs.List.{list_any}
use Rattle.std.specs.Option.{option_map_or, unwrap_or}
use Rattle.std.specs.Ordering.{int_cmp, nat_cmp, ordering_then}
use Rattle.std.specs.Prelude.{int_le}
use Rattle.std.specs.declared.cmp.Ordering.{Ordering}
use Rattle.isad_core.specs.Days.{is_day_number}
use Rattle.isad_core.specs.Limits.{most_permits}
use Rattle.isad_core.specs.Words.{is_between, some_and}
use Rattle.desk_core.specs.declared.consistency.context.Around.{Around}
use Rattle.desk_core.specs.declared.consistency.rows.HoldingRow.{HoldingRow}
use Rattle.desk_core.specs.declared.consistency.rows.OrderRow.{OrderRow}
use Rattle.desk_core.specs.declared.consistency.rows.PermitRow.{PermitRow}
use Rattle.desk_core.specs.declared.consistency.rows.RunLineRow.{RunLineRow}
use Rattle.desk_core.specs.declared.consistency.rows.RunRow.{RunRow}
use Rattle.desk_core.specs.declared.consistency.rows.SeatRow.{SeatRow}
use Rattle.desk_core.specs.declared.consistency.tally.Tally.{Tally}

-- ---- readers

abbrev pub is_fit_seat : Around → SeatRow → Bool
is_fit_seat s row = is_between 1 s.seats row.seat && is_between 1 s.readers row.ticket

-- how often the number was counted
abbrev pub times : Tally → ℕ → ℕ
times tally n = slice_index tally.counts.items n

abbrev pub is_fit_permit : Around → Tally → PermitRow → Bool
is_fit_permit s tickets row =
    is_between 1 s.readers row.ticket && (list_any (nat_eq row.unit) s.units && (is_day_number row.until
    && nat_le (times tickets row.ticket) most_permits))

-- ---- orders

-- the order is valid by itself
abbrev pub is_fit_order : Around → OrderRow → Bool
is_fit_order s row =
    is_between 1 s.readers row.ticket && (list_any (nat_eq row.container) s.containers && (is_between 1 4 row.state
    && (is_day_number row.day && int_le row.day s.day)))

-- who placed the order, and when
abbrev pub placing : OrderRow → ℕ × ℤ
placing row = (row.ticket, row.day)

abbrev pub placing_cmp : ℕ × ℤ → ℕ × ℤ → Ordering
placing_cmp a b = ordering_then (nat_cmp a.0 b.0) (int_cmp a.1 b.1)

abbrev pub waits_or_is_out : OrderRow → Bool
waits_or_is_out row = is_between 1 2 row.state

-- who asks for which container
abbrev pub asking : OrderRow → ℕ × ℕ
asking row = (row.ticket, row.container)

abbrev pub asking_cmp : ℕ × ℕ → ℕ × ℕ → Ordering
asking_cmp a b = ordering_then (nat_cmp a.0 b.0) (nat_cmp a.1 b.1)

-- ---- by number

-- the order with this number; the orders are numbered from 1
abbrev pub nth_order : List OrderRow → ℕ → Option OrderRow
nth_order orders n = cond (nat_le 1 n) (slice_get orders (n - 1)) None

-- ---- holdings

-- the order with this number is out, and is for that container
abbrev pub is_order_out_for : List OrderRow → ℕ → ℕ → Bool
is_order_out_for orders c o = some_and (λ (order : OrderRow). nat_eq order.container c && nat_eq order.state 2) (nth_order orders o)

-- at the desk without an order, or out with an order for it that is out
abbrev pub lies_well : List OrderRow → HoldingRow → Bool
lies_well orders row =
    option_map_or (λ o. nat_eq row.place 2 && is_order_out_for orders row.container o) row.held_by (nat_eq row.place 1)

abbrev pub is_fit_holding : Around → List OrderRow → HoldingRow → Bool
is_fit_holding s orders row = list_any (nat_eq row.container) s.containers && lies_well orders row

-- the order that it is out with, or 0
abbrev pub holder : HoldingRow → ℕ
holder row = unwrap_or row.held_by 0

-- if the order is out, some holding names it
abbrev pub is_held : Tally → OrderRow → Bool
is_held holders order = not (nat_eq order.state 2) || nat_le 1 (times holders order.id)

-- ---- runs

abbrev pub is_fit_run : Around → Tally → RunRow → Bool
is_fit_run s lines row = is_day_number row.day && (int_le row.day s.day && is_between 1 s.run_size (times lines row.id))

abbrev pub is_fit_line : List OrderRow → ℕ → RunLineRow → Bool
is_fit_line orders runs line =
    is_between 1 runs line.run
    && some_and (λ (order : OrderRow). nat_eq order.container line.container && nat_eq order.ticket line.ticket) (nth_order orders line.order_no)
