-- Where containers are, and which of them may move.
use Rattle.std.specs.Prelude.{ℕ, pos, Bool, not, ◌&&◌, nat_eq, nat_lt, List, map, filter, filter_map, find, Option}
use Rattle.std.specs.Prelude.{Some, None, is_some, option_map, option_and_then}
use Rattle.std.specs.List.{list_any}
use Rattle.desk_core.specs.declared.reader.Place.{Place}
use Rattle.desk_core.specs.declared.reader.Place.TheVariants.{Shelf, Desk as AtTheDesk, Out}
use Rattle.desk_core.specs.DeskRows.{Desk, HoldingRow, OrderRow}
use Rattle.office_tables.specs.OrderedInsertion.{put_by}
use Rattle.desk_store.specs.declared.container_orders.ContainerOrder.{ContainerOrder}
use Rattle.desk_store.specs.declared.loans.HoldingLine.{HoldingLine}

-- ---- a container goes to another place

abbrev pub put_down : HoldingRow → List HoldingRow → List HoldingRow
put_down = put_by (λ (h : HoldingRow). pos h.container)

-- a container on the shelf has no row
abbrev pub placed_at : ℕ → Place → List HoldingRow → List HoldingRow
placed_at c Shelf holdings = filter (λ h. not (nat_eq c h.container)) holdings
placed_at c AtTheDesk holdings = put_down (record { container = c; place = 1; held_by = None }) holdings
placed_at c (Out o) holdings = put_down (record { container = c; place = 2; held_by = Some o }) holdings

abbrev pub with_place : ℕ → Place → Desk → Desk
with_place c place d = record d { holdings = placed_at c place d.holdings }

-- ---- containers that are with readers

-- the ticket that placed an order, or none if there is no such order
abbrev pub ticket_of : List OrderRow → ℕ → Option ℕ
ticket_of orders o = option_map (λ (row : OrderRow). row.ticket) (find (λ (row : OrderRow). nat_eq o row.id) orders)

-- the loan of a container that is held by this order; none without an order, or if there is no such order
abbrev pub loan_by : List OrderRow → ℕ → Option ℕ → Option ContainerOrder
loan_by orders c held_by =
    option_and_then (λ o. option_map (λ t. record { container = c; order = o; ticket = t }) (ticket_of orders o)) held_by

-- the loan of the container in this row
abbrev pub issued_by : List OrderRow → HoldingRow → Option ContainerOrder
issued_by orders h = loan_by orders h.container h.held_by

-- the containers that are with readers, by number, each with its order and ticket
abbrev pub issued_of : Desk → List ContainerOrder
issued_of d = filter_map (issued_by d.orders) d.holdings

-- the container is out with an order, whether that exists or not
abbrev pub is_held : HoldingRow → Bool
is_held h = is_some h.held_by

-- ---- some of the containers that are with readers

abbrev pub is_one_of : ℕ → List ℕ → Bool
is_one_of n ns = list_any (λ m. nat_eq m n) ns

abbrev pub line_of : HoldingRow → HoldingLine
line_of h = record { container = h.container; held_by = h.held_by }

-- the lines of those of these containers that are not on the shelf
abbrev pub lines_among : List ℕ → Desk → List HoldingLine
lines_among containers d = map line_of (filter (λ h. is_one_of h.container containers) d.holdings)

-- the loans of the containers in these lines
abbrev pub loans_in : Desk → List HoldingLine → List ContainerOrder
loans_in d lines = filter_map (λ (line : HoldingLine). loan_by d.orders line.container line.held_by) lines

-- those of these containers that are with readers
abbrev pub issued_among : List ℕ → Desk → List ContainerOrder
issued_among containers d = filter (λ (loan : ContainerOrder). is_one_of loan.container containers) (issued_of d)

-- ---- containers that may move

abbrev pub waits_for : ℕ → OrderRow → Bool
waits_for c o = nat_eq 1 o.state && nat_eq c o.container

-- the containers at the desk, by number, each with a flag: whether an order waits for it
abbrev pub at_desk_of : Desk → List (ℕ × Bool)
at_desk_of d =
    map (λ (h : HoldingRow). (h.container, list_any (waits_for h.container) d.orders)) (filter (λ h. nat_eq 1 h.place) d.holdings)

abbrev pub is_on_shelf : Desk → ℕ → Bool
is_on_shelf d c = not (list_any (λ (h : HoldingRow). nat_eq c h.container) d.holdings)

-- the order waits, and no order that waits for its container came before it
abbrev pub is_first_waiting : Desk → OrderRow → Bool
is_first_waiting d o = nat_eq 1 o.state && not (list_any (λ other. waits_for o.container other && nat_lt other.id o.id) d.orders)

-- the first order of each container for which one waits, sorted by the numbers of these orders
abbrev pub firsts_of : Desk → List ContainerOrder
firsts_of d =
    map (λ (o : OrderRow). record { container = o.container; order = o.id; ticket = o.ticket }) (filter (is_first_waiting d) d.orders)

-- those of these orders whose containers are on the shelf
abbrev pub on_shelf : Desk → List ContainerOrder → List ContainerOrder
on_shelf d orders = filter (λ (o : ContainerOrder). is_on_shelf d o.container) orders

-- what a run may take: the containers on the shelf for which an order waits, each with its first order, sorted by the
-- numbers of these orders
abbrev pub candidates_of : Desk → List ContainerOrder
candidates_of d =
    map (λ (o : OrderRow). record { container = o.container; order = o.id; ticket = o.ticket })
    (filter (λ o. is_first_waiting d o && is_on_shelf d o.container) d.orders)
