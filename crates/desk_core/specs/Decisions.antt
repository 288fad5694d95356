-- The facts that the desk's checks use, computed from the values that are passed in.
use Rattle.std.specs.Prelude.{ℕ, ◌==◌, ◌&&◌, Bool, true, false, not, List, Option, Some, None, is_some, find, nat_eq, ℤ}
use Rattle.std.specs.Int.RustNames.{int_lt}
use Rattle.std.specs.List.{list_any, range_with_len}
use Rattle.desk_core.specs.declared.reader.Reader.{Reader}
use Rattle.desk_core.specs.declared.reader.Limits.{Limits}
use Rattle.desk_core.specs.declared.reader.Place.{Place}
use Rattle.desk_core.specs.declared.reader.Place.TheVariants.{Shelf, Desk, Out}
use Rattle.desk_core.specs.declared.order.Ask.{Ask}
use Rattle.desk_core.specs.declared.issue.AtDesk.{AtDesk}
use Rattle.desk_core.specs.Checks.{OrderFacts, IssueFacts, TakeSeatFacts, LeaveSeatFacts}

-- ---- of a reader, or of none where the ticket was not given

-- the last day is before today
abbrev pub has_expired : ℤ → Option Reader → Bool
has_expired today None = false
has_expired today (Some reader) = int_lt reader.until today

abbrev pub reader_seat : Option Reader → Option ℕ
reader_seat None = None
reader_seat (Some reader) = reader.seat

-- how many containers are out with the ticket
abbrev pub held_by : Option Reader → ℕ
held_by None = 0
held_by (Some reader) = reader.held

-- ---- of a container, or of none where it is not known

abbrev pub is_desk : Place → Bool
is_desk Shelf = false
is_desk Desk = true
is_desk (Out order) = false

-- the order that a container is out with
abbrev pub order_out : Place → Option ℕ
order_out Shelf = None
order_out Desk = None
order_out (Out order) = Some order

abbrev pub is_at_desk : Option AtDesk → Bool
is_at_desk None = false
is_at_desk (Some container) = is_desk container.place

abbrev pub is_open_at_desk : Option AtDesk → Bool
is_open_at_desk None = false
is_open_at_desk (Some container) = container.is_open

abbrev pub is_ticket_of_head : ℕ → Option ℕ → Bool
is_ticket_of_head ticket None = false
is_ticket_of_head ticket (Some head) = head == ticket

-- the first order that waits for it is the ticket's
abbrev pub is_headed_by : ℕ → Option AtDesk → Bool
is_headed_by ticket None = false
is_headed_by ticket (Some container) = is_ticket_of_head ticket container.head

-- ---- of the seats

-- the lowest seat from 1 on that is not taken
abbrev pub free_seat : List ℕ → ℕ → Option ℕ
free_seat taken seats = find (λ seat. not (list_any (nat_eq seat) taken)) (range_with_len 1 seats)

-- ---- what is looked at

abbrev pub order_facts : Option Reader → ℤ → Ask → Limits → OrderFacts
order_facts reader today ask limits = record {
  known = is_some reader;
  expired = has_expired today reader;
  available = ask.is_open;
  ordered = ask.already;
  placed = ask.placed;
  daily = limits.daily;
  orders = ask.orders;
}

-- a ticket that was not given is first in no queue
abbrev pub issue_facts : Option AtDesk → ℕ → Option Reader → ℤ → Limits → IssueFacts
issue_facts container ticket reader today limits = record {
  known = is_some container;
  at_desk = is_at_desk container;
  first = is_some reader && is_headed_by ticket container;
  expired = has_expired today reader;
  seated = is_some (reader_seat reader);
  held = held_by reader;
  hands = limits.hands;
  available = is_open_at_desk container;
}

abbrev pub take_seat_facts : Option Reader → ℤ → List ℕ → Limits → TakeSeatFacts
take_seat_facts reader today taken limits = record {
  known = is_some reader;
  expired = has_expired today reader;
  seated = is_some (reader_seat reader);
  free = free_seat taken limits.seats;
}

abbrev pub leave_seat_facts : Option Reader → LeaveSeatFacts
leave_seat_facts reader = record {
  known = is_some reader;
  seated = is_some (reader_seat reader);
  held = held_by reader;
}
