-- What a clerk knows about a ticket, and how tickets are given and renewed.
use Rattle.std.specs.Prelude.{ℕ, suc, ℤ, ◌&&◌, ◌||◌, if◌then◌else◌, Bool, cond, nat_eq, nat_lt, List, [], ◌∷◌, ◌++◌, length}
use Rattle.std.specs.Prelude.{map, filter, find, count_by, Option, Some, None, option_map}
use Rattle.std.specs.Ordering.{int_eq}
use Rattle.isad_core.specs.Texts.{Bytes}
use Rattle.isad_core.specs.Limits.{most_tickets}
use Rattle.desk_core.specs.DeskRows.{Desk, ReaderRow, SeatRow, OrderRow}
use Rattle.desk_core.specs.declared.reader.Reader.{Reader}
use Rattle.desk_store.specs.declared.reader_summary.ReaderCard.{ReaderCard}
use Rattle.desk_store.specs.declared.reader_summary.LiveOrder.{LiveOrder}

-- ---- tickets are given from 1 on, and each only once

-- the next ticket, or none if no ticket is left
abbrev pub next_ticket : Desk → Option ℕ
next_ticket d = cond (nat_lt (length d.readers) most_tickets) (Some (suc (length d.readers))) None

-- the desk with one more reader, who has this ticket; without a ticket, the desk as it is
abbrev pub with_reader : Option ℕ → Bytes → ℤ → Desk → Desk
with_reader None name until d = d
with_reader (Some t) name until d = record d { readers = d.readers ++ record { ticket = t; name = name; until = until } ∷ [] }

-- the reader with the ticket, or none if the ticket was not given
abbrev pub reader_with : ℕ → Desk → Option ReaderRow
reader_with t d = find (λ (r : ReaderRow). nat_eq t r.ticket) d.readers

-- the readers, with this last day for the ticket
abbrev pub renewed_readers : ℕ → ℤ → List ReaderRow → List ReaderRow
renewed_readers t until readers = map (λ (r : ReaderRow). if nat_eq t r.ticket then record r { until = until } else r) readers

abbrev pub with_last_day : ℕ → ℤ → Desk → Desk
with_last_day t until d = record d { readers = renewed_readers t until d.readers }

-- ---- what is known about a ticket

-- the seat on which the ticket's reader sits, or none
abbrev pub seat_of_ticket : ℕ → Desk → Option ℕ
seat_of_ticket t d = option_map (λ (s : SeatRow). s.seat) (find (λ (s : SeatRow). nat_eq t s.ticket) d.seats)

-- the order waits or is out: it is neither done nor cancelled
abbrev pub has_not_ended : OrderRow → Bool
has_not_ended o = nat_eq o.state 1 || nat_eq o.state 2

-- the ticket's orders that wait or are out, by number
abbrev pub orders_not_ended : ℕ → Desk → List LiveOrder
orders_not_ended t d =
    map (λ (o : OrderRow). record { order = o.id; container = o.container; is_out = nat_eq o.state 2 })
    (filter (λ o. nat_eq t o.ticket && has_not_ended o) d.orders)

-- how many containers are out with the ticket: one for each of its orders that is out
abbrev pub held_with : ℕ → Desk → ℕ
held_with t d = count_by (λ (o : OrderRow). nat_eq t o.ticket && nat_eq o.state 2) d.orders

-- how many orders the ticket placed on a day, including those that have ended
abbrev pub placed_on : ℕ → ℤ → Desk → ℕ
placed_on t day d = count_by (λ (o : OrderRow). nat_eq t o.ticket && int_eq o.day day) d.orders

-- who has the ticket, as the desk decides by him: where he sits and how much is out with him
abbrev pub ticket_holder : ℕ → Desk → Option Reader
ticket_holder t d =
    option_map (λ (r : ReaderRow). record { ticket = t; until = r.until; seat = seat_of_ticket t d; held = held_with t d }) (reader_with t d)

-- the reader's card on a day, or none if the ticket was not given
abbrev pub card_of : ℕ → ℤ → Desk → Option ReaderCard
card_of t today d =
    option_map
    (λ (r : ReaderRow). record {
      reader = record { ticket = t; until = r.until; seat = seat_of_ticket t d; held = held_with t d };
      name = r.name;
      live = orders_not_ended t d;
      placed = placed_on t today d;
      orders = length d.orders;
    })
    (reader_with t d)
