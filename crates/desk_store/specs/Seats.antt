-- The seats that are taken, and who has them.
use Rattle.std.specs.Prelude.{◌≡◌, ℕ, pos, not, false, nat_eq, List, [], map, filter, Option, Some, None, ⊤}
use Rattle.std.specs.List.{list_any}
use Rattle.desk_core.specs.DeskRows.{Desk, SeatRow}
use Rattle.office_tables.specs.OrderedInsertion.{put_by}
use Rattle.desk_store.specs.declared.taken_seats.TakenSeat.{TakenSeat}

-- the seats that are taken, by number, each with the ticket of the reader who sits there
abbrev pub taken_seats : Desk → List TakenSeat
taken_seats d = map (λ (s : SeatRow). record { seat = s.seat; ticket = s.ticket }) d.seats

-- a seat is taken by a ticket, or is free again
abbrev pub seated : ℕ → Option ℕ → List SeatRow → List SeatRow
seated seat None seats = filter (λ s. not (nat_eq seat s.seat)) seats
seated seat (Some t) seats = put_by (λ (s : SeatRow). pos s.seat) (record { seat = seat; ticket = t }) seats

abbrev pub with_seat : ℕ → Option ℕ → Desk → Desk
with_seat seat who d = record d { seats = seated seat who d.seats }

-- a ticket may take a seat if nobody sits there and the ticket has no seat; a seat may always be freed
abbrev pub MayTake : ℕ → Option ℕ → Desk → Type 0
MayTake seat None d = ⊤
MayTake seat (Some t) d =
    (list_any (λ (s : SeatRow). nat_eq seat s.seat) d.seats ≡ false) × (list_any (λ (s : SeatRow). nat_eq t s.ticket) d.seats ≡ false)

-- nobody sits
abbrev pub all_free : Desk → Desk
all_free d = record d { seats = [] }
