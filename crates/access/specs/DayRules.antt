-- The rules of the day about the containers that are out. A reader who has one must have a seat, must not have more
-- containers than are allowed at once, and must be allowed to see what lies in it.
use Rattle.std.specs.Prelude.{ℕ, Bool, not, ◌||◌, List, nat_eq, nat_lt}
use Rattle.std.specs.List.{count_by, list_any}
use Rattle.desk_core.specs.DeskRows.{Desk, SeatRow}
use Rattle.desk_store.specs.declared.container_orders.ContainerOrder.{ContainerOrder}
use Rattle.office_core.specs.State.{State, containers, is_seated}
use Rattle.state_encoding.specs.Causes.{is_held_against_rules}
use Rattle.access.specs.Gate.{is_closed_to}

-- some container is out against a rule of the day
abbrev pub breaks_day_rules : State → Bool
breaks_day_rules s = list_any (is_held_against_rules s) (containers s)

-- ---- the same of loans: the containers that are out, each with its reader

-- the reader of this loan has more than `hands` of these loans
abbrev pub has_too_many : ℕ → List ContainerOrder → ContainerOrder → Bool
has_too_many hands loans loan = nat_lt hands (count_by (λ (other : ContainerOrder). nat_eq loan.ticket other.ticket) loans)

-- the reader has no seat
abbrev pub is_without_seat : State → ContainerOrder → Bool
is_without_seat s loan = not (is_seated s loan.ticket)

-- either of these, or the reader may not see what lies in the container
abbrev pub is_against_rules : State → List ContainerOrder → ContainerOrder → Bool
is_against_rules s loans loan = has_too_many s.settings.hands loans loan || (is_without_seat s loan || is_closed_to s loan)

-- one of these containers is out against a rule of the day, given that no others are out
abbrev pub are_against_rules : State → List ContainerOrder → Bool
are_against_rules s loans = list_any (is_against_rules s loans) loans

-- ---- numbers and rows

-- a number occurs more than `most` times
abbrev pub number_occurs_more_than : ℕ → List ℕ → Bool
number_occurs_more_than most numbers = list_any (λ n. nat_lt most (count_by (nat_eq n) numbers)) numbers

-- no row of the seats has the reader's ticket
abbrev pub has_no_row : Desk → ContainerOrder → Bool
has_no_row d loan = not (list_any (λ (seat : SeatRow). nat_eq loan.ticket seat.ticket) d.seats)
