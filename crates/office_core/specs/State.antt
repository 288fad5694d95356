-- The state of the office: its catalogue and its reading room.
use Rattle.std.specs.Prelude.{ℕ, ℤ, int_lt, int_le, Bool, true, false, not, ◌&&◌, ◌||◌, cond, List, [], ◌∷◌, length}
use Rattle.std.specs.Prelude.{map, take, filter, filter_map, replicate, count_by, Option, Some, None, option_map}
use Rattle.std.specs.Prelude.{is_some, is_none, nat_eq, nat_lt}
use Rattle.std.specs.Ordering.{int_eq}
use Rattle.std.specs.List.{list_any}
use Rattle.isad_core.specs.Texts.{Bytes}
use Rattle.desk_core.specs.Orders.{in_order}
use Rattle.desk_core.specs.declared.reader.Place.{Place}
use Rattle.desk_core.specs.declared.reader.Place.TheVariants.{Shelf, Desk, Out}
use Rattle.catalogue_core.specs.CatalogueMerge.{Catalogue, empty_catalogue}
use Rattle.catalogue_core.specs.ContainerContents.{is_open}
use Rattle.office_core.specs.Words.{nth, numbers_to, some_and, place_of, first, is_empty, stands}
use Rattle.desk_core.specs.Decisions.{is_desk, order_out}

pub record Settings : Type 0 where
  pub country : Bytes
  pub repo : Bytes
  pub seats : ℕ  -- how many seats there are
  pub daily : ℕ  -- how many orders a ticket may place in a day
  pub hands : ℕ  -- how many containers may be out with a ticket
  pub run_size : ℕ  -- how many containers a run takes

pub record Reader : Type 0 where
  pub name : Bytes
  pub until : ℤ  -- the last day of the ticket

pub record Order : Type 0 where
  pub ticket : ℕ
  pub container : ℕ
  pub day : ℤ  -- when it was placed

-- a line of a run: a container that it fetches, the first order for it, and the ticket of that order
pub record Line : Type 0 where
  pub container : ℕ
  pub order : ℕ
  pub ticket : ℕ

pub record Run : Type 0 where
  pub day : ℤ
  pub lines : List Line  -- by container

-- how an order ended
pub data End : Type 0 where
  Done : End
  Cancelled : End

pub record Permit : Type 0 where
  pub unit : ℕ
  pub until : ℤ  -- its last day

pub record State : Type 0 where
  pub settings : Settings
  pub day : ℤ
  pub catalogue : Catalogue
  -- the desk
  pub readers : List Reader  -- ticket n is the n-th
  pub seats : List (Option ℕ)  -- who sits on seat n
  pub orders : List Order  -- order n is the n-th
  pub runs : List Run  -- run n is the n-th
  pub place : ℕ → Place  -- where each container is
  pub queue : ℕ → List ℕ  -- of each container: the orders that wait for it
  pub past : ℕ → Option End  -- of each order that waits no more and is not out
  pub permits : ℕ → List Permit  -- of each ticket, by unit

-- a new office has nothing but its settings and its day
abbrev pub start : Settings → ℤ → State
start settings day =
    record {
      settings = settings;
      day = day;
      catalogue = empty_catalogue;
      readers = [];
      seats = replicate settings.seats None;
      orders = [];
      runs = [];
      place = λ c. Shelf;
      queue = λ c. [];
      past = λ o. None;
      permits = λ t. [];
    }

-- ---- readers and seats

abbrev pub is_ticket : State → ℕ → Bool
is_ticket s t = is_some (nth s.readers t)

-- the ticket's last day is before today
abbrev pub is_expired : State → ℕ → Bool
is_expired s t = some_and (λ reader. int_lt reader.until s.day) (nth s.readers t)

abbrev pub is_seat_of : ℕ → Option ℕ → Bool
is_seat_of t seat = some_and (nat_eq t) seat

abbrev pub is_seated : State → ℕ → Bool
is_seated s t = list_any (is_seat_of t) s.seats

abbrev pub seat_of : State → ℕ → Option ℕ
seat_of s t = place_of (is_seat_of t) s.seats

-- the lowest free seat
abbrev pub lowest_free_seat : State → Option ℕ
lowest_free_seat s = place_of is_none s.seats

-- the ticket takes the lowest free seat
abbrev pub sit : ℕ → List (Option ℕ) → List (Option ℕ)
sit t [] = []
sit t (None ∷ seats) = Some t ∷ seats
sit t (Some u ∷ seats) = Some u ∷ sit t seats

-- frees the ticket's seat
abbrev pub rise : ℕ → List (Option ℕ) → List (Option ℕ)
rise t seats = map (λ seat. cond (is_seat_of t seat) None seat) seats

-- ---- containers and orders

abbrev pub containers : State → List ℕ
containers s = numbers_to (length s.catalogue.containers)

abbrev pub is_container : State → ℕ → Bool
is_container s c = is_some (nth s.catalogue.containers c)

-- one of these permits is for that unit and valid on that day
abbrev pub is_permitted : ℤ → List Permit → ℕ → Bool
is_permitted day permits u = list_any (λ permit. nat_eq permit.unit u && int_le day permit.until) permits

-- the container is known, and open today to the reader with this ticket
abbrev pub opens : State → ℕ → ℕ → Bool
opens s t c =
    some_and
    (λ box. is_open s.catalogue.forest box (is_permitted s.day (s.permits t)) s.day)
    (nth s.catalogue.containers c)

abbrev pub container_of : State → ℕ → Option ℕ
container_of s o = option_map (λ order. order.container) (nth s.orders o)

abbrev pub is_by : State → ℕ → ℕ → Bool
is_by s t o = some_and (λ order. nat_eq order.ticket t) (nth s.orders o)

abbrev pub is_shelf : Place → Bool
is_shelf Shelf = true
is_shelf Desk = false
is_shelf (Out o) = false

abbrev pub is_out : State → ℕ → Bool
is_out s c = is_some (order_out (s.place c))

abbrev pub is_out_with : State → ℕ → ℕ → Bool
is_out_with s t c = some_and (is_by s t) (order_out (s.place c))

-- how many containers are out with the ticket
abbrev pub held_count : State → ℕ → ℕ
held_count s t = count_by (is_out_with s t) (containers s)

abbrev pub waits : State → ℕ → Bool
waits s o = some_and (λ c. stands o (s.queue c)) (container_of s o)

-- an order of this ticket for the container waits or is out
abbrev pub has_ordered : State → ℕ → ℕ → Bool
has_ordered s t c = list_any (is_by s t) (s.queue c) || is_out_with s t c

-- how many orders the ticket placed on a day, including cancelled ones
abbrev pub orders_placed : State → ℕ → ℤ → ℕ
orders_placed s t day = count_by (λ order. nat_eq order.ticket t && int_eq order.day day) s.orders

-- ---- runs

-- the order is the first for its container, which is on the shelf and open to the order's ticket
abbrev pub is_due : State → ℕ → Bool
is_due s o =
    some_and
    (λ order. some_and (nat_eq o) (first (s.queue order.container))
    && (is_shelf (s.place order.container) && opens s order.ticket order.container))
    (nth s.orders o)

-- the lowest orders that are due, as many as a run takes
abbrev pub orders_of_run : State → List ℕ
orders_of_run s = take s.settings.run_size (filter (is_due s) (numbers_to (length s.orders)))

abbrev pub line_for : State → ℕ → Option Line
line_for s o =
    option_map (λ order. record { container = order.container; order = o; ticket = order.ticket }) (nth s.orders o)

abbrev pub is_line_before : Line → Line → Bool
is_line_before a b = nat_lt a.container b.container

-- its lines are ordered by the numbers of their containers
abbrev pub new_run : State → Run
new_run s = record { day = s.day; lines = in_order is_line_before (filter_map (line_for s) (orders_of_run s)) }

abbrev pub brings : Run → ℕ → Bool
brings run c = list_any (λ line. nat_eq line.container c) run.lines

-- the containers at the desk that nobody waits for
abbrev pub is_idle : State → ℕ → Bool
is_idle s c = is_desk (s.place c) && is_empty (s.queue c)

abbrev pub idle : State → List ℕ
idle s = filter (is_idle s) (containers s)

-- ---- permits

abbrev pub has_permit : State → ℕ → ℕ → Bool
has_permit s t u = list_any (λ permit. nat_eq permit.unit u) (s.permits t)

-- a permit for the unit gets the later of the two days; if there is none, a new one is put in its place in the order of
-- units
abbrev pub granted : ℕ → ℤ → List Permit → List Permit
granted u day [] = record { unit = u; until = day } ∷ []
granted u day (p ∷ ps) =
    cond (nat_eq p.unit u) (record { unit = u; until = cond (int_lt p.until day) day p.until } ∷ ps)
    (cond (nat_lt u p.unit) (record { unit = u; until = day } ∷ (p ∷ ps)) (p ∷ granted u day ps))

abbrev pub revoked : ℕ → List Permit → List Permit
revoked u permits = filter (λ permit. not (nat_eq permit.unit u)) permits

-- the last day of the unit's permit, once it is granted to that day
abbrev pub granted_until : ℕ → ℤ → List Permit → ℤ
granted_until u day [] = day
granted_until u day (p ∷ ps) =
    cond (nat_eq p.unit u) (cond (int_lt p.until day) day p.until) (granted_until u day ps)
