-- When a desk is sound.
use Rattle.std.specs.Prelude.{◌≡◌, ◌≢◌, ℕ, ℤ, ◌<◌, ◌≤◌, ◌≤ℤ◌, Bool, true, false, List, [], ◌∷◌, length, Option, Some}
use Rattle.std.specs.Prelude.{None, is_some, nat_eq}
use Rattle.std.specs.List.{list_any, AllByRecursion}
use Rattle.isad_core.specs.Limits.{most_orders, most_tickets, most_runs, most_permits}
use Rattle.desk_core.specs.declared.reader.Place.{Place}
use Rattle.desk_core.specs.declared.reader.Place.TheVariants.{Shelf}
use Rattle.isad_core.specs.Boxes.{distinct}
use Rattle.office_core.specs.Words.{nth, some_and, stands}
use Rattle.desk_core.specs.Decisions.{order_out}
use Rattle.office_core.specs.State.{Reader, Order, Line, Run, Permit, End, State, is_ticket, is_seat_of, is_seated}
use Rattle.office_core.specs.State.{is_container, opens, container_of, is_by, held_count, orders_placed}
use Rattle.office_core.specs.Rules.{is_name}

-- ---- orders

-- the places of one order
abbrev pub ExactlyOne : Bool → Bool → Bool → Type 0
ExactlyOne true false false = Unit {0}
ExactlyOne false true false = Unit {0}
ExactlyOne false false true = Unit {0}
ExactlyOne _ _ _ = ⊥

-- An order for container c stands in exactly one of c's queue, c's place and the past, and in no other container's
-- queue or place. A number that is not an order's is in none of them.
abbrev pub IsFiled : (container : Option ℕ) (in_queue in_place : ℕ → Bool) (past : Option End) → Type 0
IsFiled None in_queue in_place past =
    ((c : ℕ) → in_queue c ≡ false) × ((c : ℕ) → in_place c ≡ false) × (past ≡ None)
IsFiled (Some container) in_queue in_place past =
    ExactlyOne (in_queue container) (in_place container) (is_some past)
    × ((c : ℕ) → c ≢ container → in_queue c ≡ false)
    × ((c : ℕ) → c ≢ container → in_place c ≡ false)

abbrev pub is_out_for : ℕ → Place → Bool
is_out_for o place = some_and (nat_eq o) (order_out place)

abbrev pub IsAscending : List ℕ → Type 0
IsAscending [] = Unit {0}
IsAscending (n ∷ ns) = AllByRecursion (λ m. n < m) ns × IsAscending ns

-- each order is in its proper place, and each queue ascends
pub record AreFiled (s : State) : Type 0 where
  pub each : (o : ℕ) → IsFiled (container_of s o) (λ c. stands o (s.queue c)) (λ c. is_out_for o (s.place c)) (s.past o)
  pub queues : (c : ℕ) → IsAscending (s.queue c)

-- an order's ticket and container exist, and its day is not after today
pub record IsGoodOrder (s : State) (order : Order) : Type 0 where
  pub ticket : is_ticket s order.ticket ≡ true
  pub container : is_container s order.container ≡ true
  pub day : order.day ≤ℤ s.day

pub record AreGoodOrders (s : State) : Type 0 where
  pub each : (o : ℕ) (order : Order) → nth s.orders o ≡ Some order → IsGoodOrder s order
  -- no ticket has placed more orders on a day than it may
  pub daily : (t : ℕ) (day : ℤ) → orders_placed s t day ≤ s.settings.daily
  -- no ticket has two live orders for a container
  pub once : (o p : ℕ) (order other : Order) → nth s.orders o ≡ Some order → nth s.orders p ≡ Some other → s.past o ≡ None → s.past p ≡ None → order.ticket ≡ other.ticket → order.container ≡ other.container → o ≡ p
  pub few : length s.orders ≤ most_orders

-- ---- seats

-- no ticket has two seats
abbrev pub SitOnce : List (Option ℕ) → Type 0
SitOnce [] = Unit {0}
SitOnce (None ∷ seats) = SitOnce seats
SitOnce (Some t ∷ seats) = (list_any (is_seat_of t) seats ≡ false) × SitOnce seats

pub record AreGoodSeats (s : State) : Type 0 where
  pub count : length s.seats ≡ s.settings.seats
  pub known : (t : ℕ) → is_seated s t ≡ true → is_ticket s t ≡ true
  pub once : SitOnce s.seats

-- ---- places

-- the holder of the container has a seat, has no more containers than the settings allow, and may see what is in it
pub record IsGoodHolder (s : State) (c t : ℕ) : Type 0 where
  pub seated : is_seated s t ≡ true
  pub few : held_count s t ≤ s.settings.hands
  pub may_see : opens s t c ≡ true

pub record AreGoodPlaces (s : State) : Type 0 where
  pub holders : (c o : ℕ) (order : Order) → order_out (s.place c) ≡ Some o → nth s.orders o ≡ Some order → IsGoodHolder s c order.ticket
  -- a number that is not a container's has the place `Shelf`
  pub known : (c : ℕ) → is_container s c ≡ false → s.place c ≡ Shelf

-- ---- runs

-- the line's order is for its container and by its ticket
pub record IsGoodLine (s : State) (line : Line) : Type 0 where
  pub order : container_of s line.order ≡ Some line.container
  pub ticket : is_by s line.ticket line.order ≡ true

-- each container once, in the order of their numbers
abbrev pub ByContainer : List Line → Type 0
ByContainer [] = Unit {0}
ByContainer (line ∷ lines) = AllByRecursion (λ other. line.container < other.container) lines × ByContainer lines

pub record IsGoodRun (s : State) (run : Run) : Type 0 where
  pub day : run.day ≤ℤ s.day
  pub some : 1 ≤ length run.lines
  pub few : length run.lines ≤ s.settings.run_size
  pub by_container : ByContainer run.lines
  pub lines : AllByRecursion (IsGoodLine s) run.lines

pub record AreGoodRuns (s : State) : Type 0 where
  pub each : (n : ℕ) (run : Run) → nth s.runs n ≡ Some run → IsGoodRun s run
  pub few : length s.runs ≤ most_runs

-- ---- readers and permits

pub record AreGoodReaders (s : State) : Type 0 where
  pub names : (t : ℕ) (reader : Reader) → nth s.readers t ≡ Some reader → is_name reader.name ≡ true
  pub few : length s.readers ≤ most_tickets

-- each unit once, in the order of their numbers
abbrev pub ByUnit : List Permit → Type 0
ByUnit [] = Unit {0}
ByUnit (permit ∷ permits) = AllByRecursion (λ other. permit.unit < other.unit) permits × ByUnit permits

-- the permits belong to registered tickets, ascend by unit, and are not too many
pub record AreGoodPermits (s : State) : Type 0 where
  pub known : (t : ℕ) → is_ticket s t ≡ false → s.permits t ≡ []
  pub by_unit : (t : ℕ) → ByUnit (s.permits t)
  pub few : (t : ℕ) → length (s.permits t) ≤ most_permits

-- ---- the desk

pub record IsSoundDesk (s : State) : Type 0 where
  -- no two containers have the same name, location and kind
  pub boxes : distinct s.catalogue.containers ≡ s.catalogue.containers
  pub filed : AreFiled s
  pub orders : AreGoodOrders s
  pub seats : AreGoodSeats s
  pub places : AreGoodPlaces s
  pub runs : AreGoodRuns s
  pub readers : AreGoodReaders s
  pub permits : AreGoodPermits s
