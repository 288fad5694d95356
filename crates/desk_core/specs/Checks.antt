-- The facts that the desk checks before an order, an issue, taking a seat and leaving a seat, in order.
use Rattle.std.specs.Prelude.{ℕ, Bool, nat_le, nat_lt, List, [], ◌∷◌, Option, is_none}
use Rattle.isad_core.specs.Limits.{most_orders}
use Rattle.desk_core.specs.declared.refusal.Refusal.TheVariants.{UnknownTicket, TicketExpired, NotAvailable}
use Rattle.desk_core.specs.declared.refusal.Refusal.TheVariants.{AlreadyOrdered, DailyLimit, NoSeatFree, AlreadySeated}
use Rattle.desk_core.specs.declared.refusal.Refusal.TheVariants.{NotSeated, HoldsContainers, NotAtDesk, NotFirst}
use Rattle.desk_core.specs.declared.refusal.Refusal.TheVariants.{HandsFull, Full}
use Rattle.desk_core.specs.Refusals.{Check, known_container, when, unless}

-- ---- a ticket orders a container

pub record OrderFacts : Type 0 where
  pub known : Bool  -- the ticket was given
  pub expired : Bool  -- its last day is before today
  pub available : Bool  -- the container is known, and open to the ticket's reader today
  pub ordered : Bool  -- an order of the ticket for it waits or is out
  pub placed : ℕ  -- the orders that the ticket placed today, cancelled ones too
  pub daily : ℕ  -- how many a ticket may place in a day
  pub orders : ℕ  -- all orders so far

abbrev pub order_checks : OrderFacts → List Check
order_checks o =
    unless o.known UnknownTicket
    ∷ when o.expired TicketExpired
    ∷ unless o.available NotAvailable
    ∷ when o.ordered AlreadyOrdered
    ∷ when (nat_le o.daily o.placed) DailyLimit
    ∷ when (nat_le most_orders o.orders) Full
    ∷ []

-- ---- a container is issued to a ticket

pub record IssueFacts : Type 0 where
  pub known : Bool  -- the container is known
  pub at_desk : Bool  -- it is at the desk
  pub first : Bool  -- the first order that waits for it is the ticket's
  pub expired : Bool  -- the ticket's last day is before today
  pub seated : Bool  -- the ticket has a seat
  pub held : ℕ  -- the containers that are out with the ticket
  pub hands : ℕ  -- how many may be out with a ticket
  pub available : Bool  -- the container is open to the ticket's reader today

abbrev pub issue_checks : IssueFacts → List Check
issue_checks i =
    known_container i.known
    ∷ unless i.at_desk NotAtDesk
    ∷ unless i.first NotFirst
    ∷ when i.expired TicketExpired
    ∷ unless i.seated NotSeated
    ∷ when (nat_le i.hands i.held) HandsFull
    ∷ unless i.available NotAvailable
    ∷ []

-- ---- a ticket takes a seat

pub record TakeSeatFacts : Type 0 where
  pub known : Bool  -- the ticket was given
  pub expired : Bool  -- its last day is before today
  pub seated : Bool  -- it has a seat
  pub free : Option ℕ  -- the least free seat

abbrev pub take_seat_checks : TakeSeatFacts → List Check
take_seat_checks s =
    unless s.known UnknownTicket
    ∷ when s.expired TicketExpired
    ∷ when s.seated AlreadySeated
    ∷ when (is_none s.free) NoSeatFree
    ∷ []

-- ---- a ticket leaves its seat

pub record LeaveSeatFacts : Type 0 where
  pub known : Bool  -- the ticket was given
  pub seated : Bool  -- it has a seat
  pub held : ℕ  -- the containers that are out with the ticket

abbrev pub leave_seat_checks : LeaveSeatFacts → List Check
leave_seat_checks l =
    unless l.known UnknownTicket
    ∷ unless l.seated NotSeated
    ∷ when (nat_lt 0 l.held) HoldsContainers
    ∷ []
