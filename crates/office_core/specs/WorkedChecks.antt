-- If several refusals apply at once, the reply is the first in the command's list. In each row the expected refusal and
-- all after it apply.
use Rattle.std.specs.Prelude.{◌≡◌, ◌+◌, ◌-◌, true, false, [], ◌∷◌, Option, Some, None, codes}
use Rattle.isad_core.specs.Limits.{most_orders, most_permits}
use Rattle.desk_core.specs.Checks.{OrderFacts, order_checks, IssueFacts, issue_checks, TakeSeatFacts, take_seat_checks}
use Rattle.desk_core.specs.Checks.{LeaveSeatFacts, leave_seat_checks}
use Rattle.desk_core.specs.Refusals.{first_that_holds}
use Rattle.desk_core.specs.declared.refusal.Refusal.{Refusal}
use Rattle.desk_core.specs.declared.refusal.Refusal.TheVariants.{UnknownUnit, UnknownTicket, UnknownContainer}
use Rattle.desk_core.specs.declared.refusal.Refusal.TheVariants.{TicketExpired, NotAvailable, AlreadyOrdered}
use Rattle.desk_core.specs.declared.refusal.Refusal.TheVariants.{DailyLimit, NoSeatFree, AlreadySeated, NotSeated}
use Rattle.desk_core.specs.declared.refusal.Refusal.TheVariants.{HoldsContainers, NotAtDesk, NotFirst, HandsFull}
use Rattle.desk_core.specs.declared.refusal.Refusal.TheVariants.{BadName, Full}
use Rattle.office_core.specs.declared.command.Command.TheVariants.{Import, Permit}
use Rattle.office_core.specs.Rules.{replies}
use Rattle.office_core.specs.WorkedExamples.{RepliesAre, refusal_reply, with_most_permits, april_1}

-- ---- an order

abbrev pub order_refused : OrderFacts → Option Refusal
order_refused facts = first_that_holds (order_checks facts)

pub record OrderInTurn : Type 0 where
  pub ticket : order_refused (record { known = false; expired = true; available = false; ordered = true; placed = 3; daily = 3; orders = most_orders }) ≡ Some UnknownTicket
  pub expired : order_refused (record { known = true; expired = true; available = false; ordered = true; placed = 3; daily = 3; orders = most_orders }) ≡ Some TicketExpired
  pub withheld : order_refused (record { known = true; expired = false; available = false; ordered = true; placed = 3; daily = 3; orders = most_orders }) ≡ Some NotAvailable
  pub ordered : order_refused (record { known = true; expired = false; available = true; ordered = true; placed = 3; daily = 3; orders = most_orders }) ≡ Some AlreadyOrdered
  pub day : order_refused (record { known = true; expired = false; available = true; ordered = false; placed = 3; daily = 3; orders = most_orders }) ≡ Some DailyLimit
  pub full : order_refused (record { known = true; expired = false; available = true; ordered = false; placed = 2; daily = 3; orders = most_orders }) ≡ Some Full
  pub last : order_refused (record { known = true; expired = false; available = true; ordered = false; placed = 2; daily = 3; orders = most_orders - 1 }) ≡ None

-- ---- an issue

abbrev pub issue_refused : IssueFacts → Option Refusal
issue_refused facts = first_that_holds (issue_checks facts)

pub record IssueInTurn : Type 0 where
  pub container : issue_refused (record { known = false; at_desk = false; first = false; expired = true; seated = false; held = 2; hands = 2; available = false }) ≡ Some UnknownContainer
  pub elsewhere : issue_refused (record { known = true; at_desk = false; first = false; expired = true; seated = false; held = 2; hands = 2; available = false }) ≡ Some NotAtDesk
  pub another : issue_refused (record { known = true; at_desk = true; first = false; expired = true; seated = false; held = 2; hands = 2; available = false }) ≡ Some NotFirst
  pub expired : issue_refused (record { known = true; at_desk = true; first = true; expired = true; seated = false; held = 2; hands = 2; available = false }) ≡ Some TicketExpired
  pub standing : issue_refused (record { known = true; at_desk = true; first = true; expired = false; seated = false; held = 2; hands = 2; available = false }) ≡ Some NotSeated
  pub full_hands : issue_refused (record { known = true; at_desk = true; first = true; expired = false; seated = true; held = 2; hands = 2; available = false }) ≡ Some HandsFull
  pub withheld : issue_refused (record { known = true; at_desk = true; first = true; expired = false; seated = true; held = 1; hands = 2; available = false }) ≡ Some NotAvailable
  pub given : issue_refused (record { known = true; at_desk = true; first = true; expired = false; seated = true; held = 1; hands = 2; available = true }) ≡ None
  pub standing_and_withheld : issue_refused (record { known = true; at_desk = true; first = true; expired = false; seated = false; held = 0; hands = 2; available = false }) ≡ Some NotSeated

-- ---- seats

abbrev pub seat_refused : TakeSeatFacts → Option Refusal
seat_refused facts = first_that_holds (take_seat_checks facts)

abbrev pub leaving_refused : LeaveSeatFacts → Option Refusal
leaving_refused facts = first_that_holds (leave_seat_checks facts)

pub record SeatsInTurn : Type 0 where
  pub ticket : seat_refused (record { known = false; expired = true; seated = true; free = None }) ≡ Some UnknownTicket
  pub expired : seat_refused (record { known = true; expired = true; seated = true; free = None }) ≡ Some TicketExpired
  pub seated : seat_refused (record { known = true; expired = false; seated = true; free = None }) ≡ Some AlreadySeated
  pub none_free : seat_refused (record { known = true; expired = false; seated = false; free = None }) ≡ Some NoSeatFree
  pub taken : seat_refused (record { known = true; expired = false; seated = false; free = Some 2 }) ≡ None
  pub leaving_ticket : leaving_refused (record { known = false; seated = false; held = 1 }) ≡ Some UnknownTicket
  pub standing : leaving_refused (record { known = true; seated = false; held = 1 }) ≡ Some NotSeated
  pub holding : leaving_refused (record { known = true; seated = true; held = 1 }) ≡ Some HoldsContainers
  pub left : leaving_refused (record { known = true; seated = true; held = 0 }) ≡ None

-- ---- permits and imports

-- a permit of an unknown ticket for an unknown unit; one permit too many for an unknown unit, and one for a known unit
abbrev pub PermitInTurn : Type 0
PermitInTurn =
    replies with_most_permits
    (Permit 9 (most_permits + 2) april_1 ∷ Permit 1 (most_permits + 2) april_1 ∷ Permit 1 (most_permits + 1) april_1 ∷ [])
    ≡ refusal_reply UnknownTicket ∷ refusal_reply UnknownUnit ∷ refusal_reply Full ∷ []

-- a file that cannot be read, from a source with a bad name
abbrev pub NameBeforeFile : Type 0
NameBeforeFile = RepliesAre (Import [] [] ∷ Import (codes "a b") (codes "title\n") ∷ []) (refusal_reply BadName ∷ refusal_reply BadName ∷ [])
