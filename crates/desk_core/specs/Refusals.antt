-- Refusals: their numbers and names, and the first check of a command that holds.
use Rattle.std.specs.Prelude.{ℕ, Bool, true, false, List, [], ◌∷◌, Option, Some, None, codes}
use Rattle.desk_core.specs.declared.refusal.Refusal.{Refusal}
use Rattle.desk_core.specs.declared.refusal.Refusal.TheVariants.{UnknownUnit, UnknownTicket, UnknownContainer}
use Rattle.desk_core.specs.declared.refusal.Refusal.TheVariants.{TicketExpired, NotAvailable, AlreadyOrdered}
use Rattle.desk_core.specs.declared.refusal.Refusal.TheVariants.{DailyLimit, NoSeatFree, AlreadySeated, NotSeated}
use Rattle.desk_core.specs.declared.refusal.Refusal.TheVariants.{HoldsContainers, UnknownOrder, OrderNotWaiting}
use Rattle.desk_core.specs.declared.refusal.Refusal.TheVariants.{NotAtDesk, NotFirst, HandsFull, NotIssued, DayNotLater}
use Rattle.desk_core.specs.declared.refusal.Refusal.TheVariants.{StillIssued, IntoItself, WithReader, BadFile, Full}
use Rattle.desk_core.specs.declared.refusal.Refusal.TheVariants.{NothingToMove, TooDeep, UnknownRun, BadName, NoPermit}

-- the number of a refusal
abbrev pub refusal_number : Refusal → ℕ
refusal_number UnknownUnit = 1
refusal_number UnknownTicket = 2
refusal_number UnknownContainer = 3
refusal_number TicketExpired = 4
refusal_number NotAvailable = 5
refusal_number AlreadyOrdered = 6
refusal_number DailyLimit = 7
refusal_number NoSeatFree = 8
refusal_number AlreadySeated = 9
refusal_number NotSeated = 10
refusal_number HoldsContainers = 11
refusal_number UnknownOrder = 12
refusal_number OrderNotWaiting = 13
refusal_number NotAtDesk = 14
refusal_number NotFirst = 15
refusal_number HandsFull = 16
refusal_number NotIssued = 17
refusal_number DayNotLater = 18
refusal_number StillIssued = 19
refusal_number IntoItself = 20
refusal_number (WithReader container) = 21
refusal_number (BadFile row cause) = 22
refusal_number Full = 23
refusal_number NothingToMove = 24
refusal_number TooDeep = 25
refusal_number UnknownRun = 26
refusal_number BadName = 27
refusal_number NoPermit = 28

-- the name of a refusal
abbrev pub refusal_name : Refusal → List ℕ
refusal_name UnknownUnit = codes "UnknownUnit"
refusal_name UnknownTicket = codes "UnknownTicket"
refusal_name UnknownContainer = codes "UnknownContainer"
refusal_name TicketExpired = codes "TicketExpired"
refusal_name NotAvailable = codes "NotAvailable"
refusal_name AlreadyOrdered = codes "AlreadyOrdered"
refusal_name DailyLimit = codes "DailyLimit"
refusal_name NoSeatFree = codes "NoSeatFree"
refusal_name AlreadySeated = codes "AlreadySeated"
refusal_name NotSeated = codes "NotSeated"
refusal_name HoldsContainers = codes "HoldsContainers"
refusal_name UnknownOrder = codes "UnknownOrder"
refusal_name OrderNotWaiting = codes "OrderNotWaiting"
refusal_name NotAtDesk = codes "NotAtDesk"
refusal_name NotFirst = codes "NotFirst"
refusal_name HandsFull = codes "HandsFull"
refusal_name NotIssued = codes "NotIssued"
refusal_name DayNotLater = codes "DayNotLater"
refusal_name StillIssued = codes "StillIssued"
refusal_name IntoItself = codes "IntoItself"
refusal_name (WithReader container) = codes "WithReader"
refusal_name (BadFile row cause) = codes "BadFile"
refusal_name Full = codes "Full"
refusal_name NothingToMove = codes "NothingToMove"
refusal_name TooDeep = codes "TooDeep"
refusal_name UnknownRun = codes "UnknownRun"
refusal_name BadName = codes "BadName"
refusal_name NoPermit = codes "NoPermit"

-- a check of a command: the refusal to return, if the check holds
abbrev pub Check : Type 0
Check = Option Refusal

abbrev pub when : Bool → Refusal → Check
when true refusal = Some refusal
when false refusal = None

abbrev pub unless : Bool → Refusal → Check
unless true refusal = None
unless false refusal = Some refusal

-- the container is known
abbrev pub known_container : Bool → Check
known_container known = unless known UnknownContainer

-- A command goes through its checks in order. The first that holds is the refusal; if none holds, the command is
-- carried out.
abbrev pub first_that_holds : List Check → Option Refusal
first_that_holds [] = None
first_that_holds (Some refusal ∷ checks) = Some refusal
first_that_holds (None ∷ checks) = first_that_holds checks
