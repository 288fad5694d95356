-- What the rules make of small offices. Each expected reply was worked out by hand from the written rules.
use Rattle.std.specs.Prelude.{◌≡◌, ◌+◌, ◌-◌, ℕ, List, true, false, [], ◌∷◌, Some, None, Ok, codes, replicate}
use Rattle.isad_core.specs.Limits.{most_deep, most_permits}
use Rattle.tree_core.specs.Forest.{Forest, each}
use Rattle.tree_core.specs.Spans.{spans_from}
use Rattle.tree_core.specs.Links.{siblings}
use Rattle.tree_core.specs.WorkedExamples.{span_of, link_of}
use Rattle.desk_core.specs.declared.refusal.Refusal.TheVariants.{UnknownUnit, UnknownTicket, UnknownContainer}
use Rattle.desk_core.specs.declared.refusal.Refusal.TheVariants.{TicketExpired, NotAvailable, AlreadyOrdered}
use Rattle.desk_core.specs.declared.refusal.Refusal.TheVariants.{DailyLimit, NoSeatFree, AlreadySeated, NotSeated}
use Rattle.desk_core.specs.declared.refusal.Refusal.TheVariants.{HoldsContainers, UnknownOrder, OrderNotWaiting}
use Rattle.desk_core.specs.declared.refusal.Refusal.TheVariants.{NotAtDesk, NotFirst, HandsFull, NotIssued, DayNotLater}
use Rattle.desk_core.specs.declared.refusal.Refusal.TheVariants.{StillIssued, IntoItself, WithReader, BadFile, Full}
use Rattle.desk_core.specs.declared.refusal.Refusal.TheVariants.{NothingToMove, TooDeep, BadName, NoPermit}
use Rattle.office_core.specs.declared.command.Command.{Command}
use Rattle.office_core.specs.declared.command.Command.TheVariants.{OpenDay, Import, SetStatus, SetClosure, Move, Remove}
use Rattle.office_core.specs.declared.command.Command.TheVariants.{Register, Renew, TakeSeat, LeaveSeat, Order, Cancel}
use Rattle.office_core.specs.declared.command.Command.TheVariants.{Run, Reshelve, Issue, Return, Permit, Revoke}
use Rattle.office_core.specs.declared.done.Done.TheVariants as done
use Rattle.office_core.specs.declared.done.Remark.TheVariants.{LevelTooHigh, LacksEssential}
use Rattle.catalogue_core.specs.Units.{Unit}
use Rattle.office_core.specs.Rules.{Reply, replies, state_after}
use Rattle.office_core.specs.Soundness.{IsSound}
use Rattle.office_core.specs.WorkedExamples.{RepliesAre, new_office, import, draft, close, ann, bob, order, issue_reply}
use Rattle.office_core.specs.WorkedExamples.{refusal_reply, import_reply, february_1, march_1, march_2, march_31}
use Rattle.office_core.specs.WorkedExamples.{april_1, year_end, year_2030, docks, boxes, boxes_with_9, boxes_with_draft}
use Rattle.office_core.specs.WorkedExamples.{lock_gates, lock_gates_apart, parent_later, translated, told_twice}
use Rattle.office_core.specs.WorkedExamples.{upside_down, chain, harbour, with_most_permits}

-- the reply to the import of four boxes: none has all six essential elements
abbrev pub four_new : Reply
four_new = import_reply 0 4 0 0 (LacksEssential 2 ∷ LacksEssential 3 ∷ LacksEssential 4 ∷ LacksEssential 5 ∷ [])

-- a queue of two tickets: who is first, who is issued the box, and who comes next
abbrev pub QueueOfTwo : Type 0
QueueOfTwo =
    RepliesAre
    (import boxes ∷ ann ∷ bob ∷ Order 1 1 ∷ Order 2 1 ∷ Run ∷ Issue 1 2 ∷ TakeSeat 1 ∷ Issue 1 1 ∷ Issue 1 2 ∷ Return 1 ∷ TakeSeat 2 ∷ Issue 1 2 ∷ [])
    (four_new ∷ Ok (done.Register 1) ∷ Ok (done.Register 2) ∷ order 1 ∷ order 2 ∷ Ok (done.Run 1 1) ∷ refusal_reply NotFirst ∷ Ok (done.TakeSeat 1) ∷ issue_reply 1 ∷ refusal_reply NotAtDesk ∷ Ok (done.Return 1) ∷ Ok (done.TakeSeat 2) ∷ issue_reply 2 ∷ [])

-- a container that a reader has can be neither closed nor kept overnight
abbrev pub GateAndDay : Type 0
GateAndDay =
    RepliesAre
    (import boxes ∷ ann ∷ bob ∷ Order 1 1 ∷ Order 2 1 ∷ Run ∷ Issue 1 2 ∷ TakeSeat 1 ∷ Issue 1 1 ∷ close 1 april_1 ∷ OpenDay march_2 ∷ Return 1 ∷ close 1 april_1 ∷ OpenDay march_2 ∷ [])
    (four_new ∷ Ok (done.Register 1) ∷ Ok (done.Register 2) ∷ order 1 ∷ order 2 ∷ Ok (done.Run 1 1) ∷ refusal_reply NotFirst ∷ Ok (done.TakeSeat 1) ∷ issue_reply 1 ∷ refusal_reply (WithReader 1) ∷ refusal_reply StillIssued ∷ Ok (done.Return 1) ∷ Ok (done.SetClosure 1) ∷ Ok (done.OpenDay march_2) ∷ [])

-- runs of two and of one, and then nothing to fetch
abbrev pub RunOfTwoAndOne : Type 0
RunOfTwoAndOne =
    RepliesAre
    (import boxes ∷ ann ∷ Order 1 1 ∷ Order 1 2 ∷ Order 1 3 ∷ Run ∷ Run ∷ Run ∷ [])
    (four_new ∷ Ok (done.Register 1) ∷ order 1 ∷ order 2 ∷ order 3 ∷ Ok (done.Run 1 2) ∷ Ok (done.Run 2 1) ∷ refusal_reply NothingToMove ∷ [])

-- a day's orders, including a cancelled one, and the next day's
abbrev pub OrdersOfADay : Type 0
OrdersOfADay =
    RepliesAre
    (import boxes ∷ ann ∷ Order 1 1 ∷ Order 1 2 ∷ Order 1 3 ∷ Order 1 4 ∷ Cancel 1 ∷ Cancel 1 ∷ Order 1 4 ∷ OpenDay march_2 ∷ Order 1 4 ∷ [])
    (four_new ∷ Ok (done.Register 1) ∷ order 1 ∷ order 2 ∷ order 3 ∷ refusal_reply DailyLimit ∷ Ok (done.Cancel 1) ∷ refusal_reply OrderNotWaiting ∷ refusal_reply DailyLimit ∷ Ok (done.OpenDay march_2) ∷ order 4 ∷ [])

-- two seats for three tickets
abbrev pub Seats : Type 0
Seats =
    RepliesAre
    (ann ∷ bob ∷ ann ∷ TakeSeat 1 ∷ TakeSeat 2 ∷ TakeSeat 3 ∷ TakeSeat 1 ∷ LeaveSeat 1 ∷ LeaveSeat 1 ∷ TakeSeat 3 ∷ TakeSeat 9 ∷ [])
    (Ok (done.Register 1) ∷ Ok (done.Register 2) ∷ Ok (done.Register 3) ∷ Ok (done.TakeSeat 1) ∷ Ok (done.TakeSeat 2) ∷ refusal_reply NoSeatFree ∷ refusal_reply AlreadySeated ∷ Ok (done.LeaveSeat 1) ∷ refusal_reply NotSeated ∷ Ok (done.TakeSeat 1) ∷ refusal_reply UnknownTicket ∷ [])

-- a ticket that expires, and is renewed
abbrev pub ExpiryAndRenewal : Type 0
ExpiryAndRenewal =
    RepliesAre
    (import boxes ∷ Register (codes "Ann") march_1 ∷ Order 1 1 ∷ OpenDay march_2 ∷ Order 1 2 ∷ Renew 1 year_end ∷ Order 1 2 ∷ OpenDay march_2 ∷ [])
    (four_new ∷ Ok (done.Register 1) ∷ order 1 ∷ Ok (done.OpenDay march_2) ∷ refusal_reply TicketExpired ∷ Ok (done.Renew 1) ∷ order 2 ∷ refusal_reply DayNotLater ∷ [])

-- one container in hand, with which the seat cannot be left, and what goes back to the shelf
abbrev pub HandsAndReshelving : Type 0
HandsAndReshelving =
    RepliesAre
    (import boxes ∷ ann ∷ Order 1 1 ∷ Order 1 2 ∷ Run ∷ TakeSeat 1 ∷ Issue 1 1 ∷ Issue 2 1 ∷ LeaveSeat 1 ∷ Return 1 ∷ Return 1 ∷ Reshelve ∷ Reshelve ∷ [])
    (four_new ∷ Ok (done.Register 1) ∷ order 1 ∷ order 2 ∷ Ok (done.Run 1 2) ∷ Ok (done.TakeSeat 1) ∷ issue_reply 1 ∷ refusal_reply HandsFull ∷ refusal_reply HoldsContainers ∷ Ok (done.Return 1) ∷ refusal_reply NotIssued ∷ Ok (done.Reshelve (1 ∷ [])) ∷ refusal_reply NothingToMove ∷ [])

-- a run takes the lowest orders, and the gate refuses an import that takes the contents out of a box that is out
abbrev pub LeastOrders : Type 0
LeastOrders =
    RepliesAre
    (import boxes ∷ ann ∷ bob ∷ Order 1 2 ∷ Order 2 2 ∷ Order 2 3 ∷ Order 1 1 ∷ Run ∷ TakeSeat 1 ∷ Issue 1 1 ∷ Issue 2 1 ∷ import boxes_with_draft ∷ import boxes_with_9 ∷ Cancel 1 ∷ [])
    (four_new ∷ Ok (done.Register 1) ∷ Ok (done.Register 2) ∷ order 1 ∷ order 2 ∷ order 3 ∷ order 4 ∷ Ok (done.Run 1 2) ∷ Ok (done.TakeSeat 1) ∷ refusal_reply NotAtDesk ∷ issue_reply 1 ∷ import_reply 0 0 4 0 (LacksEssential 2 ∷ LacksEssential 3 ∷ LacksEssential 4 ∷ LacksEssential 5 ∷ []) ∷ refusal_reply (WithReader 2) ∷ refusal_reply OrderNotWaiting ∷ [])

-- a box is closed with a unit in it, until that unit has a box of its own
abbrev pub LockGates : Type 0
LockGates =
    RepliesAre
    (import lock_gates ∷ ann ∷ close 2 year_2030 ∷ Order 1 1 ∷ import lock_gates_apart ∷ Order 1 1 ∷ Order 1 2 ∷ Order 1 3 ∷ [])
    (import_reply 0 2 0 0 (LacksEssential 2 ∷ []) ∷ Ok (done.Register 1) ∷ Ok (done.SetClosure 2) ∷ refusal_reply NotAvailable ∷ import_reply 1 0 1 0 (LacksEssential 2 ∷ []) ∷ order 1 ∷ refusal_reply NotAvailable ∷ refusal_reply NotAvailable ∷ [])

-- a permit opens a box only to its ticket, up to its last day, and cannot be taken away while the box is out
abbrev pub Permits : Type 0
Permits =
    RepliesAre
    (import lock_gates ∷ ann ∷ bob ∷ close 2 year_2030 ∷ Order 1 1 ∷ Permit 1 2 march_1 ∷ Order 1 1 ∷ Order 2 1 ∷ Permit 1 2 february_1 ∷ OpenDay march_2 ∷ Run ∷ Permit 1 1 march_31 ∷ Run ∷ TakeSeat 1 ∷ Issue 1 1 ∷ Revoke 1 1 ∷ Revoke 1 2 ∷ Return 1 ∷ Revoke 1 1 ∷ Revoke 1 1 ∷ [])
    (import_reply 0 2 0 0 (LacksEssential 2 ∷ []) ∷ Ok (done.Register 1) ∷ Ok (done.Register 2) ∷ Ok (done.SetClosure 2) ∷ refusal_reply NotAvailable ∷ Ok (done.Permit 1 2 march_1) ∷ order 1 ∷ refusal_reply NotAvailable ∷ Ok (done.Permit 1 2 march_1) ∷ Ok (done.OpenDay march_2) ∷ refusal_reply NothingToMove ∷ Ok (done.Permit 1 1 march_31) ∷ Ok (done.Run 1 1) ∷ Ok (done.TakeSeat 1) ∷ issue_reply 1 ∷ refusal_reply (WithReader 1) ∷ Ok (done.Revoke 2) ∷ Ok (done.Return 1) ∷ Ok (done.Revoke 1) ∷ refusal_reply NoPermit ∷ [])

-- a permit does not open a draft, and is removed with its unit
abbrev pub PermitsAndDrafts : Type 0
PermitsAndDrafts =
    RepliesAre
    (import lock_gates ∷ ann ∷ close 2 year_2030 ∷ Permit 1 2 year_end ∷ draft 2 ∷ Order 1 1 ∷ Permit 9 1 year_end ∷ Permit 1 9 year_end ∷ Remove 1 ∷ Revoke 1 2 ∷ import lock_gates ∷ Revoke 1 3 ∷ [])
    (import_reply 0 2 0 0 (LacksEssential 2 ∷ []) ∷ Ok (done.Register 1) ∷ Ok (done.SetClosure 2) ∷ Ok (done.Permit 1 2 year_end) ∷ Ok (done.SetStatus 1) ∷ refusal_reply NotAvailable ∷ refusal_reply UnknownTicket ∷ refusal_reply UnknownUnit ∷ Ok (done.Remove 2) ∷ refusal_reply UnknownUnit ∷ import_reply 0 2 0 0 (LacksEssential 2 ∷ []) ∷ refusal_reply NoPermit ∷ [])

-- a file that is imported again changes nothing, and a status stays
abbrev pub ImportAgain : Type 0
ImportAgain =
    RepliesAre
    (import docks ∷ import docks ∷ Import (codes "b") docks ∷ draft 2 ∷ import docks ∷ [])
    (import_reply 0 2 0 0 (LacksEssential 2 ∷ []) ∷ import_reply 0 0 2 0 (LacksEssential 2 ∷ []) ∷ import_reply 0 2 0 0 (LacksEssential 2 ∷ []) ∷ Ok (done.SetStatus 1) ∷ import_reply 0 0 2 0 (LacksEssential 2 ∷ []) ∷ [])

-- faulty files and a bad source that are refused, a file with only a header, and a translation
abbrev pub FaultyFiles : Type 0
FaultyFiles =
    RepliesAre
    (import (codes "legacyId\n") ∷ import [] ∷ import parent_later ∷ import translated ∷ import told_twice ∷ Import (codes "a b") docks ∷ [])
    (import_reply 0 0 0 0 [] ∷ refusal_reply (BadFile 1 2) ∷ refusal_reply (BadFile 3 11) ∷ import_reply 0 1 0 1 (LacksEssential 2 ∷ []) ∷ refusal_reply (BadFile 3 7) ∷ refusal_reply BadName ∷ [])

-- a level that belongs above its parent's gets a remark
abbrev pub Remarks : Type 0
Remarks =
    RepliesAre
    (import upside_down ∷ import harbour ∷ Import (codes "b") harbour ∷ [])
    (import_reply 0 2 0 0 (LacksEssential 2 ∷ LevelTooHigh 3 ∷ []) ∷ import_reply 2 0 0 0 (LacksEssential 2 ∷ []) ∷ import_reply 0 2 0 0 (LacksEssential 2 ∷ []) ∷ [])

-- a unit is not moved into itself, and the numbers of removed units are not given again
abbrev pub Moves : Type 0
Moves =
    RepliesAre
    (import docks ∷ Move 2 None ∷ Move 2 (Some 1) ∷ Move 1 (Some 2) ∷ Move 1 (Some 1) ∷ Move 9 None ∷ Move 1 (Some 9) ∷ Remove 1 ∷ Remove 1 ∷ import docks ∷ SetStatus 3 true true ∷ SetStatus 3 true false ∷ [])
    (import_reply 0 2 0 0 (LacksEssential 2 ∷ []) ∷ Ok (done.Move 2) ∷ Ok (done.Move 2) ∷ refusal_reply IntoItself ∷ refusal_reply IntoItself ∷ refusal_reply UnknownUnit ∷ refusal_reply UnknownUnit ∷ Ok (done.Remove 2) ∷ refusal_reply UnknownUnit ∷ import_reply 0 2 0 0 (LacksEssential 2 ∷ []) ∷ Ok (done.SetStatus 2) ∷ Ok (done.SetStatus 1) ∷ [])

-- names and numbers that are refused
abbrev pub Unknown : Type 0
Unknown =
    RepliesAre
    (Register (codes " ") year_end ∷ Cancel 5 ∷ Issue 9 1 ∷ Return 9 ∷ SetStatus 9 true false ∷ SetClosure 9 None ∷ Renew 1 year_end ∷ LeaveSeat 1 ∷ Order 1 1 ∷ Revoke 1 1 ∷ Run ∷ Reshelve ∷ Cancel 0 ∷ Order 0 0 ∷ [])
    (refusal_reply BadName ∷ refusal_reply UnknownOrder ∷ refusal_reply UnknownContainer ∷ refusal_reply UnknownContainer ∷ refusal_reply UnknownUnit ∷ refusal_reply UnknownUnit ∷ refusal_reply UnknownTicket ∷ refusal_reply UnknownTicket ∷ refusal_reply UnknownTicket ∷ refusal_reply UnknownTicket ∷ refusal_reply NothingToMove ∷ refusal_reply NothingToMove ∷ refusal_reply UnknownOrder ∷ refusal_reply UnknownTicket ∷ [])

-- an expired ticket gets no seat, and is issued no box
abbrev pub ExpiredAtTheDesk : Type 0
ExpiredAtTheDesk =
    RepliesAre
    (import boxes ∷ Register (codes "Ann") march_1 ∷ Order 1 1 ∷ Run ∷ OpenDay march_2 ∷ TakeSeat 1 ∷ Renew 1 year_end ∷ TakeSeat 1 ∷ Renew 1 march_1 ∷ Issue 1 1 ∷ Renew 1 march_2 ∷ Issue 1 1 ∷ [])
    (four_new ∷ Ok (done.Register 1) ∷ order 1 ∷ Ok (done.Run 1 1) ∷ Ok (done.OpenDay march_2) ∷ refusal_reply TicketExpired ∷ Ok (done.Renew 1) ∷ Ok (done.TakeSeat 1) ∷ Ok (done.Renew 1) ∷ refusal_reply TicketExpired ∷ Ok (done.Renew 1) ∷ issue_reply 1 ∷ [])

-- a closure until a day ends on that day
abbrev pub ClosureEnds : Type 0
ClosureEnds =
    RepliesAre
    (import boxes ∷ ann ∷ close 1 march_2 ∷ Order 1 1 ∷ OpenDay march_2 ∷ Order 1 1 ∷ close 2 march_1 ∷ Order 1 2 ∷ close 3 april_1 ∷ SetClosure 3 None ∷ Order 1 3 ∷ [])
    (four_new ∷ Ok (done.Register 1) ∷ Ok (done.SetClosure 1) ∷ refusal_reply NotAvailable ∷ Ok (done.OpenDay march_2) ∷ order 1 ∷ Ok (done.SetClosure 2) ∷ order 2 ∷ Ok (done.SetClosure 3) ∷ Ok (done.SetClosure 3) ∷ order 3 ∷ [])

-- a new day frees all seats
abbrev pub SeatsOvernight : Type 0
SeatsOvernight =
    RepliesAre
    (ann ∷ bob ∷ TakeSeat 2 ∷ TakeSeat 1 ∷ OpenDay march_2 ∷ LeaveSeat 1 ∷ TakeSeat 1 ∷ TakeSeat 2 ∷ [])
    (Ok (done.Register 1) ∷ Ok (done.Register 2) ∷ Ok (done.TakeSeat 1) ∷ Ok (done.TakeSeat 2) ∷ Ok (done.OpenDay march_2) ∷ refusal_reply NotSeated ∷ Ok (done.TakeSeat 1) ∷ Ok (done.TakeSeat 2) ∷ [])

-- the gate names the lowest container, not the lowest order
abbrev pub LowestContainer : Type 0
LowestContainer =
    RepliesAre
    (import boxes ∷ ann ∷ bob ∷ Order 1 3 ∷ Order 2 2 ∷ Run ∷ TakeSeat 1 ∷ TakeSeat 2 ∷ Issue 3 1 ∷ Issue 2 2 ∷ Move 3 (Some 1) ∷ Move 2 (Some 1) ∷ SetStatus 1 true true ∷ SetStatus 1 true false ∷ close 1 march_2 ∷ Remove 1 ∷ Return 2 ∷ Remove 1 ∷ Return 3 ∷ Remove 1 ∷ [])
    (four_new ∷ Ok (done.Register 1) ∷ Ok (done.Register 2) ∷ order 1 ∷ order 2 ∷ Ok (done.Run 1 2) ∷ Ok (done.TakeSeat 1) ∷ Ok (done.TakeSeat 2) ∷ issue_reply 1 ∷ issue_reply 2 ∷ Ok (done.Move 3) ∷ Ok (done.Move 2) ∷ refusal_reply (WithReader 2) ∷ refusal_reply (WithReader 2) ∷ refusal_reply (WithReader 2) ∷ refusal_reply (WithReader 2) ∷ Ok (done.Return 2) ∷ refusal_reply (WithReader 3) ∷ Ok (done.Return 1) ∷ Ok (done.Remove 3) ∷ [])

-- the head is cancelled while the box is at the desk: the next order is the head
abbrev pub HeadCancelled : Type 0
HeadCancelled =
    RepliesAre
    (import boxes ∷ ann ∷ bob ∷ Order 1 1 ∷ Order 2 1 ∷ Run ∷ Cancel 1 ∷ TakeSeat 1 ∷ TakeSeat 2 ∷ Issue 1 1 ∷ Issue 1 2 ∷ [])
    (four_new ∷ Ok (done.Register 1) ∷ Ok (done.Register 2) ∷ order 1 ∷ order 2 ∷ Ok (done.Run 1 1) ∷ Ok (done.Cancel 1) ∷ Ok (done.TakeSeat 1) ∷ Ok (done.TakeSeat 2) ∷ refusal_reply NotFirst ∷ issue_reply 2 ∷ [])

-- if two refusals apply at once, the reply is the first in the list
abbrev pub TwoAtOnce : Type 0
TwoAtOnce =
    RepliesAre
    (import boxes ∷ Register (codes "Ann") march_1 ∷ Order 1 1 ∷ TakeSeat 1 ∷ Order 1 1 ∷ Order 1 9 ∷ Order 1 2 ∷ Order 1 3 ∷ Order 1 3 ∷ Order 1 4 ∷ Run ∷ Issue 1 1 ∷ OpenDay march_1 ∷ Return 1 ∷ OpenDay march_2 ∷ Order 1 1 ∷ TakeSeat 1 ∷ Issue 2 1 ∷ Issue 3 1 ∷ Issue 9 9 ∷ Issue 2 9 ∷ [])
    (four_new ∷ Ok (done.Register 1) ∷ order 1 ∷ Ok (done.TakeSeat 1) ∷ refusal_reply AlreadyOrdered ∷ refusal_reply NotAvailable ∷ order 2 ∷ order 3 ∷ refusal_reply AlreadyOrdered ∷ refusal_reply DailyLimit ∷ Ok (done.Run 1 2) ∷ issue_reply 1 ∷ refusal_reply DayNotLater ∷ Ok (done.Return 1) ∷ Ok (done.OpenDay march_2) ∷ refusal_reply TicketExpired ∷ refusal_reply TicketExpired ∷ refusal_reply TicketExpired ∷ refusal_reply NotAtDesk ∷ refusal_reply UnknownContainer ∷ refusal_reply NotFirst ∷ [])

-- a box that is out can be ordered, but not by the reader who has it
abbrev pub WithReaderAgain : Type 0
WithReaderAgain =
    RepliesAre
    (import boxes ∷ ann ∷ bob ∷ Order 1 1 ∷ Run ∷ TakeSeat 1 ∷ Issue 1 1 ∷ Order 1 1 ∷ Order 2 1 ∷ Run ∷ Return 1 ∷ Reshelve ∷ Order 1 1 ∷ Cancel 2 ∷ TakeSeat 2 ∷ Issue 1 1 ∷ [])
    (four_new ∷ Ok (done.Register 1) ∷ Ok (done.Register 2) ∷ order 1 ∷ Ok (done.Run 1 1) ∷ Ok (done.TakeSeat 1) ∷ issue_reply 1 ∷ refusal_reply AlreadyOrdered ∷ order 2 ∷ refusal_reply NothingToMove ∷ Ok (done.Return 1) ∷ refusal_reply NothingToMove ∷ order 3 ∷ Ok (done.Cancel 2) ∷ Ok (done.TakeSeat 2) ∷ issue_reply 3 ∷ [])

-- a permit for any unit of a path opens every closure on that path, and each unit in the box must be open
abbrev pub PermitsAbove : Type 0
PermitsAbove =
    RepliesAre
    (import lock_gates ∷ ann ∷ close 1 year_2030 ∷ Order 1 1 ∷ Permit 1 2 year_end ∷ Order 1 1 ∷ Permit 1 1 year_end ∷ Order 1 1 ∷ Run ∷ TakeSeat 1 ∷ Issue 1 1 ∷ Renew 1 march_1 ∷ Remove 2 ∷ draft 2 ∷ [])
    (import_reply 0 2 0 0 (LacksEssential 2 ∷ []) ∷ Ok (done.Register 1) ∷ Ok (done.SetClosure 1) ∷ refusal_reply NotAvailable ∷ Ok (done.Permit 1 2 year_end) ∷ refusal_reply NotAvailable ∷ Ok (done.Permit 1 1 year_end) ∷ order 1 ∷ Ok (done.Run 1 1) ∷ Ok (done.TakeSeat 1) ∷ issue_reply 1 ∷ Ok (done.Renew 1) ∷ Ok (done.Remove 1) ∷ refusal_reply UnknownUnit ∷ [])

-- a reader's name has no control character, and up to 100 bytes
abbrev pub NamesOfReaders : Type 0
NamesOfReaders =
    RepliesAre
    (Register (codes "A\tB") year_end ∷ Register (codes "A\u{7f}B") year_end ∷ Register [] year_end ∷ Register (replicate 101 65) year_end ∷ Register (replicate 100 65) year_end ∷ Import (codes "") docks ∷ Import (codes "A-z_0.9") docks ∷ [])
    (refusal_reply BadName ∷ refusal_reply BadName ∷ refusal_reply BadName ∷ refusal_reply BadName ∷ Ok (done.Register 1) ∷ refusal_reply BadName ∷ import_reply 0 2 0 0 (LacksEssential 2 ∷ []) ∷ [])

-- what is not issued at the desk: a box to a reader without a seat, and a box that was closed since it was ordered
abbrev pub AtTheCounter : Type 0
AtTheCounter =
    RepliesAre
    (import boxes ∷ ann ∷ Order 1 1 ∷ Order 1 2 ∷ Run ∷ Issue 1 1 ∷ TakeSeat 1 ∷ close 1 april_1 ∷ Issue 1 1 ∷ Issue 2 1 ∷ close 3 april_1 ∷ Move 2 (Some 3) ∷ Return 2 ∷ Move 2 (Some 3) ∷ Issue 1 1 ∷ [])
    (four_new ∷ Ok (done.Register 1) ∷ order 1 ∷ order 2 ∷ Ok (done.Run 1 2) ∷ refusal_reply NotSeated ∷ Ok (done.TakeSeat 1) ∷ Ok (done.SetClosure 1) ∷ refusal_reply NotAvailable ∷ issue_reply 2 ∷ Ok (done.SetClosure 3) ∷ refusal_reply (WithReader 2) ∷ Ok (done.Return 2) ∷ Ok (done.Move 2) ∷ refusal_reply NotAvailable ∷ [])

-- no import and no move puts a unit deeper than the limit
abbrev pub Depths : Type 0
Depths =
    RepliesAre
    (import (chain (most_deep + 1)) ∷ import (chain most_deep) ∷ Import (codes "b") docks ∷ Move 1 (Some (most_deep + 1)) ∷ Move 2 (Some (most_deep + 1)) ∷ Move (most_deep + 1) (Some 1) ∷ Move 3 (Some (most_deep + 2)) ∷ Move (most_deep + 1) (Some (most_deep - 2)) ∷ Move (most_deep + 1) (Some (most_deep - 3)) ∷ [])
    (refusal_reply (BadFile (most_deep + 2) 12) ∷ import_reply 0 most_deep 0 0 (LacksEssential 2 ∷ []) ∷ import_reply 0 2 0 0 (LacksEssential 2 ∷ []) ∷ refusal_reply TooDeep ∷ Ok (done.Move 2) ∷ refusal_reply TooDeep ∷ Ok (done.Move 3) ∷ refusal_reply IntoItself ∷ refusal_reply IntoItself ∷ [])

-- a ticket may have permits for so many units and no more; a later day for one of them is still granted
pub record MostPermits : Type 0 where
  pub office_sound : IsSound with_most_permits
  pub told : replies with_most_permits (Permit 1 (most_permits + 1) april_1 ∷ Permit 1 most_permits april_1 ∷ Permit 1 1 april_1 ∷ Permit 1 1 march_31 ∷ Revoke 1 50 ∷ Permit 1 (most_permits + 1) april_1 ∷ Permit 1 50 april_1 ∷ [])
      ≡ refusal_reply Full ∷ Ok (done.Permit 1 most_permits april_1) ∷ Ok (done.Permit 1 1 april_1) ∷ Ok (done.Permit 1 1 april_1) ∷ Ok (done.Revoke 50) ∷ Ok (done.Permit 1 (most_permits + 1) april_1) ∷ refusal_reply Full ∷ []

-- the unit numbers in their places
abbrev pub numbers_after : List Command → Forest ℕ
numbers_after asked = each (λ (unit : Unit). unit.id) (state_after new_office asked).catalogue.forest

-- the rows of the places: moves renumber, and what is removed leaves no gap
pub record Placed : Type 0 where
  pub first : spans_from 1 (numbers_after (import docks ∷ [])) ≡ span_of 1 1 4 ∷ span_of 2 2 3 ∷ []
  pub moved : spans_from 1 (numbers_after (import docks ∷ Move 2 None ∷ [])) ≡ span_of 1 1 2 ∷ span_of 2 3 4 ∷ []
  pub moved_back : siblings (numbers_after (import docks ∷ Move 2 None ∷ Move 2 (Some 1) ∷ []))
      ≡ link_of 1 None 1 ∷ link_of 2 (Some 1) 1 ∷ []
  pub removed : spans_from 1 (numbers_after (import docks ∷ Remove 1 ∷ [])) ≡ []
  pub again : spans_from 1 (numbers_after (import docks ∷ Remove 1 ∷ import docks ∷ [])) ≡ span_of 3 1 4 ∷ span_of 4 2 3 ∷ []
  pub refused : (state_after new_office (import parent_later ∷ [])).catalogue.next ≡ 1
