-- What the rules make of small reading rooms, in cases where two rules are easily confused. Each expected reply was
-- worked out by hand from the written rules.
use Rattle.std.specs.Prelude.{[], ◌∷◌, None, Ok, codes}
use Rattle.desk_core.specs.declared.refusal.Refusal.TheVariants.{UnknownTicket, TicketExpired, NotAvailable, NotFirst}
use Rattle.desk_core.specs.declared.refusal.Refusal.TheVariants.{HandsFull, WithReader, NoPermit}
use Rattle.office_core.specs.declared.command.Command.TheVariants.{OpenDay, Move, Remove, Register, Renew, TakeSeat}
use Rattle.office_core.specs.declared.command.Command.TheVariants.{LeaveSeat, Order, Cancel, Run, Reshelve, Issue}
use Rattle.office_core.specs.declared.command.Command.TheVariants.{Return, Permit, Revoke}
use Rattle.office_core.specs.declared.done.Done.TheVariants as done
use Rattle.office_core.specs.WorkedReplies.{four_new}
use Rattle.office_core.specs.WorkedExamples.{RepliesAre, import, draft, close, ann, bob, order, issue_reply}
use Rattle.office_core.specs.WorkedExamples.{refusal_reply, february_1, march_1, march_2, april_1, year_end, boxes}

-- ---- tickets

-- only the named ticket is renewed, to a later or an earlier day
abbrev pub RenewedAlone : Type 0
RenewedAlone =
    RepliesAre
    (ann ∷ Register (codes "Bob") march_1 ∷ OpenDay march_2 ∷ TakeSeat 2 ∷ Renew 2 year_end ∷ TakeSeat 2 ∷ Renew 2 march_1 ∷ TakeSeat 1 ∷ [])
    (Ok (done.Register 1) ∷ Ok (done.Register 2) ∷ Ok (done.OpenDay march_2) ∷ refusal_reply TicketExpired ∷ Ok (done.Renew 2) ∷ Ok (done.TakeSeat 1) ∷ Ok (done.Renew 2) ∷ Ok (done.TakeSeat 2) ∷ [])

-- a ticket can be given with a last day that is past: it has expired at once
abbrev pub RegisteredTooLate : Type 0
RegisteredTooLate =
    RepliesAre
    (Register (codes "Ann") february_1 ∷ TakeSeat 1 ∷ Renew 1 march_1 ∷ TakeSeat 1 ∷ [])
    (Ok (done.Register 1) ∷ refusal_reply TicketExpired ∷ Ok (done.Renew 1) ∷ Ok (done.TakeSeat 1) ∷ [])

-- ---- runs

-- a run fetches for the first order of a box, even if its ticket has expired since
abbrev pub RunForAnExpiredTicket : Type 0
RunForAnExpiredTicket =
    RepliesAre
    (import boxes ∷ Register (codes "Ann") march_1 ∷ Order 1 1 ∷ OpenDay march_2 ∷ Run ∷ Issue 1 1 ∷ [])
    (four_new ∷ Ok (done.Register 1) ∷ order 1 ∷ Ok (done.OpenDay march_2) ∷ Ok (done.Run 1 1) ∷ refusal_reply TicketExpired ∷ [])

-- the containers that go back to the shelf are listed in ascending order, however they were ordered and fetched
abbrev pub ReshelvedInOrder : Type 0
ReshelvedInOrder =
    RepliesAre
    (import boxes ∷ ann ∷ Order 1 3 ∷ Order 1 1 ∷ Run ∷ Cancel 2 ∷ Cancel 1 ∷ Reshelve ∷ [])
    (four_new ∷ Ok (done.Register 1) ∷ order 1 ∷ order 2 ∷ Ok (done.Run 1 2) ∷ Ok (done.Cancel 2) ∷ Ok (done.Cancel 1) ∷ Ok (done.Reshelve (1 ∷ 3 ∷ [])) ∷ [])

-- a run fetches for a reader whose hands are full, even though that reader is issued nothing more
abbrev pub RunForFullHands : Type 0
RunForFullHands =
    RepliesAre
    (import boxes ∷ ann ∷ Order 1 1 ∷ Run ∷ TakeSeat 1 ∷ Issue 1 1 ∷ Order 1 2 ∷ Order 1 3 ∷ Run ∷ Issue 2 1 ∷ [])
    (four_new ∷ Ok (done.Register 1) ∷ order 1 ∷ Ok (done.Run 1 1) ∷ Ok (done.TakeSeat 1) ∷ issue_reply 1 ∷ order 2 ∷ order 3 ∷ Ok (done.Run 2 2) ∷ refusal_reply HandsFull ∷ [])

-- ---- tickets that have expired, if nothing depends on it

-- a ticket that expires while a container is out with it: this container may not be withheld, other units may be
-- changed, the container can be returned, and the seat can be left
abbrev pub ExpiredHolder : Type 0
ExpiredHolder =
    RepliesAre
    (import boxes ∷ ann ∷ Order 1 1 ∷ Run ∷ TakeSeat 1 ∷ Issue 1 1 ∷ Renew 1 february_1 ∷ draft 3 ∷ draft 1 ∷ close 2 april_1 ∷ Move 4 None ∷ Remove 4 ∷ Return 1 ∷ draft 1 ∷ LeaveSeat 1 ∷ [])
    (four_new ∷ Ok (done.Register 1) ∷ order 1 ∷ Ok (done.Run 1 1) ∷ Ok (done.TakeSeat 1) ∷ issue_reply 1 ∷ Ok (done.Renew 1) ∷ Ok (done.SetStatus 1) ∷ refusal_reply (WithReader 1) ∷ Ok (done.SetClosure 2) ∷ Ok (done.Move 4) ∷ Ok (done.Remove 1) ∷ Ok (done.Return 1) ∷ Ok (done.SetStatus 1) ∷ Ok (done.LeaveSeat 1) ∷ [])

-- an expired ticket can be given permits, and they can be taken away again
abbrev pub PermitsOfTheExpired : Type 0
PermitsOfTheExpired =
    RepliesAre
    (import boxes ∷ Register (codes "Ann") february_1 ∷ Permit 1 2 april_1 ∷ Revoke 1 1 ∷ Revoke 1 2 ∷ Revoke 1 2 ∷ [])
    (four_new ∷ Ok (done.Register 1) ∷ Ok (done.Permit 1 2 april_1) ∷ refusal_reply NoPermit ∷ Ok (done.Revoke 2) ∷ refusal_reply NoPermit ∷ [])

-- a permit keeps the later day, even if it is past
abbrev pub PermitOfAnEarlierDay : Type 0
PermitOfAnEarlierDay =
    RepliesAre
    (import boxes ∷ ann ∷ Permit 1 2 march_1 ∷ OpenDay march_2 ∷ Permit 1 2 february_1 ∷ Permit 1 2 april_1 ∷ Permit 1 2 march_2 ∷ [])
    (four_new ∷ Ok (done.Register 1) ∷ Ok (done.Permit 1 2 march_1) ∷ Ok (done.OpenDay march_2) ∷ Ok (done.Permit 1 2 march_1) ∷ Ok (done.Permit 1 2 april_1) ∷ Ok (done.Permit 1 2 april_1) ∷ [])

-- ---- if two refusals apply at once, the reply is the first in the list

-- a box that waits for another reader, requested with an expired ticket: the other reader is first
abbrev pub NotFirstAndExpired : Type 0
NotFirstAndExpired =
    RepliesAre
    (import boxes ∷ Register (codes "Ann") march_1 ∷ bob ∷ Order 2 1 ∷ Order 1 1 ∷ Run ∷ OpenDay march_2 ∷ Issue 1 1 ∷ Cancel 1 ∷ Issue 1 1 ∷ [])
    (four_new ∷ Ok (done.Register 1) ∷ Ok (done.Register 2) ∷ order 1 ∷ order 2 ∷ Ok (done.Run 1 1) ∷ Ok (done.OpenDay march_2) ∷ refusal_reply NotFirst ∷ Ok (done.Cancel 1) ∷ refusal_reply TicketExpired ∷ [])

-- a box that was closed since it was ordered, requested with full hands: the hands are full
abbrev pub HandsFullAndClosed : Type 0
HandsFullAndClosed =
    RepliesAre
    (import boxes ∷ ann ∷ Order 1 1 ∷ Order 1 2 ∷ Run ∷ TakeSeat 1 ∷ Issue 1 1 ∷ close 2 april_1 ∷ Issue 2 1 ∷ Return 1 ∷ Issue 2 1 ∷ [])
    (four_new ∷ Ok (done.Register 1) ∷ order 1 ∷ order 2 ∷ Ok (done.Run 1 2) ∷ Ok (done.TakeSeat 1) ∷ issue_reply 1 ∷ Ok (done.SetClosure 2) ∷ refusal_reply HandsFull ∷ Ok (done.Return 1) ∷ refusal_reply NotAvailable ∷ [])

-- a box that was closed since it was ordered, ordered again: it is not available
abbrev pub OrderedAndClosed : Type 0
OrderedAndClosed =
    RepliesAre
    (import boxes ∷ ann ∷ Order 1 1 ∷ close 1 april_1 ∷ Order 1 1 ∷ [])
    (four_new ∷ Ok (done.Register 1) ∷ order 1 ∷ Ok (done.SetClosure 1) ∷ refusal_reply NotAvailable ∷ [])

-- a permit for an unknown ticket and an unknown unit: the ticket is unknown
abbrev pub UnknownTicketAndUnit : Type 0
UnknownTicketAndUnit = RepliesAre (Permit 9 9 year_end ∷ Revoke 9 9 ∷ []) (refusal_reply UnknownTicket ∷ refusal_reply UnknownTicket ∷ [])
