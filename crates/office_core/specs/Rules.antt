-- The rules of the office: what each command requires, in order, what it does, and what it replies.
use Rattle.std.specs.Prelude.{option_map, ℕ, ℤ, int_lt, zero, suc, Bool, not, ◌&&◌, cond, List, [], ◌∷◌, ◌++◌, length}
use Rattle.std.specs.Prelude.{filter, replicate, Option, Some, None, Result, Ok, Err, unwrap_or, is_some, nat_lt}
use Rattle.std.specs.Prelude.{nat_le}
use Rattle.std.specs.List.{list_any}
use Rattle.isad_core.specs.Limits.{most_deep, most_tickets, most_runs, most_permits}
use Rattle.isad_core.specs.Texts.{Bytes}
use Rattle.tree_core.specs.Forest.{branch, has_place}
use Rattle.desk_core.specs.Checks.{order_checks, issue_checks, take_seat_checks, leave_seat_checks}
pub use Rattle.desk_core.specs.Names.{is_name}
use Rattle.desk_core.specs.Refusals.{Check, known_container, when, unless, first_that_holds}
use Rattle.desk_core.specs.declared.reader.Place.{Place}
use Rattle.desk_core.specs.declared.reader.Place.TheVariants.{Shelf, Desk, Out}
use Rattle.desk_core.specs.declared.refusal.Refusal.{Refusal}
use Rattle.desk_core.specs.declared.refusal.Refusal.TheVariants.{UnknownUnit, UnknownTicket, UnknownOrder}
use Rattle.desk_core.specs.declared.refusal.Refusal.TheVariants.{OrderNotWaiting, NotIssued, DayNotLater, StillIssued}
use Rattle.desk_core.specs.declared.refusal.Refusal.TheVariants.{IntoItself, WithReader, Full, NothingToMove, TooDeep}
use Rattle.desk_core.specs.declared.refusal.Refusal.TheVariants.{BadName, NoPermit}
use Rattle.catalogue_core.specs.Units.{has_id}
use Rattle.catalogue_core.specs.Moves.{with_moved, without_branch, is_into_itself, depth_after}
use Rattle.catalogue_core.specs.Statuses.{with_closure, with_status, chosen}
use Rattle.office_core.specs.declared.command.Command.{Command}
use Rattle.office_core.specs.declared.command.Command.TheVariants as command
use Rattle.office_core.specs.declared.done.Done.{Done}
use Rattle.office_core.specs.declared.done.Done.TheVariants as done
use Rattle.office_core.specs.Words.{nth, update_at, some_and, first_that, first, is_empty, stands, without}
use Rattle.desk_core.specs.Decisions.{is_desk, order_out}
use Rattle.office_core.specs.State.{Reader, State, is_ticket, is_expired, is_seated, seat_of, lowest_free_seat, sit}
use Rattle.office_core.specs.State.{rise, containers, is_container, opens, container_of, is_by, is_out, held_count}
use Rattle.office_core.specs.State.{waits, has_ordered, orders_placed, orders_of_run, new_run, brings, idle, has_permit}
use Rattle.office_core.specs.State.{granted, revoked, granted_until}
use Rattle.catalogue_core.specs.UnitLookup.{has_unit}
use Rattle.office_core.specs.State as state
use Rattle.catalogue_core.specs.Intake.{Taken, take}
use Rattle.office_core.specs.ImportReply.{bad_file, too_much, told_of}
use Rattle.catalogue_core.specs.Sources.{is_source}

-- ---- the gate

-- out, and not open to the reader who has it
abbrev pub is_kept_from_holder : State → ℕ → Bool
is_kept_from_holder s c =
    some_and (λ o. some_and (λ order. not (opens s order.ticket c)) (nth s.orders o)) (order_out (s.place c))

-- the lowest container that is out and not open to the reader who has it
abbrev pub lowest_withheld : State → Option ℕ
lowest_withheld s = first_that (is_kept_from_holder s) (containers s)

-- After a change of the catalogue, or after a permit was revoked, no container that is out may be withheld from the
-- reader who has it.
abbrev pub gate : State → Check
gate s = option_map WithReader (lowest_withheld s)

-- ---- what a command does if no check holds

abbrev pub opened : State → ℤ → State
opened s day = record s { day = day; seats = replicate s.settings.seats None }

-- permits go with the units that are removed
abbrev pub removed : State → ℕ → State
removed s u =
    record s {
      catalogue = without_branch u s.catalogue;
      permits = λ t. filter (λ permit. has_unit (without_branch u s.catalogue).forest permit.unit) (s.permits t);
    }

abbrev pub renewed : ℤ → List Reader → ℕ → List Reader
renewed until readers zero = readers
renewed until [] (suc n) = []
renewed until (r ∷ rs) (suc zero) = record r { until = until } ∷ rs
renewed until (r ∷ rs) (suc (suc n)) = r ∷ renewed until rs (suc n)

abbrev pub ordered : State → ℕ → ℕ → State
ordered s t c =
    record s {
      orders = s.orders ++ record { ticket = t; container = c; day = s.day } ∷ [];
      queue = update_at s.queue c (s.queue c ++ suc (length s.orders) ∷ []);
    }

abbrev pub cancelled : State → ℕ → Option ℕ → State
cancelled s o None = s
cancelled s o (Some c) =
    record s { queue = update_at s.queue c (without o (s.queue c)); past = update_at s.past o (Some state.Cancelled) }

abbrev pub fetched : State → State
fetched s = record s { place = λ c. cond (brings (new_run s) c) Desk (s.place c); runs = s.runs ++ new_run s ∷ [] }

abbrev pub reshelved : State → State
reshelved s = record s { place = λ c. cond (stands c (idle s)) Shelf (s.place c) }

-- the first order is out
abbrev pub issued : State → ℕ → List ℕ → State
issued s c [] = s
issued s c (o ∷ os) = record s { queue = update_at s.queue c os; place = update_at s.place c (Out o) }

abbrev pub returned : State → ℕ → Place → State
returned s c Shelf = s
returned s c Desk = s
returned s c (Out o) = record s { place = update_at s.place c Desk; past = update_at s.past o (Some state.Done) }

-- ---- an import

-- what a file from a source makes of the catalogue, or its first faulty row
abbrev pub intake_of : State → Bytes → Bytes → Taken
intake_of s source file = take s.catalogue source file

abbrev pub with_import : State → Taken → State
with_import s (Ok intake) = record s { catalogue = intake.catalogue }
with_import s (Err fault) = s

-- ---- what a command does

abbrev pub after : State → Command → State
after s (command.OpenDay day) = opened s day
after s (command.Import source file) = with_import s (intake_of s source file)
after s (command.SetStatus u draft whole) =
    record s { catalogue = with_status (chosen whole u s.catalogue) draft s.catalogue }
after s (command.SetClosure u until) = record s { catalogue = with_closure u until s.catalogue }
after s (command.Move u parent) = record s { catalogue = with_moved u parent s.catalogue }
after s (command.Remove u) = removed s u
after s (command.Register name until) = record s { readers = s.readers ++ record { name = name; until = until } ∷ [] }
after s (command.Renew t until) = record s { readers = renewed until s.readers t }
after s (command.TakeSeat t) = record s { seats = sit t s.seats }
after s (command.LeaveSeat t) = record s { seats = rise t s.seats }
after s (command.Order t c) = ordered s t c
after s (command.Cancel o) = cancelled s o (container_of s o)
after s command.Run = fetched s
after s command.Reshelve = reshelved s
after s (command.Issue c t) = issued s c (s.queue c)
after s (command.Return c) = returned s c (s.place c)
after s (command.Permit t u until) = record s { permits = update_at s.permits t (granted u until (s.permits t)) }
after s (command.Revoke t u) = record s { permits = update_at s.permits t (revoked u (s.permits t)) }

-- ---- what a command requires, in order

abbrev pub checks : State → Command → List Check
checks s (command.OpenDay day) =
    unless (int_lt s.day day) DayNotLater
    ∷ when (list_any (is_out s) (containers s)) StillIssued
    ∷ []
checks s (command.Import source file) =
    unless (is_source source) BadName
    ∷ bad_file (intake_of s source file)
    ∷ too_much (intake_of s source file)
    ∷ gate (after s (command.Import source file))
    ∷ []
checks s (command.SetStatus u draft whole) =
    unless (has_unit s.catalogue.forest u) UnknownUnit
    ∷ gate (after s (command.SetStatus u draft whole))
    ∷ []
checks s (command.SetClosure u until) =
    unless (has_unit s.catalogue.forest u) UnknownUnit
    ∷ gate (after s (command.SetClosure u until))
    ∷ []
checks s (command.Move u parent) =
    unless (has_unit s.catalogue.forest u) UnknownUnit
    ∷ unless (has_place has_id parent s.catalogue.forest) UnknownUnit
    ∷ when (is_into_itself u parent s.catalogue.forest) IntoItself
    ∷ when (nat_lt most_deep (depth_after u parent s.catalogue.forest)) TooDeep
    ∷ gate (after s (command.Move u parent))
    ∷ []
checks s (command.Remove u) =
    unless (has_unit s.catalogue.forest u) UnknownUnit
    ∷ gate (after s (command.Remove u))
    ∷ []
checks s (command.Register name until) =
    unless (is_name name) BadName
    ∷ when (nat_le most_tickets (length s.readers)) Full
    ∷ []
checks s (command.Renew t until) = unless (is_ticket s t) UnknownTicket ∷ []
checks s (command.TakeSeat t) =
    take_seat_checks
    (record {
      known = is_ticket s t;
      expired = is_expired s t;
      seated = is_seated s t;
      free = lowest_free_seat s;
    })
checks s (command.LeaveSeat t) =
    leave_seat_checks (record { known = is_ticket s t; seated = is_seated s t; held = held_count s t })
checks s (command.Order t c) =
    order_checks
    (record {
      known = is_ticket s t;
      expired = is_expired s t;
      available = opens s t c;
      ordered = has_ordered s t c;
      placed = orders_placed s t s.day;
      daily = s.settings.daily;
      orders = length s.orders;
    })
checks s (command.Cancel o) =
    unless (is_some (container_of s o)) UnknownOrder
    ∷ unless (waits s o) OrderNotWaiting
    ∷ []
checks s command.Run =
    when (is_empty (orders_of_run s)) NothingToMove
    ∷ when (nat_le most_runs (length s.runs)) Full
    ∷ []
checks s command.Reshelve = when (is_empty (idle s)) NothingToMove ∷ []
checks s (command.Issue c t) =
    issue_checks
    (record {
      known = is_container s c;
      at_desk = is_desk (s.place c);
      first = some_and (is_by s t) (first (s.queue c));
      expired = is_expired s t;
      seated = is_seated s t;
      held = held_count s t;
      hands = s.settings.hands;
      available = opens s t c;
    })
checks s (command.Return c) =
    known_container (is_container s c)
    ∷ unless (is_out s c) NotIssued
    ∷ []
checks s (command.Permit t u until) =
    unless (is_ticket s t) UnknownTicket
    ∷ unless (has_unit s.catalogue.forest u) UnknownUnit
    ∷ when (not (has_permit s t u) && nat_le most_permits (length (s.permits t))) Full
    ∷ []
checks s (command.Revoke t u) =
    unless (is_ticket s t) UnknownTicket
    ∷ unless (has_unit s.catalogue.forest u) UnknownUnit
    ∷ unless (has_permit s t u) NoPermit
    ∷ gate (after s (command.Revoke t u))
    ∷ []

-- ---- the result if no check holds

abbrev pub result_of : State → Command → Done
result_of s (command.OpenDay day) = done.OpenDay day
result_of s (command.Import source file) = told_of s.catalogue.forest source (intake_of s source file)
result_of s (command.SetStatus u draft whole) = done.SetStatus (length (chosen whole u s.catalogue))
result_of s (command.SetClosure u until) = done.SetClosure u
result_of s (command.Move u parent) = done.Move u
result_of s (command.Remove u) = done.Remove (length (branch (has_id u) s.catalogue.forest))
result_of s (command.Register name until) = done.Register (suc (length s.readers))
result_of s (command.Renew t until) = done.Renew t
result_of s (command.TakeSeat t) = done.TakeSeat (unwrap_or (lowest_free_seat s) 0)
result_of s (command.LeaveSeat t) = done.LeaveSeat (unwrap_or (seat_of s t) 0)
result_of s (command.Order t c) = done.Order (suc (length s.orders))
result_of s (command.Cancel o) = done.Cancel o
result_of s command.Run = done.Run (suc (length s.runs)) (length (orders_of_run s))
result_of s command.Reshelve = done.Reshelve (idle s)
result_of s (command.Issue c t) = done.Issue (unwrap_or (first (s.queue c)) 0)
result_of s (command.Return c) = done.Return (unwrap_or (order_out (s.place c)) 0)
result_of s (command.Permit t u until) = done.Permit t u (granted_until u until (s.permits t))
result_of s (command.Revoke t u) = done.Revoke u

-- ---- one step: the first check that holds refuses the command, and nothing changes

abbrev pub refusal : State → Command → Option Refusal
refusal s asked = first_that_holds (checks s asked)

abbrev pub Reply : Type 0
Reply = Result Done Refusal

abbrev pub decide : Option Refusal → State → State → Done → State × Reply
decide (Some why) old new done = (old, Err why)
decide None old new done = (new, Ok done)

abbrev pub step : State → Command → State × Reply
step s asked = decide (refusal s asked) s (after s asked) (result_of s asked)

-- the state after a list of commands, and the replies to them
abbrev pub state_after : State → List Command → State
state_after s [] = s
state_after s (asked ∷ later) = state_after (step s asked).0 later

abbrev pub replies : State → List Command → List Reply
replies s [] = []
replies s (asked ∷ later) = (step s asked).1 ∷ replies (step s asked).0 later
