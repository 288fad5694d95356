-- What the rules make of offices with other settings: the lowest that may be set, some in between, and the highest.
-- Each expected reply was worked out by hand from the written rules.
use Rattle.std.specs.Prelude.{◌≡◌, ◌+◌, ◌++◌, ℕ, zero, suc, List, [], ◌∷◌, Ok, codes, decimal, replicate}
use Rattle.isad_core.specs.Limits.{most_seats, most_daily, most_hands, most_run_size}
use Rattle.isad_core.specs.Texts.{Bytes}
use Rattle.desk_core.specs.declared.refusal.Refusal.TheVariants.{DailyLimit, NoSeatFree, HandsFull, NothingToMove}
use Rattle.office_core.specs.declared.command.Command.TheVariants.{OpenDay, TakeSeat, Order, Cancel, Run, Issue, Return}
use Rattle.office_core.specs.declared.done.Done.TheVariants as done
use Rattle.office_core.specs.State.{State, start}
use Rattle.office_core.specs.Rules.{Reply, replies, state_after}
use Rattle.office_core.specs.WorkedReplies.{four_new}
use Rattle.office_core.specs.WorkedExamples.{import, ann, bob, order, issue_reply, refusal_reply, march_1, march_2}
use Rattle.office_core.specs.WorkedExamples.{boxes}

-- a new office with these settings
abbrev pub office_with : (seats daily hands run_size : ℕ) → State
office_with seats daily hands run_size =
    start (record { country = codes "GB"; repo = codes "0999"; seats = seats; daily = daily; hands = hands; run_size = run_size }) march_1

-- one seat, one order a day, one container in hand, runs of one
abbrev pub OneOfEach : Type 0
OneOfEach =
    replies (office_with 1 1 1 1)
    (import boxes ∷ ann ∷ bob ∷ TakeSeat 1 ∷ TakeSeat 2 ∷ Order 1 1 ∷ Order 1 2 ∷ Order 2 2 ∷ Run ∷ Run ∷ Run ∷ OpenDay march_2 ∷ Order 1 3 ∷ Order 1 4 ∷ Run ∷ TakeSeat 1 ∷ Issue 1 1 ∷ Issue 3 1 ∷ Return 1 ∷ Issue 3 1 ∷ [])
    ≡ four_new ∷ Ok (done.Register 1) ∷ Ok (done.Register 2) ∷ Ok (done.TakeSeat 1) ∷ refusal_reply NoSeatFree ∷ order 1 ∷ refusal_reply DailyLimit ∷ order 2 ∷ Ok (done.Run 1 1) ∷ Ok (done.Run 2 1) ∷ refusal_reply NothingToMove ∷ Ok (done.OpenDay march_2) ∷ order 3 ∷ refusal_reply DailyLimit ∷ Ok (done.Run 3 1) ∷ Ok (done.TakeSeat 1) ∷ issue_reply 1 ∷ refusal_reply HandsFull ∷ Ok (done.Return 1) ∷ issue_reply 3 ∷ []

-- three seats, four orders a day, two containers in hand, runs of three
abbrev pub SomeOfEach : Type 0
SomeOfEach =
    replies (office_with 3 4 2 3)
    (import boxes ∷ ann ∷ bob ∷ ann ∷ ann ∷ TakeSeat 1 ∷ TakeSeat 2 ∷ TakeSeat 3 ∷ TakeSeat 4 ∷ Order 1 1 ∷ Order 1 2 ∷ Order 1 3 ∷ Order 1 4 ∷ Cancel 4 ∷ Order 1 4 ∷ Order 2 4 ∷ Run ∷ Run ∷ Issue 1 1 ∷ Issue 2 1 ∷ Issue 3 1 ∷ Return 2 ∷ Issue 3 1 ∷ [])
    ≡ four_new ∷ Ok (done.Register 1) ∷ Ok (done.Register 2) ∷ Ok (done.Register 3) ∷ Ok (done.Register 4) ∷ Ok (done.TakeSeat 1) ∷ Ok (done.TakeSeat 2) ∷ Ok (done.TakeSeat 3) ∷ refusal_reply NoSeatFree ∷ order 1 ∷ order 2 ∷ order 3 ∷ order 4 ∷ Ok (done.Cancel 4) ∷ refusal_reply DailyLimit ∷ order 5 ∷ Ok (done.Run 1 3) ∷ Ok (done.Run 2 1) ∷ issue_reply 1 ∷ issue_reply 2 ∷ refusal_reply HandsFull ∷ Ok (done.Return 2) ∷ issue_reply 3 ∷ []

-- ---- as many seats, orders a day, containers in hand and in a run as there may be

-- n units side by side, each in a container of its own
abbrev pub crates : ℕ → Bytes
crates n = codes "legacyId,publicationStatus,physicalObjectName\n" ++ lines n
  where
    lines : ℕ → Bytes
    lines zero = []
    lines (suc n) = lines n ++ (decimal (suc n) ++ (codes ",Published,Box " ++ (decimal (suc n) ++ 10 ∷ [])))

-- the commands or replies for n numbers in turn
abbrev pub each_from : {X : Type 0} → (ℕ → X) → (first n : ℕ) → List X
each_from ask first zero = []
each_from ask first (suc n) = ask first ∷ each_from ask (suc first) n

abbrev pub seat_reply : ℕ → Reply
seat_reply n = Ok (done.TakeSeat n)

-- an office with the highest settings, one container more than a run takes, and one reader more than it has seats
abbrev pub most : State
most = state_after (office_with most_seats most_daily most_hands most_run_size) (import (crates (most_run_size + 1)) ∷ replicate (most_seats + 1) ann)

pub record MostOfEach : Type 0 where
  -- a reader finds no seat when all are taken
  pub seats : replies most (each_from TakeSeat 1 (most_seats + 1)) ≡ each_from seat_reply 1 most_seats ++ refusal_reply NoSeatFree ∷ []
  -- a ticket's order past the limit of the day is refused; a run takes all but one; a ticket holds so many and no more
  pub desk : replies most (each_from (Order 1) 1 (most_daily + 1) ++ (each_from (Order 2) (most_daily + 1) most_daily ++ (Order 3 (most_run_size + 1) ∷ Run ∷ Run ∷ Run ∷ TakeSeat 1 ∷ each_from (λ c. Issue c 1) 1 (most_hands + 1))))
      ≡ each_from order 1 most_daily ++ (refusal_reply DailyLimit ∷ each_from order (most_daily + 1) most_daily ++ (order (most_run_size + 1) ∷ Ok (done.Run 1 most_run_size) ∷ Ok (done.Run 2 1) ∷ refusal_reply NothingToMove ∷ Ok (done.TakeSeat 1) ∷ each_from issue_reply 1 most_hands ++ refusal_reply HandsFull ∷ []))
