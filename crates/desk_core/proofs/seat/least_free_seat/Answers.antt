use Rattle.std.proofs.Common.{sym, eq-eqb, ⊎_elim, arith, nat_eq}
use Rattle.desk_core.proofs.Common.{cases_lt, list_any_at}
use Rattle.desk_core.proofs.SeatLemmas.{free_seat-at, free_seat-none}
use Rattle.desk_core.proofs.seat.least_free_seat.Goals as goal

-- the last seat is taken, and all before it
pub returns-then-least-seats : goal.returns-then-least-seats
returns-then-least-seats c =
    sym (free_seat-none c.args.taken.now c.args.seats (λ seat l h.
    ⊎_elim (λ below. c.loop-seat.invariant.taken_below seat l below)
    (λ here. list_any_at (nat_eq seat) c.args.taken.now c.loop-seat.seat-index 0 c.loop-seat-test.true (eq-eqb seat _ (omega arith)))
    (cases_lt seat c.loop-seat.least)))

pub returns-then-least-seats-2 : goal.returns-then-least-seats-2
returns-then-least-seats-2 c =
    sym (free_seat-at c.args.taken.now c.args.seats c.loop-seat.least (omega arith) (omega arith) c.loop-seat.invariant.taken_below
    (λ i h. c.loop-seat.invariant.not_yet i (omega arith)))

pub returns-else-least-seats-2 : goal.returns-else-least-seats-2
returns-else-least-seats-2 c =
    sym (free_seat-none c.args.taken.now c.args.seats (λ seat l h. c.loop-seat.invariant.taken_below seat l (omega arith)))
