use Rattle.std.proofs.Common.{inl, inr, arith, take, drop, refl, false}
use Rattle.http_desk.proofs.Common.{Appends-nil, HeadCut, Nothing}
use Rattle.http_desk.proofs.Endings.{begun, ran_out}
use Rattle.http_desk.proofs.Exchanges.{begun_received, begun_refused, bound_here, busy_alone, ends_here, refusal_alone}
use Rattle.http_desk.proofs.Exchanges.{too_long_alone}
use Rattle.http_desk.proofs.Faults.{used_up}
use Rattle.http_desk.proofs.Turns.{head_judged, may_fail}
use Rattle.http_desk.proofs.session.exchange.Goals as goal

pub receive-requires-clause-accepted : goal.receive-requires-clause-accepted
receive-requires-clause-accepted g c =
    head_judged c.in-Whole.ensures.found c.deref.ensures.value c.in-Accepted.is c.judge.ensures.judged

pub returns-in-Refused : goal.returns-in-Refused
returns-in-Refused g c =
    let items = c.gather_head.new.buffer.items in
    let head = head_judged c.in-Whole.ensures.found c.deref.ensures.value c.in-Refused.is c.judge.ensures.judged in
    let refuse = c.refuse.ensures in
    let (turn, streams, breaks_off) = begun_refused g.M.Machine c.args.number c.args.office.now c.args.buffer.now.items items items c.begin_message.ensures c.in-Whole.ensures.calls
    c.gather_head.ensures.got refusal_alone (take c.in-Whole.size items, drop c.in-Whole.size items, head) refuse.sent refuse.stream refuse.used_up in
    record { turn = turn; store = record { intact = λ i. i; was_open = λ i stays. stays }; streams = streams; breaks_off = breaks_off }

pub returns-in-Accepted : goal.returns-in-Accepted
returns-in-Accepted g c =
    let received = c.receive.ensures in
    let (turn, streams, breaks_off) = begun_received g.M.Machine c.args.number c.args.office.now c.receive.new.office c.args.buffer.now.items c.gather_head.new.buffer.items c.receive.new.buffer.items
    c.begin_message.ensures c.in-Whole.ensures.calls c.gather_head.ensures.got (received.turn, received.streams, received.breaks_off) in
    record { turn = turn; store = received.store; streams = streams; breaks_off = breaks_off }

pub returns-in-TooLong : goal.returns-in-TooLong
returns-in-TooLong g c =
    let items = c.gather_head.new.buffer.items in
    let refuse = c.refuse-in-TooLong.ensures in
    let (turn, streams, breaks_off) = begun_refused g.M.Machine c.args.number c.args.office.now c.args.buffer.now.items items items c.begin_message.ensures c.in-TooLong.ensures.calls
    c.gather_head.ensures.got too_long_alone c.in-TooLong.ensures.found refuse.sent refuse.stream refuse.used_up in
    record { turn = turn; store = record { intact = λ i. i; was_open = λ i stays. stays }; streams = streams; breaks_off = breaks_off }

pub returns-in-Blank-clause-turn : goal.returns-in-Blank-clause-turn
returns-in-Blank-clause-turn g c =
    ends_here g.M.Machine _ _ _ _ _ _ _ _ _ _ Nothing (rw c.begin_message.ensures at c.gather_head.ensures.got) (Appends-nil _)
    c.in-Blank.ensures.found refl (λ s. (refl, refl)) (λ s stays. stays)

pub returns-in-Cut-clause-turn : goal.returns-in-Cut-clause-turn
returns-in-Cut-clause-turn g c =
    ends_here g.M.Machine _ _ _ _ _ _ _ _ _ _ HeadCut (rw c.begin_message.ensures at c.gather_head.ensures.got) (Appends-nil _)
    c.in-Cut.ensures.found tt (λ s. (refl, refl)) (λ s stays. stays)

pub returns-in-Failed-clause-turn : goal.returns-in-Failed-clause-turn
returns-in-Failed-clause-turn g c =
    let got = rw c.begin_message.ensures at c.gather_head.ensures.got in
    elim c.in-Failed.ensures.found [
      | inl blank ↦ ends_here g.M.Machine _ _ _ _ _ _ _ _ _ _ Nothing got (Appends-nil _) blank (inl refl) (λ s. (refl, refl)) (λ s stays. stays)
      | inr cut ↦ ends_here g.M.Machine _ _ _ _ _ _ _ _ _ _ HeadCut got (Appends-nil _) cut (inr tt) (λ s. (refl, refl)) (λ s stays. stays)
    ]

pub returns-in-Bound : goal.returns-in-Bound
returns-in-Bound g c =
    let calls = c.in-Bound.ensures.calls in
    -- without an interruption the turns would have been enough
    let all_taken = used_up _ c.gather_head.new.reader ((rw c.begin_message.ensures at calls.taken).2) (λ q.
    let (before, few) = (rw c.begin_message.ensures at calls.bound) q in
    omega arith) (calls.used_up refl) in
    record {
      turn = bound_here g.M.Machine _ _ _ _ _ _ _ _ false (rw c.begin_message.ensures at c.gather_head.ensures.got) (Appends-nil _) (may_fail _);
      store = record { intact = λ i. i; was_open = λ i stays. stays };
      streams = begun c.begin_message.ensures (ran_out calls all_taken);
      breaks_off = λ e. inl all_taken;
    }

pub returns-in-NoMemory : goal.returns-in-NoMemory
returns-in-NoMemory g c =
    let items = c.gather_head.new.buffer.items in
    let refuse = c.refuse-in-NoMemory.ensures in
    let (turn, streams, breaks_off) = begun_refused g.M.Machine c.args.number c.args.office.now c.args.buffer.now.items items items c.begin_message.ensures c.in-NoMemory.ensures.calls
    c.gather_head.ensures.got (busy_alone false) (may_fail items) refuse.sent refuse.stream refuse.used_up in
    record { turn = turn; store = record { intact = λ i. i; was_open = λ i stays. stays }; streams = streams; breaks_off = breaks_off }
