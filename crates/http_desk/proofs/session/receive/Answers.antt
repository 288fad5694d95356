use Rattle.std.proofs.Common.{refl, ◌∙◌, inl, inr, arith, true}
use Rattle.http_messages.specs.Answers.{continue_text}
use Rattle.http_desk.proofs.Common.{Accepted, BodyCut, Closed, Ends, request_in}
use Rattle.http_desk.proofs.Bounds.{leave_to_bound}
use Rattle.http_desk.proofs.Endings.{allowed, answered, by_writer, ends_on, ran_out}
use Rattle.http_desk.proofs.Exchanges.{bound_here, busy_alone, ends_here, placed, refused_placed}
use Rattle.http_desk.proofs.Faults.{closed_no_bound, tells_bound, used_up}
use Rattle.http_desk.proofs.Turns.{body_cut, head_grown, leave_broken, may_fail_after}
use Rattle.http_desk.proofs.session.receive.Goals as goal

pub returns-in_default : goal.returns-in_default
returns-in_default g c =
    let leave = c.allow_body.ensures in
    record {
      turn = leave_broken g.M.Machine c.args.number c.args.office.now _ _ _ _ (Ends Closed) c.in_default.not-All c.after.ensures c.requires.accepted leave.sends;
      store = record { intact = λ i. i; was_open = λ i stays. stays };
      streams = by_writer (answered true c.after.ensures (λ all. absurd (c.in_default.not-All all)) leave.writes leave.turns leave.same)
          (λ e. (continue_text, tells_bound continue_text c.allow_body.new.writer c.allow_body.result (Ends Closed) c.after.result closed_no_bound c.after.ensures leave.used_up e)) (refl, omega arith, refl);
      breaks_off = λ bound. inr (leave_to_bound g.M.Machine c.args.number c.args.office.now _ _ c.allow_body.new.writer _ c.after.ensures c.requires.accepted leave.sends leave.due leave.used_up bound);
    }

pub act-requires-clause-accepted : goal.act-requires-clause-accepted
act-requires-clause-accepted g c =
    head_grown _ c.args.size (λ b. Accepted (request_in b c.args.head)) c.requires.within c.gather_body.ensures.got.2 c.requires.accepted

pub returns-in-Whole : goal.returns-in-Whole
returns-in-Whole g c =
    let leave = c.in-All.ensures in
    let act = c.act.ensures in
    let (turn, streams, breaks_off) = placed g.M.Machine c.args.number c.args.office.now c.act.new.office c.args.buffer.now.items c.gather_body.new.buffer.items _ c.act.new.buffer.items
    (allowed leave.writes (λ q. (leave.turns q).0) leave.same (leave.flushed refl)) leave.sends c.in-Whole.ensures.calls c.gather_body.ensures.got act.stream act.used_up act.turn act.breaks_off in
    record { turn = turn; store = act.store; streams = streams; breaks_off = breaks_off }

pub returns-in-Cut-clause-turn : goal.returns-in-Cut-clause-turn
returns-in-Cut-clause-turn g c =
    let stands = body_cut _ c.args.size c.requires.within c.gather_body.ensures.got.2 (omega (arith, c.in-Cut.ensures.found)) c.requires.accepted in
    ends_here g.M.Machine _ _ _ _ _ _ _ _ _ _ (BodyCut _) c.gather_body.ensures.got c.in-All.ensures.sends stands tt (λ s. (refl, refl)) (λ s stays. stays)

pub returns-in-Failed-clause-turn : goal.returns-in-Failed-clause-turn
returns-in-Failed-clause-turn g c =
    let stands = body_cut _ c.args.size c.requires.within c.gather_body.ensures.got.2 (omega (arith, c.in-Failed.ensures.found)) c.requires.accepted in
    ends_here g.M.Machine _ _ _ _ _ _ _ _ _ _ (BodyCut _) c.gather_body.ensures.got c.in-All.ensures.sends stands (inr tt) (λ s. (refl, refl)) (λ s stays. stays)

pub returns-in-Bound : goal.returns-in-Bound
returns-in-Bound g c =
    let leave = c.in-All.ensures in
    let calls = c.in-Bound.ensures.calls in
    let there = head_grown _ c.args.size (λ b. Accepted (request_in b c.args.head)) c.requires.within c.gather_body.ensures.got.2 c.requires.accepted in
    -- without an interruption the turns would have been enough
    let all_taken = used_up _ c.gather_body.new.reader (calls.taken.2 ∙ c.requires.given) (λ q.
    let (before, few) = calls.bound q in
    let enough = c.requires.turns before in
    omega arith) (calls.used_up refl) in
    record {
      turn = bound_here g.M.Machine _ _ _ _ _ _ _ _ c.args.head.waits c.gather_body.ensures.got leave.sends (may_fail_after _ _ _ _ there);
      store = record { intact = λ i. i; was_open = λ i stays. stays };
      streams = ends_on (allowed leave.writes (λ q. (leave.turns q).0) leave.same (leave.flushed refl)) (ran_out calls all_taken) calls.taken;
      breaks_off = λ e. inl all_taken;
    }

pub returns-in-NoMemory : goal.returns-in-NoMemory
returns-in-NoMemory g c =
    let items = c.gather_body.new.buffer.items in
    let leave = c.in-All.ensures in
    let refuse = c.refuse.ensures in
    let there = head_grown _ c.args.size (λ b. Accepted (request_in b c.args.head)) c.requires.within c.gather_body.ensures.got.2 c.requires.accepted in
    let (turn, streams, breaks_off) = refused_placed g.M.Machine c.args.number c.args.office.now c.args.buffer.now.items items _ items
    (allowed leave.writes (λ q. (leave.turns q).0) leave.same (leave.flushed refl)) leave.sends c.in-NoMemory.ensures.calls c.gather_body.ensures.got
    (busy_alone c.args.head.waits) (may_fail_after _ _ _ _ there) refuse.sent refuse.stream refuse.used_up in
    record { turn = turn; store = record { intact = λ i. i; was_open = λ i stays. stays }; streams = streams; breaks_off = breaks_off }
