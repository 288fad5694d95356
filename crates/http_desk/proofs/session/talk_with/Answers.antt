use Rattle.std.proofs.Common.{◌≡◌, ◌+◌, arith, subst, refl, ap, ◌∙◌, inl, inr}
use Rattle.http_desk.proofs.Common.{Closed, Ends, most_answers}
use Rattle.http_desk.proofs.Endings.{came, ends_told}
use Rattle.http_desk.proofs.Sessions.{Carried, carried_none, carried_on, carried_to_end, carried_over}
use Rattle.http_desk.proofs.Bounds.{carried_to_bound}
use Rattle.http_desk.proofs.session.talk_with.Goals as goal

pub loop-number-init : goal.loop-number-init
loop-number-init g c = record {
  carried = carried_none g.M.Machine _ _ c.args.office.now c.empty_buffer-buffer.result.items c.empty_buffer-buffer.ensures;
  was_open = λ i stays. stays;
  streams = came refl (λ p. p) (refl, omega arith);
}

pub loop-number-preserved : goal.loop-number-preserved
loop-number-preserved g c =
    let first = c.loop-number.invariant in
    let second = c.exchange.ensures in
    record {
      carried = carried_on g.M.Machine _ _ _ _ _ _ c.args.office.now c.loop-number.office c.exchange.new.office c.loop-number.number c.loop-number.buffer.items _ c.in-Goes.is second.store.intact first.carried second.turn;
      was_open = λ i stays. first.was_open (second.store.intact i) (second.store.was_open i stays);
      streams = ends_told c.in-Goes.is first.streams second.streams (second.streams.calls.0 ∙ first.streams.calls.0, omega (arith, second.streams.calls.1, first.streams.calls.1));
    }

pub returns-in-Ends : goal.returns-in-Ends
returns-in-Ends g c =
    let first = c.loop-number.invariant in
    let second = c.exchange.ensures in
    record {
      session = carried_to_end g.M.Machine _ _ _ _ _ _ c.args.office.now c.loop-number.office c.exchange.new.office c.loop-number.number c.loop-number.buffer.items _ c.in-Ends.is second.store.intact first.carried second.turn;
      store = record { intact = λ i. first.carried.4 (second.store.intact i); was_open = λ i stays. first.was_open (second.store.intact i) (second.store.was_open i stays) };
      streams = ends_told c.in-Ends.is first.streams second.streams (second.streams.calls.0 ∙ first.streams.calls.0, omega (arith, second.streams.calls.1, first.streams.calls.1));
      breaks_off = λ e. elim (second.breaks_off (c.in-Ends.is ∙ ap Ends e)) [
        | inl reads ↦ inl reads
        | inr place ↦ inr (carried_to_bound g.M.Machine _ _ _ _ _ c.exchange.new.writer c.args.office.now c.loop-number.office c.exchange.new.office c.loop-number.number c.loop-number.buffer.items second.store.intact first.carried place)
      ];
    }

pub returns-clause-session : goal.returns-clause-session
returns-clause-session g c =
    let last : c.loop-number.number ≡ most_answers + 1 = omega arith in
    carried_over g.M.Machine _ _ _ _ c.args.office.now c.loop-number.office c.loop-number.buffer.items Closed
    (subst (λ n. Carried g.M.Machine c.args.reader.now.bytes c.loop-number.reader.bytes c.args.writer.now.bytes c.loop-number.writer.bytes c.args.office.now c.loop-number.office n c.loop-number.buffer.items) last c.loop-number.invariant.carried)
