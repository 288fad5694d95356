use Rattle.std.proofs.Common.{None, refl, sym, ◌∙◌}
use Rattle.desk_store.proofs.Common.{RepresentsQueues, container_with, early, first_shown, looks_nowhere, looks_then}
use Rattle.desk_store.proofs.Common.{queue_of, same_fault, waits_for}
use Rattle.desk_store.proofs.QueueCalls.{unknown_head, known_head}
use Rattle.desk_store.proofs.ToldCalls.{shown_on}
use Rattle.desk_store.proofs.TellingCalls.{ends_not, ends_well}
use Rattle.desk_store.proofs.WaitingRows.{waiting_of}
use Rattle.desk_store.proofs.queue_heads.queue_head.Goals as goal

pub returns-in_err-known : goal.returns-in_err-known
returns-in_err-known g c = record { answers = ends_not looks_nowhere c.in_err-known.ensures.answers.aborts c.in_err-known.ensures.answers.spares (λ s shown may kept. c.in_err-known.ensures.answers.faults tt s shown tt kept) (same_fault c.from_residual.ensures) }

pub returns-then-not-known : goal.returns-then-not-known
returns-then-not-known g c =
    record {
      answers = ends_well c.in_ok-known.ensures.answers.looks None (λ clean s shown.
          unknown_head c.args.container s (container_with c.args.container s) (sym (c.in_ok-known.ensures.answers.answers clean tt s shown) ∙ c.if-not-known.true));
    }

pub returns-in_err-place : goal.returns-in_err-place
returns-in_err-place g c = record { answers = ends_not c.in_ok-known.ensures.answers.looks c.in_err-place.ensures.answers.aborts c.in_err-place.ensures.answers.spares (λ s shown may kept. c.in_err-place.ensures.answers.faults tt s.desk shown.desk tt kept.desk) (same_fault c.from_residual-in_err-place.ensures) }

pub returns-in_err-first : goal.returns-in_err-first
returns-in_err-first g c = record { answers = ends_not (looks_then c.in_ok-known.ensures.answers.looks c.in_ok-place.ensures.answers.looks) c.in_err-first.ensures.reads.aborts c.in_err-first.ensures.reads.spares (λ s shown may kept. c.in_err-first.ensures.faults s.desk.orders shown.desk.orders tt) (same_fault c.from_residual-in_err-first.ensures) }

pub returns : goal.returns
returns g c =
    record {
      answers = let one = c.in_ok-known.ensures.answers.looks in
          let two = looks_then one c.in_ok-place.ensures.answers.looks in
          let three = c.in_ok-first.ensures.reads.looks in
          ends_well (looks_then two three) _ (λ clean s shown.
          let at_p = early three.goes.on.crash clean in
          let at_b = early c.in_ok-place.ensures.answers.looks.goes.on.crash at_p in
          let shown_b = shown_on RepresentsQueues one at_b s shown in
          let shown_p = shown_on RepresentsQueues two at_p s shown in
          known_head c.args.container s (container_with c.args.container s) (sym (c.in_ok-known.ensures.answers.answers at_b tt s shown) ∙ c.if-not-known.false)
          c.in_ok-place.place (c.in_ok-place.ensures.answers.answers at_p tt s.desk shown_b.desk)
          c.in_ok-first.first
          (c.in_ok-first.ensures.answers clean s.desk.orders shown_p.desk.orders shown_p.desk.order_numbers ∙ sym (first_shown waiting_of (waits_for c.args.container) s.desk.orders (queue_of c.args.container s.desk) refl)));
    }
