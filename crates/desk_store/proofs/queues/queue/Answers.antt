use Rattle.std.proofs.Common.{None, sym, ◌∙◌}
use Rattle.desk_store.proofs.Common.{RepresentsQueues, container_with, early, looks_nowhere, looks_then, same_fault}
use Rattle.desk_store.proofs.QueueCalls.{unknown_queue, known_queue}
use Rattle.desk_store.proofs.ToldCalls.{shown_on}
use Rattle.desk_store.proofs.TellingCalls.{ends_not, ends_well}
use Rattle.desk_store.proofs.queues.queue.Goals as goal

pub returns-in_err-known : goal.returns-in_err-known
returns-in_err-known g c = record { answers = ends_not looks_nowhere c.in_err-known.ensures.answers.aborts c.in_err-known.ensures.answers.spares (λ s shown may kept. c.in_err-known.ensures.answers.faults tt s shown tt kept) (same_fault c.from_residual.ensures) }

pub returns-in_default : goal.returns-in_default
returns-in_default g c =
    record {
      answers = ends_well c.in_ok-known.ensures.answers.looks None (λ clean s shown.
          unknown_queue c.args.container s (container_with c.args.container s) (sym (c.in_ok-known.ensures.answers.answers clean tt s shown) ∙ c.in_default.is));
    }

pub returns-in_err-place : goal.returns-in_err-place
returns-in_err-place g c = record { answers = ends_not c.in_ok-known.ensures.answers.looks c.in_err-place.ensures.answers.aborts c.in_err-place.ensures.answers.spares (λ s shown may kept. c.in_err-place.ensures.answers.faults tt s.desk shown.desk tt kept.desk) (same_fault c.from_residual-in_err-place.ensures) }

pub returns-in_err-waiting : goal.returns-in_err-waiting
returns-in_err-waiting g c = record { answers = ends_not (looks_then c.in_ok-known.ensures.answers.looks c.in_ok-place.ensures.answers.looks) c.in_err-waiting.ensures.reads.aborts c.in_err-waiting.ensures.reads.spares (λ s shown may kept. c.in_err-waiting.ensures.faults s.desk.orders shown.desk.orders tt) (same_fault c.from_residual-in_err-waiting.ensures) }

pub returns : goal.returns
returns g c =
    record {
      answers = let one = c.in_ok-known.ensures.answers.looks in
          let two = looks_then one c.in_ok-place.ensures.answers.looks in
          let three = c.in_ok-waiting.ensures.reads.looks in
          ends_well (looks_then two three) _ (λ clean s shown.
          let at_p = early three.goes.on.crash clean in
          let at_b = early c.in_ok-place.ensures.answers.looks.goes.on.crash at_p in
          let shown_b = shown_on RepresentsQueues one at_b s shown in
          let shown_p = shown_on RepresentsQueues two at_p s shown in
          known_queue c.args.container s (container_with c.args.container s) c.in-Some.known (sym (c.in_ok-known.ensures.answers.answers at_b tt s shown) ∙ c.in-Some.is)
          c.in_ok-place.place (c.in_ok-place.ensures.answers.answers at_p tt s.desk shown_b.desk)
          c.in_ok-waiting.waiting.items (c.in_ok-waiting.ensures.answers clean s.desk.orders shown_p.desk.orders shown_p.desk.order_numbers));
    }
