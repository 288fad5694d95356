use Rattle.std.proofs.Common.{ap, sym, ◌∙◌}
use Rattle.desk_commands.proofs.Common.{is_empty, judged_now, looks_then}
use Rattle.desk_commands.proofs.Spared.{after_look, desk_passed, does_then, is_refused, office_passed}
use Rattle.desk_commands.proofs.OneStep.{both_told}
use Rattle.desk_commands.proofs.RunMade.{due_taken, nothing_due}
use Rattle.desk_commands.proofs.run_creation.fetch.Goals as goal

pub returns-in_err-waiting : goal.returns-in_err-waiting
returns-in_err-waiting g c = let told = c.in_err-waiting.ensures.answers in desk_passed _ c.from_residual.ensures told.aborts told.faults

pub returns-in_err-due : goal.returns-in_err-due
returns-in_err-due g c =
    let told = c.in_err-due.ensures.answers in
    after_look c.in_ok-waiting.ensures.answers.looks (office_passed _ c.from_residual-in_err-due.ensures told.aborts told.faults)

pub returns-then-are_none : goal.returns-then-are_none
returns-then-are_none g c =
    let v = g.P.Versioned.version in
    let first = c.in_ok-waiting.ensures.answers.call in
    let told = c.in_ok-due.ensures.answers in
    is_refused (looks_then first.looks told.looks) (λ clean s sound so it.
    let both = both_told first told clean s it in
    let is = due_taken v s (both.1 (judged_now s sound) so.0 so.2) so.1 (c.deref.ensures.value ∙ both.0) in
    nothing_due v s sound (ap is_empty (sym (c.deref-2.ensures.value ∙ is)) ∙ sym c.are_none.ensures ∙ c.if-are_none.true))

pub returns : goal.returns
returns g c =
    let v = g.P.Versioned.version in
    let first = c.in_ok-waiting.ensures.answers.call in
    let told = c.in_ok-due.ensures.answers in
    does_then (looks_then first.looks told.looks) c.bring_due.ensures (λ clean s sound so it.
    let both = both_told first told clean s it in
    let is = due_taken v s (both.1 (judged_now s sound) so.0 so.2) so.1 (c.deref.ensures.value ∙ both.0) in
    (so.0, c.deref-3.ensures.value ∙ is, ap is_empty (c.deref-3.ensures.value ∙ sym c.deref-2.ensures.value) ∙ sym c.are_none.ensures ∙ c.if-are_none.false))
