use Rattle.std.proofs.Common.{ap, sym, ◌∙◌}
use Rattle.access.proofs.Common.{are_against_rules}
use Rattle.access.proofs.DayRules.{breaks_is}
use Rattle.access.proofs.Learned.{ends_by, fault_first, learned_by, of_desk}
use Rattle.access.proofs.day_rules.breaks_day_rules.Goals as goal

pub returns-in_err-loans-clause-answers : goal.returns-in_err-loans-clause-answers
returns-in_err-loans-clause-answers g c = fault_first c.from_residual.ensures (of_desk c.in_err-loans.ensures.answers.call)

pub returns-clause-answers : goal.returns-clause-answers
returns-clause-answers g c =
    ends_by (learned_by (of_desk c.in_ok-loans.ensures.answers.call)) c.are_against_rules.ensures.answers (λ _ s loans broken is judged day hands.
    is judged day hands ∙ ap (are_against_rules s) (c.deref.ensures.value ∙ loans) ∙ sym (breaks_is s g.P.Versioned.version))
