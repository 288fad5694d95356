use Rattle.std.proofs.Common.{◌∙◌}
use Rattle.access.proofs.DayRules.{lacks_is}
use Rattle.access.proofs.Learned.{ends_so, fault_first, learned_by}
use Rattle.access.proofs.day_rules.is_one_without_seat.Goals as goal

pub returns-in_err-taken-clause-answers : goal.returns-in_err-taken-clause-answers
returns-in_err-taken-clause-answers g c = fault_first c.from_residual.ensures c.in_err-taken.ensures.answers.call

pub returns-clause-answers : goal.returns-clause-answers
returns-clause-answers g c =
    ends_so (learned_by c.in_ok-taken.ensures.answers.call) (λ _ d taken. c.lacks_seat.ensures
    ∙ lacks_is d c.args.loans.now c.deref.result.now (c.deref.ensures.value ∙ taken))
