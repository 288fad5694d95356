use Rattle.std.proofs.Common.{ap, ◌∙◌}
use Rattle.access.proofs.Common.{ends_well, is_some, looks_nowhere}
use Rattle.access.proofs.DayRules.{by_hands, by_openness, by_seats}
use Rattle.access.proofs.Gates.{some_closed}
use Rattle.access.proofs.Learned.{ends_so, fault_first, fault_later, learned_by, learned_more, of_desk}
use Rattle.access.proofs.day_rules.are_against_rules.Goals as goal

pub returns-then-branch-clause-answers : goal.returns-then-branch-clause-answers
returns-then-branch-clause-answers g c =
    ends_well looks_nowhere _ (λ clean s it judged day hands.
    by_hands g.P.Versioned.version s c.args.hands c.args.loans.now c.in_ok-are_too_many.field-0 hands c.in_ok-are_too_many.ensures c.if-branch.true)

pub returns-in_err-is_one_without_seat-clause-answers : goal.returns-in_err-is_one_without_seat-clause-answers
returns-in_err-is_one_without_seat-clause-answers g c = fault_first c.from_residual-in_err-is_one_without_seat.ensures
    (of_desk c.in_err-is_one_without_seat.ensures.answers)

pub returns-then-branch-2-clause-answers : goal.returns-then-branch-2-clause-answers
returns-then-branch-2-clause-answers g c =
    ends_so (learned_by (of_desk c.in_ok-is_one_without_seat.ensures.answers)) (λ _ s seats judged day hands.
    by_seats g.P.Versioned.version s c.args.hands c.args.loans.now c.in_ok-are_too_many.field-0 hands c.in_ok-are_too_many.ensures c.if-branch.false
    c.in_ok-is_one_without_seat.field-0 seats c.if-branch-2.true)

pub returns-in_err-closed-clause-answers : goal.returns-in_err-closed-clause-answers
returns-in_err-closed-clause-answers g c = fault_later c.from_residual-in_err-closed.ensures c.in_ok-is_one_without_seat.ensures.answers.looks
    c.in_err-closed.ensures.answers

pub returns-clause-answers : goal.returns-clause-answers
returns-clause-answers g c =
    ends_so (learned_more (learned_by (of_desk c.in_ok-is_one_without_seat.ensures.answers)) c.in_ok-closed.ensures.answers) (λ _ s so judged day hands.
    by_openness g.P.Versioned.version s c.args.hands c.args.loans.now c.in_ok-are_too_many.field-0 hands c.in_ok-are_too_many.ensures c.if-branch.false
    c.in_ok-is_one_without_seat.field-0 so.before c.if-branch-2.false c.is_some.result
    (c.is_some.ensures ∙ ap is_some (so.now judged day tt) ∙ some_closed s c.args.loans.now))
