use Rattle.std.proofs.Common.{Some, refl, sym, ap, ◌∙◌, arith}
use Rattle.access.proofs.Common.{ContainerOrder, first_that, is_closed_to, opens, option_map, take_all}
use Rattle.access.proofs.Gates.{closed_here, none_closed}
use Rattle.access.proofs.Learned.{ends_so, fault_later, learned_more, learned_nothing, learned_so}
use Rattle.access.proofs.gate.first_closed_by.Goals as goal

pub loop-loan-init : goal.loop-loan-init
loop-loan-init g c = learned_nothing (λ _ s judged day known. refl)

pub returns-in_err-is_open_today-clause-answers : goal.returns-in_err-is_open_today-clause-answers
returns-in_err-is_open_today-clause-answers g c =
    fault_later c.from_residual.ensures c.loop-loan.invariant.looks c.in_err-is_open_today.ensures.answers

-- the first that is closed
pub returns-then-not-branch-clause-answers : goal.returns-then-not-branch-clause-answers
returns-then-not-branch-clause-answers g c =
    let loan = c.loan-item.result in
    ends_so (learned_more c.loop-loan.invariant c.in_ok-is_open_today.ensures.answers) (λ _ s so judged day known.
    ap Some (c.get.ensures.same ∙ ap (λ (l : ContainerOrder). l.container) c.loan-item.is)
    ∙ closed_here s c.args.loans.now c.loop-loan.loan-index loan c.loop-loan-test.true c.in_ok-is_open_today.field-0
    (so.now judged day known ∙ ap (λ (l : ContainerOrder). opens s l.ticket l.container) c.loan-item.is) (so.before judged day known)
    c.if-not-branch.true)

pub loop-loan-preserved : goal.loop-loan-preserved
loop-loan-preserved g c =
    let loan = c.loan-item.result in
    learned_so (learned_more c.loop-loan.invariant c.in_ok-is_open_today.ensures.answers) (λ _ s so judged day known.
    none_closed s c.args.loans.now c.loop-loan.loan-index loan c.loop-loan-test.true c.in_ok-is_open_today.field-0
    (so.now judged day known ∙ ap (λ (l : ContainerOrder). opens s l.ticket l.container) c.loan-item.is) (so.before judged day known)
    c.if-not-branch.false)

pub returns-clause-answers : goal.returns-clause-answers
returns-clause-answers g c =
    ends_so c.loop-loan.invariant (λ _ s so judged day known.
    ap (option_map (λ (l : ContainerOrder). l.container)) (sym (so judged day known)
    ∙ ap (first_that (is_closed_to s)) (take_all c.loop-loan.loan-index c.args.loans.now (omega (arith, c.loop-loan-test.false)))))
