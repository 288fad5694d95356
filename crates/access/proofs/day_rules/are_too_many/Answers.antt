use Rattle.std.proofs.Common.{map, subst, sym, ◌∙◌}
use Rattle.std.specs.List.Sorted.{IsPermutation}
use Rattle.access.proofs.Common.{ContainerOrder, IsNonDecreasing}
use Rattle.access.proofs.DayRules.{over_is}
use Rattle.access.proofs.Standing.{over_permuted}
use Rattle.access.proofs.day_rules.are_too_many.Goals as goal

pub returns : goal.returns
returns c =
    let tickets = map (λ (loan : ContainerOrder). loan.ticket) c.args.loans.now in
    let same = sym c.deref.ensures.value in
    c.occurs_more_than.ensures (subst IsNonDecreasing same c.in_ok-tickets.ensures.rise)
    ∙ over_permuted c.args.hands tickets c.deref.result.now (subst (IsPermutation tickets) same c.in_ok-tickets.ensures.same)
    ∙ over_is c.args.hands c.args.loans.now
