use Rattle.std.proofs.Common.{sym, subst}
use Rattle.std.specs.Prelude.{IsPermutation}
use Rattle.access.proofs.Common.{named_by}
use Rattle.access.proofs.Learned.{ends_by, fault_first, learned_by}
use Rattle.access.proofs.openness.is_open_today.Goals as goal

pub returns-in_err-units-clause-answers : goal.returns-in_err-units-clause-answers
returns-in_err-units-clause-answers g c = fault_first c.from_residual.ensures c.in_err-units.ensures.answers

pub returns-clause-answers : goal.returns-clause-answers
returns-clause-answers g c =
    ends_by (learned_by c.in_ok-units.ensures.answers) c.is_open_by.ensures.answers (λ _ s are yes is judged day known.
    is judged day known c.args.container (subst (IsPermutation (named_by s.catalogue c.args.container)) (sym c.deref.ensures.value) are))
