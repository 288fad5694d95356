use Rattle.std.proofs.Common.{◌≡◌, [], length, sym, subst, ap}
use Rattle.std.specs.Prelude.{option_copied}
use Rattle.access.proofs.Common.{TellOf, ends_well, eqb-true, first_closed, looks_nowhere, nil_from_length, ⊤}
use Rattle.access.proofs.Learned.{ends_by, fault_first, learned_by, learned_nothing, of_catalogue}
use Rattle.access.proofs.gate.first_closed.Goals as goal

-- nothing is out
pub returns-then-is_empty-clause-answers : goal.returns-then-is_empty-clause-answers
returns-then-is_empty-clause-answers g c =
    let loans = c.args.loans.now in
    let none : loans ≡ [] = nil_from_length loans (eqb-true (length loans) 0 (sym c.if-is_empty.ensures)) in
    ends_well looks_nowhere _ (λ clean s it judged day tell. ap (first_closed s) (sym none))

-- the caller knows the marks
pub returns-in-Some-clause-answers : goal.returns-in-Some-clause-answers
returns-in-Some-clause-answers g c =
    ends_by (learned_nothing {fact = λ _ s. ⊤} (λ _ s. tt)) c.first_closed_by.ensures.answers (λ _ s nothing found is judged day tell.
    is judged day (subst (TellOf s.catalogue) (ap option_copied c.in-Some.is) tell))

pub returns-in_err-read-clause-answers : goal.returns-in_err-read-clause-answers
returns-in_err-read-clause-answers g c = fault_first c.from_residual.ensures (of_catalogue c.in_err-read.ensures.answers)

pub returns-clause-answers : goal.returns-clause-answers
returns-clause-answers g c =
    ends_by (learned_by (of_catalogue c.in_ok-read.ensures.answers)) c.first_closed_by-2.ensures.answers (λ _ s walk found is judged day tell.
    is judged day walk)
