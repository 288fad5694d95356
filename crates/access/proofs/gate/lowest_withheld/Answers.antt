use Rattle.std.proofs.Common.{ap, sym, ◌∙◌}
use Rattle.access.proofs.Common.{first_closed}
use Rattle.access.proofs.Gates.{kept_is}
use Rattle.access.proofs.Learned.{ends_by, fault_first, learned_by, of_desk}
use Rattle.access.proofs.gate.lowest_withheld.Goals as goal

pub returns-in_err-loans : goal.returns-in_err-loans
returns-in_err-loans g c = record { answers = fault_first c.from_residual.ensures (of_desk c.in_err-loans.ensures.answers.call) }

pub returns : goal.returns
returns g c =
    record {
      answers = ends_by (learned_by (of_desk c.in_ok-loans.ensures.answers.call)) c.first_closed.ensures.answers (λ _ s are found is judged day.
          is judged day tt ∙ ap (first_closed s) (c.deref.ensures.value ∙ are) ∙ sym (kept_is g.P.Versioned.version s judged));
    }
