use Rattle.std.proofs.Common.{sym, ◌∙◌}
use Rattle.access.proofs.Gates.{reply_is}
use Rattle.access.proofs.Learned.{ends_so, fault_first, learned_by}
use Rattle.access.proofs.near_loans.pass_gate_with.Goals as goal

pub returns-in_err-container : goal.returns-in_err-container
returns-in_err-container g c = record { answers = fault_first c.from_residual.ensures c.in_err-container.ensures.answers }

pub returns-in-Some : goal.returns-in-Some
returns-in-Some g c =
    record {
      answers = ends_so (learned_by c.in_ok-container.ensures.answers)
          (λ _ s is judged day known. reply_is s c.args.done (sym c.in-Some.is ∙ is judged day known.1 ∙ sym known.0));
    }

pub returns-in-None : goal.returns-in-None
returns-in-None g c =
    record {
      answers = ends_so (learned_by c.in_ok-container.ensures.answers)
          (λ _ s is judged day known. reply_is s c.args.done (sym c.in-None.is ∙ is judged day known.1 ∙ sym known.0));
    }
