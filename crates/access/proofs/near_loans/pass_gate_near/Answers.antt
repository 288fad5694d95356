use Rattle.std.proofs.Common.{◌∙◌}
use Rattle.access.proofs.Common.{is_named_near}
use Rattle.access.proofs.Gates.{enough_of}
use Rattle.access.proofs.Learned.{ends_by, fault_first, learned_by}
use Rattle.access.proofs.near_loans.pass_gate_near.Goals as goal

pub returns-in_err-near : goal.returns-in_err-near
returns-in_err-near g c = record { answers = fault_first c.from_residual.ensures c.in_err-near.ensures.answers }

pub returns : goal.returns
returns g c =
    record {
      answers = ends_by (learned_by c.in_ok-near.ensures.answers) c.pass_gate_with.ensures.answers (λ _ s asked reply is judged day known.
          is judged day (
            enough_of g.P.Versioned.version s judged (is_named_near c.args.unit s) known.0 c.deref.result.now
                (c.deref.ensures.value ∙ asked),
            known.1,
          ));
    }
