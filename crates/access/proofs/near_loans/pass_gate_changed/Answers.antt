use Rattle.std.proofs.Common.{subst, sym, ◌∙◌}
use Rattle.refinement.proofs.Doings.{tells_full}
use Rattle.access.proofs.Common.{Catalogue, KnowsIf, TellOf, is_named_near}
use Rattle.access.proofs.Gates.{enough_of, told_if}
use Rattle.access.proofs.Learned.{ends_by, fault_first, learned_by}
use Rattle.access.proofs.near_loans.pass_gate_changed.Goals as goal

pub returns-in_err-near : goal.returns-in_err-near
returns-in_err-near g c = record { answers = fault_first c.from_residual.ensures c.in_err-near.ensures.answers }

pub returns-in_err-after : goal.returns-in_err-after
returns-in_err-after g c = record { answers = tells_full c.from_residual-in_err-after.ensures c.in_ok-near.ensures.answers.looks }

pub returns : goal.returns
returns g c =
    record {
      answers = ends_by (learned_by c.in_ok-near.ensures.answers) c.pass_gate_with.ensures.answers (λ _ s asked reply is judged day known.
          let after = c.in_ok-after.after in
          is judged day (
            enough_of g.P.Versioned.version s judged (is_named_near c.args.unit s) known.0 c.deref-2.result.now
                (c.deref-2.ensures.value ∙ asked),
            subst (TellOf s.catalogue) (sym c.as_ref.ensures.value) (told_if s.catalogue after (subst (λ (k : Catalogue). KnowsIf k after) (sym known.1.is) (c.in_ok-after.ensures.told known.1.before known.1.known))),
          ));
    }
