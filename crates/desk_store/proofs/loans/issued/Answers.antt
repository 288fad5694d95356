use Rattle.std.proofs.Common.{ap, ◌∙◌}
use Rattle.desk_store.proofs.Common.{RepresentsDeskAlone, early, loans_in, looks_then, same_fault}
use Rattle.desk_store.proofs.LoanCalls.{loans_of_lines}
use Rattle.desk_store.proofs.loans.issued.Goals as goal
use Rattle.desk_store.proofs.ToldCalls.{shown_on}
use Rattle.desk_store.proofs.TellingCalls.{ends_not, ends_well}

pub returns-in_err-loans : goal.returns-in_err-loans
returns-in_err-loans g c = record { answers = ends_not c.in_ok-lines.ensures.reads.looks c.in_err-loans.ensures.answers.aborts c.in_err-loans.ensures.answers.spares (λ d shown may kept. c.in_err-loans.ensures.answers.faults tt d shown tt kept) (same_fault c.from_residual-in_err-loans.ensures) }

pub returns : goal.returns
returns g c =
    let first = c.in_ok-lines.ensures.reads.looks in
    let last = c.in_ok-loans.ensures.answers.looks in
    record {
      answers = ends_well (looks_then first last) _ (λ clean d shown.
          let before = early last.goes.on.crash clean in
          let lines = c.deref.ensures.value ∙ c.in_ok-lines.ensures.answers before d.holdings shown.holdings shown.holdings_rise in
          c.in_ok-loans.ensures.answers.answers clean tt d (shown_on RepresentsDeskAlone first before d shown)
          ∙ ap (loans_in d) lines ∙ loans_of_lines d.orders d.holdings);
    }
