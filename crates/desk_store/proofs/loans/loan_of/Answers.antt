use Rattle.std.proofs.Common.{None, sym, ap, ◌∙◌}
use Rattle.desk_store.proofs.Common.{ContainerOrder, loan_by, looks_nowhere, option_map, same_fault}
use Rattle.desk_store.proofs.loans.loan_of.Goals as goal
use Rattle.desk_store.proofs.TellingCalls.{ends_not, ends_well}

pub returns-in_err-ticket : goal.returns-in_err-ticket
returns-in_err-ticket g c = record { answers = ends_not looks_nowhere c.in_err-ticket.ensures.answers.aborts c.in_err-ticket.ensures.answers.spares (λ d shown may kept. c.in_err-ticket.ensures.answers.faults tt d shown tt kept) (same_fault c.from_residual.ensures) }

pub returns-in_default-2 : goal.returns-in_default-2
returns-in_default-2 g c =
    record {
      answers = ends_well c.in_ok-ticket.ensures.answers.looks None (λ clean d shown.
          let ticket = sym c.in_default-2.is ∙ c.in_ok-ticket.ensures.answers.answers clean tt d shown in
          ap (option_map (λ t. let loan : ContainerOrder = record { container = c.args.line.container; order = c.in-Some.order; ticket = t } in loan)) ticket
          ∙ sym (ap (loan_by d.orders c.args.line.container) c.in-Some.is));
    }

pub returns : goal.returns
returns g c =
    record {
      answers = ends_well c.in_ok-ticket.ensures.answers.looks _ (λ clean d shown.
          let ticket = sym c.in-Some-2.is ∙ c.in_ok-ticket.ensures.answers.answers clean tt d shown in
          ap (option_map (λ t. let loan : ContainerOrder = record { container = c.args.line.container; order = c.in-Some.order; ticket = t } in loan)) ticket
          ∙ sym (ap (loan_by d.orders c.args.line.container) c.in-Some.is));
    }
