use Rattle.std.proofs.Common.{sym, ◌∙◌}
use Rattle.desk_store.proofs.ChosenLines.{line_known, line_unknown}
use Rattle.desk_store.proofs.TellingCalls.{ends_well}
use Rattle.desk_store.proofs.chosen_loans.line_at.Goals as goal

pub returns-in_default : goal.returns-in_default
returns-in_default g c =
    record {
      answers = ends_well c.in_ok-entry.ensures.reads.looks _ (λ clean d shown.
          line_unknown c.args.container d.holdings (sym (c.in_ok-entry.ensures.answers clean d.holdings shown.holdings shown.holdings_rise) ∙ c.in_default.is));
    }

pub returns : goal.returns
returns g c =
    record {
      answers = ends_well c.in_ok-entry.ensures.reads.looks _ (λ clean d shown.
          line_known c.args.container d.holdings c.in-Some.entry (sym (c.in_ok-entry.ensures.answers clean d.holdings shown.holdings shown.holdings_rise) ∙ c.in-Some.is));
    }
