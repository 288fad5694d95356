use Rattle.std.proofs.Common.{ap, ◌∙◌}
use Rattle.desk_store.proofs.Common.{is_some}
use Rattle.desk_store.proofs.FirstOut.{any_found}
use Rattle.desk_store.proofs.TellingCalls.{ends_well}
use Rattle.desk_store.proofs.loans.is_some_out.Goals as goal

pub returns : goal.returns
returns g c =
    record {
      answers = ends_well c.in_ok-first.ensures.reads.looks _ (λ clean d shown.
          c.is_some.ensures ∙ ap is_some (c.in_ok-first.ensures.answers clean d.holdings shown.holdings shown.holdings_rise) ∙ any_found d.holdings);
    }
