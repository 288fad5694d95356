use Rattle.std.proofs.Common.{filter, ap, ◌∙◌}
use Rattle.desk_store.proofs.Common.{HoldingLine, filter-map, is_one_of, line_of}
use Rattle.desk_store.proofs.TellingCalls.{ends_well}
use Rattle.desk_store.proofs.chosen_loans.lines_by_list.Goals as goal

pub returns : goal.returns
returns g c =
    let chosen = λ (line : HoldingLine). is_one_of line.container c.args.ascending.now in
    record {
      answers = ends_well c.in_ok-lines.ensures.reads.looks _ (λ clean d shown.
          c.in_ok-kept_lines.ensures
          ∙ ap (filter chosen) (c.deref.ensures.value ∙ c.in_ok-lines.ensures.answers clean d.holdings shown.holdings shown.holdings_rise)
          ∙ filter-map chosen line_of d.holdings);
    }
