use Rattle.std.proofs.Common.{◌∙◌}
use Rattle.desk_store.proofs.PickingCalls.{held_kept}
use Rattle.desk_store.proofs.TellingCalls.{ends_well}
use Rattle.desk_store.proofs.run_candidates.on_shelf_by_list.Goals as goal

pub returns : goal.returns
returns g c =
    record {
      answers = ends_well c.in_ok-lines.ensures.reads.looks _ (λ clean d shown.
          c.in_ok-without.ensures
          ∙ held_kept d c.deref.result.now c.in_ok-known.known.keys (c.deref.ensures.value ∙ c.in_ok-lines.ensures.answers clean d.holdings shown.holdings shown.holdings_rise) c.in_ok-known.ensures c.args.orders.now);
    }
