use Rattle.std.proofs.Common.{ap, ◌∙◌}
use Rattle.office_tables.proofs.StoreCalls.{tells_well}
use Rattle.desk_store.proofs.Common.{nat_lt, waits_for}
use Rattle.desk_store.proofs.WaitingRows.{any_counted}
use Rattle.desk_store.proofs.waiting_orders.is_awaited.Goals as goal

pub returns : goal.returns
returns g c =
    record {
      answers = tells_well c.in_ok-waiting.ensures.reads.looks
          (λ clean beside d shown. ap (nat_lt 0) (c.in_ok-waiting.ensures.answers clean d.orders shown.orders shown.few_orders) ∙ any_counted (waits_for c.args.container) d.orders);
    }
