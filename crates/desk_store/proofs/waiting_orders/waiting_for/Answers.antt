use Rattle.std.proofs.Common.{map, filter, ap, ◌∙◌}
use Rattle.desk_store.proofs.Common.{IfOk-weaker, OrderRow, ascending-filter, counted_rises, known_query, looks_up}
use Rattle.desk_store.proofs.Common.{only_order, waits_for}
use Rattle.desk_store.proofs.CardRows.{by_order, by_order_total}
use Rattle.desk_store.proofs.WaitingRows.{waiting_means, waiting_finds, waiting_faults, waiting_of}
use Rattle.desk_store.proofs.waiting_orders.waiting_for.Goals as goal

pub find-requires : goal.find-requires
find-requires g c = known_query (waiting_means g.P.Versioned.version)

pub returns : goal.returns
returns g c =
    looks_up g.P.Versioned.version c.find.ensures.reads (rw c.cell.ensures at c.find.ensures.ran)
    (λ v has found xs stored counted.
    let kept = filter (waits_for c.args.container) xs in
    let rising = ascending-filter _ (waits_for c.args.container) xs (counted_rises (λ (o : OrderRow). o.id) 1 xs counted) in
    IfOk-weaker c.find.result _ _ (λ all it. it.2 ∙ ap (map waiting_of) (only_order by_order by_order_total kept it.0 rising it.1.1 it.1.0))
    (waiting_finds _ _ c.args.container v has xs stored (λ found. found.items) c.find.result found))
    (λ v has missed xs stored _ free. waiting_faults _ _ c.args.container v has xs stored (λ found. found.items) c.find.result free missed)
