use Rattle.std.proofs.Common.{map, filter, nat_eq, ap, ◌∙◌}
use Rattle.desk_store.proofs.Common.{IfOk-weaker, OrderRow, ascending-filter, counted_rises, known_query, looks_up}
use Rattle.desk_store.proofs.Common.{only_order}
use Rattle.desk_store.proofs.CardRows.{by_order, by_order_total}
use Rattle.desk_store.proofs.PickingRows.{all_means, all_finds, all_faults, first_of}
use Rattle.desk_store.proofs.run_candidates.waiting_orders.Goals as goal

pub find-requires : goal.find-requires
find-requires g c = known_query (all_means g.P.Versioned.version)

pub returns : goal.returns
returns g c =
    looks_up g.P.Versioned.version c.find.ensures.reads c.find.ensures.ran
    (λ v has found xs stored counted.
    let kept = filter (λ (o : OrderRow). nat_eq 1 o.state) xs in
    let rising = ascending-filter _ (λ (o : OrderRow). nat_eq 1 o.state) xs (counted_rises (λ (o : OrderRow). o.id) 1 xs counted) in
    IfOk-weaker c.find.result _ _ (λ all it. it.2 ∙ ap (map first_of) (only_order by_order by_order_total kept it.0 rising it.1.1 it.1.0))
    (all_finds _ _ v has xs stored (λ found. found.items) c.find.result found))
    (λ v has missed xs stored _ free. all_faults _ _ v has xs stored (λ found. found.items) c.find.result free missed)
