use Rattle.std.proofs.Common.{Ok, [], map, filter, nat_eq, ap, ◌∙◌}
use Rattle.desk_store.proofs.Common.{IfOk-weaker, OrderRow, ascending-filter, counted_rises, first_shown, known_query}
use Rattle.desk_store.proofs.Common.{looks_up, only_order}
use Rattle.desk_store.proofs.CardRows.{by_order, by_order_total}
use Rattle.desk_store.proofs.OrderReads.{find_order_means, find_order_finds, find_order_faults, entry_of}
use Rattle.desk_store.proofs.orders.find_order.Goals as goal

pub find_one-requires : goal.find_one-requires
find_one-requires g c = known_query (find_order_means g.P.Versioned.version)

pub returns : goal.returns
returns g c =
    looks_up g.P.Versioned.version c.find_one.ensures.reads (rw c.cell.ensures at c.find_one.ensures.ran)
    (λ v has found xs stored counted.
    let kept = filter (λ (o : OrderRow). nat_eq c.args.order o.id) xs in
    let rising = ascending-filter _ (λ (o : OrderRow). nat_eq c.args.order o.id) xs (counted_rises (λ (o : OrderRow). o.id) 1 xs counted) in
    IfOk-weaker c.find_one.result _ _ (λ first it.
    let all = find_order_finds _ _ c.args.order v has xs stored (λ l. l) (Ok it.0) it.1 in
    it.2 ∙ first_shown entry_of (λ (o : OrderRow). nat_eq c.args.order o.id) xs it.0 (all.2 ∙ ap (map entry_of) (only_order by_order by_order_total kept all.0 rising all.1.1 all.1.0))) found)
    (λ v has missed xs stored legible free. find_order_faults _ _ c.args.order v has xs stored (λ _. []) c.find_one.result legible free missed)
