use Rattle.std.proofs.Common.{Ok, List, [], map, filter, take, refl, sym, ap, ◌∙◌}
use Rattle.desk_store.proofs.Common.{IfOk-weaker, OrderRow, ascending-filter, counted_rises, first_shown, known_query}
use Rattle.desk_store.proofs.Common.{looks_up, only_order, slice_get, take-map, waits_for}
use Rattle.desk_store.proofs.CardRows.{by_order, by_order_total}
use Rattle.desk_store.proofs.WaitingRows.{first_means, first_finds, first_faults, first_taken, waiting_of}
use Rattle.desk_store.proofs.waiting_orders.first_for.Goals as goal

pub find_one-requires : goal.find_one-requires
find_one-requires g c = known_query (first_means g.P.Versioned.version)

pub returns : goal.returns
returns g c =
    looks_up g.P.Versioned.version c.find_one.ensures.reads (rw c.cell.ensures at c.find_one.ensures.ran)
    (λ v has found xs stored counted.
    let kept = filter (waits_for c.args.container) xs in
    let rising = ascending-filter _ (waits_for c.args.container) xs (counted_rises (λ (o : OrderRow). o.id) 1 xs counted) in
    IfOk-weaker c.find_one.result _ _ (λ first it.
    let all = first_finds _ _ c.args.container v has xs stored (λ l. l) (Ok it.0) it.1 in
    it.2 ∙ ap (λ l. slice_get l 0) (all.2 ∙ ap (λ (l : List OrderRow). map waiting_of (take 1 l)) (only_order by_order by_order_total kept all.0 rising all.1.1 all.1.0) ∙ sym (take-map waiting_of 1 kept))
    ∙ first_taken (map waiting_of kept) ∙ first_shown waiting_of (waits_for c.args.container) xs (map waiting_of kept) refl) found)
    (λ v has missed xs stored _ free. first_faults _ _ c.args.container v has xs stored (λ _. []) c.find_one.result free missed)
