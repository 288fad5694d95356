use Rattle.std.proofs.Common.{Ok, [], map, filter, nat_eq, ap, ◌∙◌}
use Rattle.desk_store.proofs.Common.{HoldingRow, IfOk-weaker, ascending-filter, first_shown, known_query, looks_up}
use Rattle.desk_store.proofs.Common.{only_order}
use Rattle.desk_store.proofs.LoanRows.{by_container, by_container_total}
use Rattle.desk_store.proofs.PlaceRows.{place_means, place_finds, place_faults, place_entry}
use Rattle.desk_store.proofs.queues.find_place.Goals as goal

pub find_one-requires : goal.find_one-requires
find_one-requires g c = known_query (place_means g.P.Versioned.version)

pub returns : goal.returns
returns g c =
    looks_up g.P.Versioned.version c.find_one.ensures.reads (rw c.cell.ensures at c.find_one.ensures.ran)
    (λ v has found xs stored up.
    let kept = filter (λ (h : HoldingRow). nat_eq c.args.container h.container) xs in
    let rising = ascending-filter _ (λ (h : HoldingRow). nat_eq c.args.container h.container) xs up in
    IfOk-weaker c.find_one.result _ _ (λ first it.
    let all = place_finds _ _ c.args.container v has xs stored (λ l. l) (Ok it.0) it.1 in
    it.2 ∙ first_shown place_entry (λ (h : HoldingRow). nat_eq c.args.container h.container) xs it.0 (all.2 ∙ ap (map place_entry) (only_order by_container by_container_total kept all.0 rising all.1.1 all.1.0))) found)
    (λ v has missed xs stored _ free. place_faults _ _ c.args.container v has xs stored (λ _. []) c.find_one.result free missed)
