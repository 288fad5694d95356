use Rattle.std.proofs.Common.{map, filter, nat_eq, ap, ◌∙◌}
use Rattle.desk_store.proofs.Common.{HoldingRow, IfOk-weaker, ascending-filter, known_query, looks_up, only_order}
use Rattle.desk_store.proofs.LoanRows.{by_container, by_container_total}
use Rattle.desk_store.proofs.ReshelvingRows.{desk_means, desk_finds, desk_faults}
use Rattle.desk_store.proofs.desk_containers.desk_lines.Goals as goal

pub find-requires : goal.find-requires
find-requires g c = known_query (desk_means g.P.Versioned.version)

pub returns : goal.returns
returns g c =
    looks_up g.P.Versioned.version c.find.ensures.reads c.find.ensures.ran
    (λ v has found xs stored up.
    let kept = filter (λ (h : HoldingRow). nat_eq 1 h.place) xs in
    let rising = ascending-filter _ (λ (h : HoldingRow). nat_eq 1 h.place) xs up in
    IfOk-weaker c.find.result _ _ (λ all it. it.2 ∙ ap (map (λ (h : HoldingRow). h.container)) (only_order by_container by_container_total kept it.0 rising it.1.1 it.1.0))
    (desk_finds _ _ v has xs stored (λ found. found.items) c.find.result found))
    (λ v has missed xs stored _ free. desk_faults _ _ v has xs stored (λ found. found.items) c.find.result free missed)
