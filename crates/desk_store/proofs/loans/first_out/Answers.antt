use Rattle.std.proofs.Common.{Ok, List, [], map, filter, take, refl, sym, ap, ◌∙◌}
use Rattle.desk_store.proofs.Common.{HoldingRow, IfOk-weaker, ascending-filter, first_shown, is_held, known_query}
use Rattle.desk_store.proofs.Common.{looks_up, only_order, slice_get, take-map}
use Rattle.desk_store.proofs.FirstOut.{container_of, out_faults, out_finds, out_means}
use Rattle.desk_store.proofs.LoanRows.{by_container, by_container_total}
use Rattle.desk_store.proofs.WaitingRows.{first_taken}
use Rattle.desk_store.proofs.loans.first_out.Goals as goal

pub find_one-requires : goal.find_one-requires
find_one-requires g c = known_query (out_means g.P.Versioned.version)

pub returns : goal.returns
returns g c =
    looks_up g.P.Versioned.version c.find_one.ensures.reads c.find_one.ensures.ran
    (λ v has found xs stored up.
    let kept = filter is_held xs in
    let rising = ascending-filter _ is_held xs up in
    IfOk-weaker c.find_one.result _ _ (λ first it.
    let all = out_finds _ _ v has xs stored (λ l. l) (Ok it.0) it.1 in
    it.2 ∙ ap (λ l. slice_get l 0) (all.2 ∙ ap (λ (l : List HoldingRow). map container_of (take 1 l)) (only_order by_container by_container_total kept all.0 rising all.1.1 all.1.0) ∙ sym (take-map container_of 1 kept))
    ∙ first_taken (map container_of kept) ∙ first_shown container_of is_held xs (map container_of kept) refl) found)
    (λ v has missed xs stored _ free. out_faults _ _ v has xs stored (λ _. []) c.find_one.result free missed)
