use Rattle.std.proofs.Common.{Ok, [], map, filter, nat_eq, ap, ◌∙◌}
use Rattle.desk_store.proofs.Common.{IfOk-weaker, ascending-filter, counted_rises, first_shown, known_query, looks_up}
use Rattle.desk_store.proofs.Common.{only_order}
use Rattle.desk_store.proofs.BoxRows.{Numbered, number_means, number_finds, number_faults, by_number, by_number_total}
use Rattle.desk_store.proofs.container_labels.find_container.Goals as goal

pub find_one-requires : goal.find_one-requires
find_one-requires g c = known_query (number_means g.P.Versioned.version)

pub returns : goal.returns
returns g c =
    looks_up g.P.Versioned.version c.find_one.ensures.reads (rw c.cell.ensures at c.find_one.ensures.ran)
    (λ v has found bs stored counted.
    let kept = filter (λ (b : Numbered). nat_eq c.args.container b.0) bs in
    let rising = ascending-filter _ (λ (b : Numbered). nat_eq c.args.container b.0) bs (counted_rises (λ (b : Numbered). b.0) 1 bs counted) in
    IfOk-weaker c.find_one.result _ _ (λ first it.
    let all = number_finds _ _ c.args.container v has bs stored (λ l. l) (Ok it.0) it.1 in
    it.2 ∙ first_shown (λ (b : Numbered). b.0) (λ (b : Numbered). nat_eq c.args.container b.0) bs it.0 (all.2 ∙ ap (map (λ (b : Numbered). b.0)) (only_order by_number by_number_total kept all.0 rising all.1.1 all.1.0))) found)
    (λ v has missed bs stored _ free. number_faults _ _ c.args.container v has bs stored (λ _. []) c.find_one.result free missed)
