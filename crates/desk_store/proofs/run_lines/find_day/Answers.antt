use Rattle.std.proofs.Common.{Ok, [], map, filter, nat_eq, ap, ◌∙◌}
use Rattle.desk_store.proofs.Common.{IfOk-weaker, RunRow, ascending-filter, counted_rises, first_shown, known_query}
use Rattle.desk_store.proofs.Common.{looks_up, only_order}
use Rattle.desk_store.proofs.BroughtRows.{day_means, day_finds, day_faults, day_of, by_run, by_run_total}
use Rattle.desk_store.proofs.run_lines.find_day.Goals as goal

pub find_one-requires : goal.find_one-requires
find_one-requires g c = known_query (day_means g.P.Versioned.version)

pub returns : goal.returns
returns g c =
    looks_up g.P.Versioned.version c.find_one.ensures.reads (rw c.cell.ensures at c.find_one.ensures.ran)
    (λ v has found xs stored counted.
    let kept = filter (λ (x : RunRow). nat_eq c.args.run x.id) xs in
    let rising = ascending-filter _ (λ (x : RunRow). nat_eq c.args.run x.id) xs (counted_rises (λ (x : RunRow). x.id) 1 xs counted) in
    IfOk-weaker c.find_one.result _ _ (λ first it.
    let all = day_finds _ _ c.args.run v has xs stored (λ l. l) (Ok it.0) it.1 in
    it.2 ∙ first_shown day_of (λ (x : RunRow). nat_eq c.args.run x.id) xs it.0 (all.2 ∙ ap (map day_of) (only_order by_run by_run_total kept all.0 rising all.1.1 all.1.0))) found)
    (λ v has missed xs stored legible free. day_faults _ _ c.args.run v has xs stored (λ _. []) c.find_one.result legible free missed)
