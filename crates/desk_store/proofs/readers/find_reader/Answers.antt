use Rattle.std.proofs.Common.{Ok, [], map, filter, nat_eq, ap, ◌∙◌}
use Rattle.desk_store.proofs.Common.{IfOk-weaker, ReaderRow, ascending-filter, counted_rises, first_shown, known_query}
use Rattle.desk_store.proofs.Common.{looks_up, only_order}
use Rattle.desk_store.proofs.ReaderRows.{find_reader_means, find_reader_finds, find_reader_faults, named, by_ticket}
use Rattle.desk_store.proofs.ReaderRows.{by_ticket_total}
use Rattle.desk_store.proofs.readers.find_reader.Goals as goal

pub find_one-requires : goal.find_one-requires
find_one-requires g c = known_query (find_reader_means g.P.Versioned.version)

pub returns : goal.returns
returns g c =
    looks_up g.P.Versioned.version c.find_one.ensures.reads (rw c.cell.ensures at c.find_one.ensures.ran)
    (λ v has found xs stored counted.
    let kept = filter (λ (r : ReaderRow). nat_eq c.args.ticket r.ticket) xs in
    let rising = ascending-filter _ (λ (r : ReaderRow). nat_eq c.args.ticket r.ticket) xs (counted_rises (λ (r : ReaderRow). r.ticket) 1 xs counted) in
    IfOk-weaker c.find_one.result _ _ (λ first it.
    let all = find_reader_finds _ _ c.args.ticket v has xs stored (λ l. l) (Ok it.0) it.1 in
    it.2 ∙ first_shown named (λ (r : ReaderRow). nat_eq c.args.ticket r.ticket) xs it.0 (all.2 ∙ ap (map named) (only_order by_ticket by_ticket_total kept all.0 rising all.1.1 all.1.0))) found)
    (λ v has missed xs stored legible free. find_reader_faults _ _ c.args.ticket v has xs stored (λ _. []) c.find_one.result legible free missed)
