use Rattle.std.proofs.Common.{Ok, [], map, filter, nat_eq, ap, ◌∙◌}
use Rattle.desk_store.proofs.Common.{IfOk-weaker, SeatRow, ascending-filter, first_shown, known_query, looks_up}
use Rattle.desk_store.proofs.Common.{only_order}
use Rattle.desk_store.proofs.SeatRows.{find_seat_means, find_seat_finds, find_seat_faults, taken, by_seat}
use Rattle.desk_store.proofs.SeatRows.{by_seat_total}
use Rattle.desk_store.proofs.taken_seats.find_seat.Goals as goal

pub find_one-requires : goal.find_one-requires
find_one-requires g c = known_query (find_seat_means g.P.Versioned.version)

pub returns : goal.returns
returns g c =
    looks_up g.P.Versioned.version c.find_one.ensures.reads (rw c.cell.ensures at c.find_one.ensures.ran)
    (λ v has found xs stored up.
    let kept = filter (λ (s : SeatRow). nat_eq c.args.ticket s.ticket) xs in
    let rising = ascending-filter _ (λ (s : SeatRow). nat_eq c.args.ticket s.ticket) xs up in
    IfOk-weaker c.find_one.result _ _ (λ first it.
    let all = find_seat_finds _ _ v has xs stored (λ l. l) (Ok it.0) c.args.ticket it.1 in
    it.2 ∙ first_shown taken (λ (s : SeatRow). nat_eq c.args.ticket s.ticket) xs it.0 (all.2 ∙ ap (map taken) (only_order by_seat by_seat_total kept all.0 rising all.1.1 all.1.0))) found)
    (λ v has missed xs stored legible free. find_seat_faults _ _ v has xs stored (λ _. []) c.find_one.result c.args.ticket legible free missed)
