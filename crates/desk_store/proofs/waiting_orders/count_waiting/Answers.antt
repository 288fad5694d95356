use Rattle.desk_store.proofs.Common.{known_query, looks_up}
use Rattle.desk_store.proofs.WaitingRows.{count_means, waiting_count_finds, waiting_count_faults}
use Rattle.desk_store.proofs.waiting_orders.count_waiting.Goals as goal

pub find_number-requires : goal.find_number-requires
find_number-requires g c = known_query (count_means g.P.Versioned.version)

pub returns : goal.returns
returns g c =
    looks_up g.P.Versioned.version c.find_number.ensures.reads (rw c.cell.ensures at c.find_number.ensures.ran)
    (λ v has found xs stored few. waiting_count_finds _ _ v has c.args.container xs stored few c.find_number.result found)
    (λ v has missed xs stored few free. waiting_count_faults _ _ v has c.args.container xs stored few c.find_number.result free missed)
