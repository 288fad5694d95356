use Rattle.desk_store.proofs.Common.{known_query, looks_up}
use Rattle.desk_store.proofs.CardRows.{last_order_means, last_order_finds, last_order_faults}
use Rattle.desk_store.proofs.reader_summary.last_order.Goals as goal

pub find_number-requires : goal.find_number-requires
find_number-requires g c = known_query (last_order_means g.P.Versioned.version)

pub returns : goal.returns
returns g c =
    looks_up g.P.Versioned.version c.find_number.ensures.reads c.find_number.ensures.ran
    (λ v has found xs stored both. last_order_finds _ _ v has xs stored both.0 c.find_number.result both.1 found)
    (λ v has missed xs stored both free. last_order_faults _ _ v has xs stored both.0 c.find_number.result both.1 free missed)
