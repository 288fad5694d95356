use Rattle.desk_store.proofs.Common.{known_query, looks_up}
use Rattle.desk_store.proofs.ReaderRows.{last_ticket_means, last_ticket_finds, last_ticket_faults}
use Rattle.desk_store.proofs.readers.last_ticket.Goals as goal

pub find_number-requires : goal.find_number-requires
find_number-requires g c = known_query (last_ticket_means g.P.Versioned.version)

pub returns : goal.returns
returns g c =
    looks_up g.P.Versioned.version c.find_number.ensures.reads c.find_number.ensures.ran
    (λ v has found xs stored counted. last_ticket_finds _ _ v has xs stored counted c.find_number.result found)
    (λ v has missed xs stored both free. last_ticket_faults _ _ v has xs stored both.0 c.find_number.result both.1 free missed)
