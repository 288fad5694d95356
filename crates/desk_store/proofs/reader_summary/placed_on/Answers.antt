use Rattle.desk_store.proofs.Common.{known_query, looks_up}
use Rattle.desk_store.proofs.CardRows.{placed_means, placed_finds, placed_faults}
use Rattle.desk_store.proofs.reader_summary.placed_on.Goals as goal

pub find_number-requires : goal.find_number-requires
find_number-requires g c = known_query (placed_means g.P.Versioned.version)

pub returns : goal.returns
returns g c =
    looks_up g.P.Versioned.version c.find_number.ensures.reads (rw (c.cell.ensures, c.day.ensures) at c.find_number.ensures.ran)
    (λ v has found xs stored few. placed_finds _ _ v has xs stored few c.find_number.result c.args.ticket c.args.on found)
    (λ v has missed xs stored few free. placed_faults _ _ v has xs stored few c.find_number.result c.args.ticket c.args.on free missed)
