use Rattle.desk_store.proofs.Common.{known_query, looks_up}
use Rattle.desk_store.proofs.CardRows.{lines_means, lines_find, lines_fault}
use Rattle.desk_store.proofs.reader_summary.lines_in.Goals as goal

pub find-requires : goal.find-requires
find-requires g c = known_query (lines_means g.P.Versioned.version)

pub returns : goal.returns
returns g c =
    looks_up g.P.Versioned.version c.find.ensures.reads (rw (c.cell.ensures, c.cell-2.ensures, c.from.ensures) at c.find.ensures.ran)
    (λ v has found xs stored counted. lines_find _ _ c.args.ticket c.args.state v has xs stored (λ found. found.items) c.find.result counted found)
    (λ v has missed xs stored _ free. lines_fault _ _ c.args.ticket c.args.state v has xs stored (λ found. found.items) c.find.result free missed)
