use Rattle.desk_store.proofs.Common.{known_query, looks_up}
use Rattle.desk_store.proofs.RunRows.{lines_with_means, lines_with_finds, lines_with_faults}
use Rattle.desk_store.proofs.runs.lines_with.Goals as goal

pub find-requires : goal.find-requires
find-requires g c = known_query (lines_with_means g.P.Versioned.version)

pub returns : goal.returns
returns g c =
    looks_up g.P.Versioned.version c.find.ensures.reads (rw c.cell.ensures at c.find.ensures.ran)
    (λ v has found ls shown _. lines_with_finds _ _ c.args.run v has ls shown (λ found. found.items) c.find.result found)
    (λ v has missed ls shown _ free. lines_with_faults _ _ c.args.run v has ls shown (λ found. found.items) c.find.result free missed)
