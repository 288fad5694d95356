use Rattle.std.proofs.Common.{refl}
use Rattle.desk_store.proofs.Common.{known_change, line_of_run, puts_numbered}
use Rattle.desk_store.proofs.RunRows.{insert_line_means, insert_line_puts, insert_line_faults}
use Rattle.desk_store.proofs.runs.insert_line.Goals as goal

pub change-requires : goal.change-requires
change-requires g c = known_change (insert_line_means g.P.Versioned.version) refl

pub returns : goal.returns
returns g c =
    puts_numbered g.P.Versioned.version c.change.ensures.leaves (rw (c.cell.ensures, c.cell-2.ensures, c.cell-3.ensures, c.cell-4.ensures) at c.change.ensures.ran)
    (λ v has ran. insert_line_puts _ _ (line_of_run c.args.run c.args.line) v has c.change.result ran)
    (λ v has ran ls shown none free. insert_line_faults _ _ (line_of_run c.args.run c.args.line) v has ls shown none free c.change.ensures.live c.change.result ran)
