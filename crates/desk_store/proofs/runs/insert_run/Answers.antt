use Rattle.std.proofs.Common.{refl}
use Rattle.desk_store.proofs.Common.{known_change, puts_row}
use Rattle.desk_store.proofs.RunRows.{insert_run_means, insert_run_puts, insert_run_faults}
use Rattle.desk_store.proofs.runs.insert_run.Goals as goal

pub change-requires : goal.change-requires
change-requires g c = known_change (insert_run_means g.P.Versioned.version) refl

pub returns : goal.returns
returns g c =
    puts_row g.P.Versioned.version c.change.ensures.leaves (rw (c.cell.ensures, c.day.ensures) at c.change.ensures.ran)
    (λ v has ran. insert_run_puts _ _ (record { id = c.args.run; day = c.args.on }) v has c.change.result ran)
    (λ v has ran xs stored none free. insert_run_faults _ _ (record { id = c.args.run; day = c.args.on }) v has xs stored none free c.change.ensures.live c.change.result ran)
