use Rattle.std.proofs.Common.{refl}
use Rattle.desk_store.proofs.Common.{changes, known_change}
use Rattle.desk_store.proofs.ReaderRows.{set_last_day_means, set_last_day_leaves, set_last_day_only}
use Rattle.desk_store.proofs.ReaderRows.{set_last_day_faults}
use Rattle.desk_store.proofs.readers.set_last_day.Goals as goal

pub change-requires : goal.change-requires
change-requires g c = known_change (set_last_day_means g.P.Versioned.version) refl

pub returns : goal.returns
returns g c =
    changes g.P.Versioned.version c.change.ensures.leaves (rw (c.cell.ensures, c.day.ensures) at c.change.ensures.ran)
    (λ v has ran xs stored counted. set_last_day_leaves _ _ c.args.ticket c.args.until v has c.change.result ran xs stored counted)
    (λ v has ran. set_last_day_only _ _ c.args.ticket c.args.until v has c.change.result ran)
    (λ v has ran xs stored counted free. set_last_day_faults _ _ c.args.ticket c.args.until v has c.change.result ran xs stored counted free c.change.ensures.live)
