use Rattle.std.proofs.Common.{pos, refl}
use Rattle.desk_store.proofs.Common.{bound_maybe, known_change, option_map, puts_row}
use Rattle.desk_store.proofs.HoldingWrites.{insert_holding_means, insert_holding_puts, insert_holding_faults}
use Rattle.desk_store.proofs.holdings.insert_holding.Goals as goal

pub change-requires : goal.change-requires
change-requires g c = known_change (insert_holding_means g.P.Versioned.version) refl

pub returns : goal.returns
returns g c =
    puts_row g.P.Versioned.version c.change.ensures.leaves (rw (c.cell.ensures, c.cell-2.ensures, c.cell_or_null.ensures, bound_maybe (option_map pos c.args.held_by)) at c.change.ensures.ran)
    (λ v has ran. insert_holding_puts _ _ c.args.container c.args.place c.args.held_by v has c.change.result ran)
    (λ v has ran xs stored none free.
    insert_holding_faults _ _ c.args.container c.args.place c.args.held_by v has xs stored none free c.change.ensures.live c.change.result
    ran)
