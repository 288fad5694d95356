use Rattle.std.proofs.Common.{refl}
use Rattle.desk_store.proofs.Common.{known_change, puts_row}
use Rattle.desk_store.proofs.OrderWrites.{insert_order_means, insert_order_puts, insert_order_faults}
use Rattle.desk_store.proofs.order_writes.insert_order.Goals as goal

pub change-requires : goal.change-requires
change-requires g c = known_change (insert_order_means g.P.Versioned.version) refl

pub returns : goal.returns
returns g c =
    puts_row g.P.Versioned.version c.change.ensures.leaves (rw (c.cell.ensures, c.cell-2.ensures, c.cell-3.ensures, c.day.ensures) at c.change.ensures.ran)
    (λ v has ran. insert_order_puts _ _ c.args.order c.args.ticket c.args.container c.args.on v has c.change.result ran)
    (λ v has ran xs stored none free. insert_order_faults _ _ c.args.order c.args.ticket c.args.container c.args.on v has xs stored none free c.change.ensures.live c.change.result ran)
