use Rattle.desk_store.proofs.OrderWrites.{brought}
use Rattle.desk_store.proofs.order_writes.end_order.Goals as goal

pub returns : goal.returns
returns g c = record { updates = brought g.S.Store c.args.tables.now c.set_state.new.tables c.set_state.result c.args.order c.args.next c.set_state.ensures.leaves (rw c.number_of.ensures at c.set_state.ensures.rows) c.set_state.ensures.only c.set_state.ensures.faults }
