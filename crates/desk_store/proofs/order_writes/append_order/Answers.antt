use Rattle.desk_store.proofs.OrderWrites.{appended}
use Rattle.desk_store.proofs.order_writes.append_order.Goals as goal

pub returns : goal.returns
returns g c =
    record {
      updates = appended g.S.Store c.args.tables.now c.insert_order.new.tables c.insert_order.result c.args.order c.args.ticket c.args.container c.args.on c.insert_order.ensures.leaves c.insert_order.ensures.puts c.insert_order.ensures.faults;
      puts = c.insert_order.ensures.puts;
    }
