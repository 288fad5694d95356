use Rattle.desk_store.proofs.Creations.{orders_defined}
use Rattle.desk_store.proofs.TableSteps.{makes_one}
use Rattle.desk_store.proofs.table_creation.create_orders.Goals as goal

pub returns : goal.returns
returns g c = makes_one g.S.Store c.args.conn.now c.create_table.new.conn c.create_table.result orders_defined c.create_table.ensures.made c.create_table.ensures.faults c.create_table.ensures.aborts
