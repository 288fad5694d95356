use Rattle.adoption.proofs.OrderedTables.{spans_ordered}
use Rattle.adoption.proofs.laws_of_tables.tables_of_spans_stand_in_order.Goals as goal

pub returns : goal.returns
returns c = spans_ordered
