use Rattle.adoption.proofs.OrderedTables.{links_ordered}
use Rattle.adoption.proofs.laws_of_tables.tables_of_links_stand_in_order.Goals as goal

pub returns : goal.returns
returns c = links_ordered
