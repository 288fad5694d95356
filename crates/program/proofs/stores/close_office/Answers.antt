use Rattle.program.proofs.ClosedLemmas.{seen_as}
use Rattle.program.proofs.stores.close_office.Goals as goal

pub returns : goal.returns
returns g c = seen_as c.into_connection.result c.args.office c.close.result c.into_connection.ensures.same (c.close.ensures c.into_connection.ensures.ended)
