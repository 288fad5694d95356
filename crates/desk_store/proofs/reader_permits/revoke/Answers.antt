use Rattle.desk_store.proofs.PermitCalls.{takes_back}
use Rattle.desk_store.proofs.reader_permits.revoke.Goals as goal

pub returns : goal.returns
returns g c = record { updates = takes_back g.S.Store c.args.tables.now c.clear_permit.new.tables c.clear_permit.result c.args.ticket c.args.unit c.clear_permit.ensures }
