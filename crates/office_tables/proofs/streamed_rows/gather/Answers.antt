use Rattle.office_tables.proofs.Common.{state}
use Rattle.office_tables.proofs.Gatherings.{our_plain, gathered_reads}
use Rattle.office_tables.proofs.streamed_rows.gather.Goals as goal

pub take_rows-requires-clause-plain : goal.take_rows-requires-clause-plain
take_rows-requires-clause-plain g c = our_plain c.args.sql.now (state g.S.Store c.args.conn.now) c.requires.ours

pub returns-clause-reads : goal.returns-clause-reads
returns-clause-reads g c =
    let old = state g.S.Store c.args.conn.now in
    let new = state g.S.Store c.take_rows.new.conn in
    gathered_reads c.args.sql.now old new c.requires.ours c.take_rows.ensures.crash g.G.Gathering.holds c.take_rows.result c.take_rows.ensures.gathers c.take_rows.ensures.stops
