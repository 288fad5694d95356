use Rattle.std.proofs.Common.{rules}
use Rattle.office_tables.proofs.Reading.{read_more, shown_at}
use Rattle.office_tables.proofs.from_row.read_all.Goals as goal

pub loop-row-preserved : goal.loop-row-preserved
loop-row-preserved g c xs is =
    read_more g.T.FromRow.cells xs c.loop-row.all.items c.push.new.self.items c.args.rows.now c.loop-row.row-index c.in_ok-read.field-0 c.row-item.result is c.loop-row-test.true c.row-item.is
    c.in_ok-read.ensures.value (c.loop-row.invariant xs is) c.in_ok-push.ensures.items

pub returns-in_err-read-clause-faults : goal.returns-in_err-read-clause-faults
returns-in_err-read-clause-faults g c xs is legible =
    let it = shown_at g.T.FromRow.cells g.T.FromRow.is_legible xs c.args.rows.now c.loop-row.row-index c.row-item.result is c.loop-row-test.true c.row-item.is legible in
    let failed = c.in_err-read.ensures.faults it.0 it.1 it.2 in
    search (rules, failed)
