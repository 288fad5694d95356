use Rattle.row_decoding.proofs.GatheredRows.{one_read, one_unread}
use Rattle.row_decoding.proofs.decoded_rows.GatheredGathering.take.Goals as goal

pub returns-in_ok-push-in-Some-clause-takes : goal.returns-in_ok-push-in-Some-clause-takes
returns-in_ok-push-in-Some-clause-takes g c = λ rows so_far.
    one_read g.R.FromCells.says c.args.row.now g.R.FromCells.told c.args.self.now.rows.items c.args.self.now.are_read rows so_far c.in-Some.read c.push.new.self.items c.in_ok-push-in-Some.ensures.items c.in-Some.ensures

pub returns-in-None-clause-takes : goal.returns-in-None-clause-takes
returns-in-None-clause-takes g c = λ rows so_far.
    one_unread g.R.FromCells.says c.args.row.now g.R.FromCells.told c.args.self.now.rows.items c.args.self.now.are_read rows so_far c.in-None.ensures
