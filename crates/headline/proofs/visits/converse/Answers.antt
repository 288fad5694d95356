use Rattle.std.proofs.Common.{rules}
use Rattle.headline.proofs.Runs.{of_talk}
use Rattle.headline.proofs.visits.converse.Goals as goal

pub returns : goal.returns
returns g c =
    let talked = c.talk-ended.ensures in
    of_talk g.R.Read.remaining g.W.Write.contents g.M.Machine.represents g.M.Machine.is_intact g.M.Machine.is_open g.M.Machine.recovers _ _ _ _ c.new-source.result c.talk-ended.new.reader c.new-sink.result c.talk-ended.new.writer _ _ _ talked.session talked.streams.at_end talked.store c.new-source.ensures.bytes c.new-sink.ensures.bytes (search (rules, talked.streams.calls.0)) (search (rules, talked.streams.same))
