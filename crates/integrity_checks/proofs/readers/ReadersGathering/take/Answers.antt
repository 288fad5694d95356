use Rattle.integrity_checks.proofs.JudgedReaders.{taken_bad, taken_good}
use Rattle.integrity_checks.proofs.readers.ReadersGathering.take.Goals as goal

pub returns-then-not-is_reader-clause-takes : goal.returns-then-not-is_reader-clause-takes
returns-then-not-is_reader-clause-takes c = λ rows held. taken_bad c.args.self.now.count c.args.self.now.are_good c.is_reader.result rows c.args.row.now c.if-not-is_reader.true held.0 held.1 c.is_reader.ensures

pub returns-else-not-is_reader-clause-takes : goal.returns-else-not-is_reader-clause-takes
returns-else-not-is_reader-clause-takes c = λ rows held. taken_good c.args.self.now.count c.args.self.now.are_good c.is_reader.result rows c.args.row.now c.if-not-is_reader.false held.0 held.1 c.is_reader.ensures
