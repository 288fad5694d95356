use Rattle.adoption.proofs.OwnRowLemmas.{taken_more}
use Rattle.adoption.proofs.own_row.OwnRowsGathering.take.Goals as goal

pub returns-clause-takes : goal.returns-clause-takes
returns-clause-takes c = λ rows held. taken_more rows c.args.row.now c.args.self.now.count c.args.self.now.told c.told_in-self.result c.told_in-self.ensures held
