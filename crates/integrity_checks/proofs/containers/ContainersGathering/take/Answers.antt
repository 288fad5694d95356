use Rattle.integrity_checks.proofs.JudgedContainers.{taken_bad, taken_good}
use Rattle.integrity_checks.proofs.containers.ContainersGathering.take.Goals as goal

pub returns-then-not-is_container-clause-takes : goal.returns-then-not-is_container-clause-takes
returns-then-not-is_container-clause-takes c = λ rows held. taken_bad c.args.self.now.count c.args.self.now.are_good c.is_container.result rows c.args.row.now c.if-not-is_container.true held.0 held.1 c.is_container.ensures

pub returns-else-not-is_container-clause-takes : goal.returns-else-not-is_container-clause-takes
returns-else-not-is_container-clause-takes c = λ rows held. taken_good c.args.self.now.count c.args.self.now.are_good c.is_container.result rows c.args.row.now c.if-not-is_container.false held.0 held.1 c.is_container.ensures
