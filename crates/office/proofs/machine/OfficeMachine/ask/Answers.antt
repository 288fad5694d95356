use Rattle.office.proofs.Machines.{answer_told, busy_told}
use Rattle.office.proofs.machine.OfficeMachine.ask.Goals as goal

pub returns-clause-answer : goal.returns-clause-answer
returns-clause-answer g c =
    let told = c.ask.ensures in
    answer_told g.S.Store g.P.Places.represents g.P.Versioned.version c.args.self.now c.ask.new.self c.args.query c.ask.result told.answers told.same

pub returns-clause-was_open : goal.returns-clause-was_open
returns-clause-was_open g c = λ clean. (c.ask.ensures.same clean).was_open

pub returns-clause-busy : goal.returns-clause-busy
returns-clause-busy g c = busy_told g.S.Store g.P.Places.represents g.P.Versioned.version c.args.self.now c.ask.new.self c.ask.result c.ask.ensures.same
