use Rattle.office.proofs.Machines.{busy_same, kept_open, step_told}
use Rattle.office.proofs.machine.OfficeMachine.apply.Goals as goal

pub returns-clause-step : goal.returns-clause-step
returns-clause-step g c =
    let does = c.apply.ensures in
    step_told g.S.Store g.P.Places.represents g.P.Versioned.version c.args.self.now c.apply.new.self c.args.command c.apply.result does.steps does.sound does.bytes

pub returns-clause-kept : goal.returns-clause-kept
returns-clause-kept g c = kept_open g.S.Store g.P.Places.represents g.P.Versioned.version c.args.self.now c.apply.new.self c.apply.result c.apply.ensures.kept

pub returns-clause-busy : goal.returns-clause-busy
returns-clause-busy g c = busy_same g.S.Store g.P.Places.represents g.P.Versioned.version c.args.self.now c.apply.new.self c.apply.result c.apply.ensures.busy
