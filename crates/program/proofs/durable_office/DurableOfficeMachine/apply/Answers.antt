use Rattle.office.proofs.Machines.{busy_same, kept_open, step_told}
use Rattle.program.proofs.Common.{RepresentsSpanRows, Second}
use Rattle.program.proofs.CrashLemmas.{busy_found, command_found}
use Rattle.program.proofs.durable_office.DurableOfficeMachine.apply.Goals as goal

pub returns-clause-step : goal.returns-clause-step
returns-clause-step g c =
    let does = c.apply.ensures in
    step_told g.S.Store RepresentsSpanRows Second c.args.self.now.office c.apply.new.self c.args.command c.apply.result does.steps does.sound does.bytes

pub returns-clause-kept : goal.returns-clause-kept
returns-clause-kept g c = kept_open g.S.Store RepresentsSpanRows Second c.args.self.now.office c.apply.new.self c.apply.result c.apply.ensures.kept

pub returns-clause-busy : goal.returns-clause-busy
returns-clause-busy g c = busy_same g.S.Store RepresentsSpanRows Second c.args.self.now.office c.apply.new.self c.apply.result c.apply.ensures.busy

pub returns-clause-found : goal.returns-clause-found
returns-clause-found g c =
    let does = c.apply.ensures in
    command_found g.S.Store g.met.S.Durable.keeps c.args.self.now.office c.apply.new.self does.rested c.args.command does.crash c.apply.result does.kept does.steps

pub returns-clause-doubt : goal.returns-clause-doubt
returns-clause-doubt g c = busy_found g.S.Store g.met.S.Durable.keeps c.args.self.now.office c.apply.new.self c.apply.ensures.rested c.args.command c.apply.ensures.crash c.apply.result
