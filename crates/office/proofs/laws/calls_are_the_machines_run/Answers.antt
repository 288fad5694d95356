use Rattle.office.proofs.MachineRuns.{machines_run}
use Rattle.office.proofs.laws.calls_are_the_machines_run.Goals as goal

pub returns : goal.returns
returns g c = machines_run g.M.Machine.represents g.M.Machine.is_intact g.M.Machine.is_open
