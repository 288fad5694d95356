use Rattle.desk_core.proofs.RunLemmas.{run_of-is}
use Rattle.desk_core.proofs.laws.a_run_is_least.Goals as goal

pub returns : goal.returns
returns c = run_of-is
