use Rattle.office_core.proofs.MixedRuns.{answered_then}
use Rattle.office_core.proofs.laws_of_runs.answers_are_of_their_time.Goals as goal

pub returns : goal.returns
returns c = answered_then
