use Rattle.office_core.proofs.MixedRuns.{only_commands, same_replies}
use Rattle.office_core.proofs.laws_of_runs.queries_change_nothing.Goals as goal

pub returns-clause-state : goal.returns-clause-state
returns-clause-state c = only_commands

pub returns-clause-replies : goal.returns-clause-replies
returns-clause-replies c = same_replies
