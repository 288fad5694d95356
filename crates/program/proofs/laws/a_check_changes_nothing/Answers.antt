use Rattle.program.proofs.ClosedLemmas.{changes_nothing}
use Rattle.program.proofs.laws.a_check_changes_nothing.Goals as goal

pub returns : goal.returns
returns g c = changes_nothing _ _
