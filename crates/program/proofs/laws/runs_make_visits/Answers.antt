use Rattle.program.proofs.NextRunLemmas.{make_visits}
use Rattle.program.proofs.laws.runs_make_visits.Goals as goal

pub returns : goal.returns
returns g c = make_visits _ _
