use Rattle.program.proofs.NextRunLemmas as runs
use Rattle.program.proofs.laws.runs_are_one_machine.Goals as goal

pub returns : goal.returns
returns g c = record {
  found = runs.as_found;
  made = runs.as_made _ _;
  brought_over = runs.as_brought_over _ _;
  goes_on = runs.goes_on _ _;
}
