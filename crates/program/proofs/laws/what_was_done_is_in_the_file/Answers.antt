use Rattle.program.proofs.DoneLemmas as done
use Rattle.program.proofs.laws.what_was_done_is_in_the_file.Goals as goal

pub returns : goal.returns
returns g c = record {
  made = done.made _ _;
  not_made = done.not_made _ _;
  taken_in = done.taken_in _ _;
  said = done.said _ _;
  served = done.served _ _;
  brought_over = done.brought_over _ _;
}
