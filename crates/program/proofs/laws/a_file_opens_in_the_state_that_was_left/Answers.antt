use Rattle.program.proofs.KeptLemmas.{left_so}
use Rattle.program.proofs.laws.a_file_opens_in_the_state_that_was_left.Goals as goal

pub returns : goal.returns
returns c = λ image s found. left_so image s found
