use Rattle.program.proofs.HeadlineLemmas.{in_a_file}
use Rattle.program.proofs.laws.the_headline_in_a_file.Goals as goal

pub returns : goal.returns
returns g c = in_a_file _ _
