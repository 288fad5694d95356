use Rattle.state_encoding.proofs.DeskSound.{desk_sound}
use Rattle.state_encoding.proofs.JudgedWhole.{rows_are_said}
use Rattle.state_encoding.proofs.laws.rows_without_a_cause.Goals as goal

pub returns : goal.returns
returns c = λ version t. rows_are_said version t (desk_sound version t)
