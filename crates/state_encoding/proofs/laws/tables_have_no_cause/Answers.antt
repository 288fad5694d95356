use Rattle.state_encoding.proofs.DeskPasses.{desk_passes}
use Rattle.state_encoding.proofs.JudgedWhole.{tables_are_shown}
use Rattle.state_encoding.proofs.laws.tables_have_no_cause.Goals as goal

pub returns : goal.returns
returns c = λ version s. tables_are_shown version s (desk_passes version s)
