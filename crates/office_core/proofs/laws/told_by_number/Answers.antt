use Rattle.office_core.proofs.NumbersGiven.{names_what_came}
use Rattle.office_core.proofs.laws.told_by_number.Goals as goal

pub returns : goal.returns
returns c = names_what_came
