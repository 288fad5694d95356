use Rattle.adoption.proofs.DeskChecked.{told_alike}
use Rattle.adoption.proofs.laws.desk_checks_tell_the_cause.Goals as goal

pub returns : goal.returns
returns c version db limits today = told_alike version db limits today
