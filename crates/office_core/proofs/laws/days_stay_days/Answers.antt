use Rattle.office_core.proofs.Days.{always_days}
use Rattle.office_core.proofs.laws.days_stay_days.Goals as goal

pub returns : goal.returns
returns c = always_days
