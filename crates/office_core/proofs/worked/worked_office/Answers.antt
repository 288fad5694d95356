use Rattle.office_core.proofs.LastNumberSound.{one_left_sound}
use Rattle.office_core.proofs.worked.worked_office.Goals as goal

pub returns : goal.returns
returns c = one_left_sound
