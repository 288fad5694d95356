use Rattle.state_encoding.proofs.WorkedDeskCauses.{told}
use Rattle.state_encoding.proofs.worked.worked_desk_causes.Goals as goal

pub returns : goal.returns
returns c = told
