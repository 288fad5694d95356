use Rattle.office_core.proofs.worked_rows.WorkedSound.{permits_to_the_limit}
use Rattle.office_core.proofs.worked.worked_permits.Goals as goal

pub returns : goal.returns
returns c = permits_to_the_limit
