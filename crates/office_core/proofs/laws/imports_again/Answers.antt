use Rattle.office_core.proofs.Again.{imports_again as again}
use Rattle.office_core.proofs.laws.imports_again.Goals as goal

pub returns : goal.returns
returns c = again
