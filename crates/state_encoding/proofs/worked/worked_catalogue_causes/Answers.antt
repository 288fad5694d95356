use Rattle.state_encoding.proofs.WorkedCatalogueCauses.{told}
use Rattle.state_encoding.proofs.worked.worked_catalogue_causes.Goals as goal

pub returns : goal.returns
returns c = told
