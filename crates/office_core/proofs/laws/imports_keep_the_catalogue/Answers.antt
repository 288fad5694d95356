use Rattle.office_core.proofs.ImportedUnits.{imports_keep}
use Rattle.office_core.proofs.laws.imports_keep_the_catalogue.Goals as goal

pub returns : goal.returns
returns c = imports_keep
