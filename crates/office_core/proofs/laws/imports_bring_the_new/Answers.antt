use Rattle.office_core.proofs.ImportedCounts.{imports_bring}
use Rattle.office_core.proofs.laws.imports_bring_the_new.Goals as goal

pub returns : goal.returns
returns c = imports_bring
