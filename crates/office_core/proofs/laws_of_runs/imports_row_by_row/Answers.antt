use Rattle.office_core.proofs.ImportedByRow.{takes_row_by_row, faults_row_by_row}
use Rattle.office_core.proofs.laws_of_runs.imports_row_by_row.Goals as goal

pub returns-clause-takes : goal.returns-clause-takes
returns-clause-takes c = takes_row_by_row

pub returns-clause-faults : goal.returns-clause-faults
returns-clause-faults c = faults_row_by_row
