use Rattle.office_core.proofs.worked_rows.WorkedSettings as row
use Rattle.office_core.proofs.worked.worked_settings.Goals as goal

pub returns-clause-one_of_each : goal.returns-clause-one_of_each
returns-clause-one_of_each c = row.one_of_each

pub returns-clause-some_of_each : goal.returns-clause-some_of_each
returns-clause-some_of_each c = row.some_of_each

pub returns-clause-most_of_each : goal.returns-clause-most_of_each
returns-clause-most_of_each c = row.most_of_each
