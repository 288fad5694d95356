use Rattle.office_core.proofs.worked_rows.WorkedChecks as row
use Rattle.office_core.proofs.worked.worked_checks.Goals as goal

pub returns-clause-order_in_turn : goal.returns-clause-order_in_turn
returns-clause-order_in_turn c = row.order_in_turn

pub returns-clause-issue_in_turn : goal.returns-clause-issue_in_turn
returns-clause-issue_in_turn c = row.issue_in_turn

pub returns-clause-seats_in_turn : goal.returns-clause-seats_in_turn
returns-clause-seats_in_turn c = row.seats_in_turn

pub returns-clause-permit_in_turn : goal.returns-clause-permit_in_turn
returns-clause-permit_in_turn c = row.permit_in_turn

pub returns-clause-name_before_file : goal.returns-clause-name_before_file
returns-clause-name_before_file c = row.name_before_file
