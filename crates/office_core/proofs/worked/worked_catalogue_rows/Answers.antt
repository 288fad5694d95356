use Rattle.office_core.proofs.worked_rows.WorkedCatalogue as row
use Rattle.office_core.proofs.worked.worked_catalogue_rows.Goals as goal

pub returns-clause-sources_apart : goal.returns-clause-sources_apart
returns-clause-sources_apart c = row.sources_apart

pub returns-clause-known_rows_stay : goal.returns-clause-known_rows_stay
returns-clause-known_rows_stay c = row.known_rows_stay

pub returns-clause-boxes_turned : goal.returns-clause-boxes_turned
returns-clause-boxes_turned c = row.boxes_turned

pub returns-clause-levels_of_parents : goal.returns-clause-levels_of_parents
returns-clause-levels_of_parents c = row.levels_of_parents

pub returns-clause-too_much_before_the_gate : goal.returns-clause-too_much_before_the_gate
returns-clause-too_much_before_the_gate c = row.too_much_before_the_gate

pub returns-clause-branch_counted : goal.returns-clause-branch_counted
returns-clause-branch_counted c = row.branch_counted

pub returns-clause-last_places : goal.returns-clause-last_places
returns-clause-last_places c = row.last_places

pub returns-clause-boxes_in_order : goal.returns-clause-boxes_in_order
returns-clause-boxes_in_order c = row.boxes_in_order
