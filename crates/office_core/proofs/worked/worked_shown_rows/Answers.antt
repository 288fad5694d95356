use Rattle.office_core.proofs.worked_rows.WorkedShown as row
use Rattle.office_core.proofs.worked.worked_shown_rows.Goals as goal

pub returns-clause-closed_shown : goal.returns-clause-closed_shown
returns-clause-closed_shown c = row.closed_shown

pub returns-clause-old_slips : goal.returns-clause-old_slips
returns-clause-old_slips c = row.old_slips

pub returns-clause-lists : goal.returns-clause-lists
returns-clause-lists c = row.lists

pub returns-clause-permit_kept : goal.returns-clause-permit_kept
returns-clause-permit_kept c = row.permit_kept

pub returns-clause-nearest_above : goal.returns-clause-nearest_above
returns-clause-nearest_above c = row.nearest_above

pub returns-clause-lines_in_order : goal.returns-clause-lines_in_order
returns-clause-lines_in_order c = row.lines_in_order

pub returns-clause-told_apart : goal.returns-clause-told_apart
returns-clause-told_apart c = row.told_apart
