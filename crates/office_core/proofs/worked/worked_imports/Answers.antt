use Rattle.office_core.proofs.worked_rows.WorkedImports as row
use Rattle.office_core.proofs.worked.worked_imports.Goals as goal

pub returns-clause-levels_without_rank : goal.returns-clause-levels_without_rank
returns-clause-levels_without_rank c = row.levels_without_rank

pub returns-clause-one_missing : goal.returns-clause-one_missing
returns-clause-one_missing c = row.one_missing

pub returns-clause-changed_alone : goal.returns-clause-changed_alone
returns-clause-changed_alone c = row.changed_alone

pub returns-clause-new_below : goal.returns-clause-new_below
returns-clause-new_below c = row.new_below

pub returns-clause-closures_kept : goal.returns-clause-closures_kept
returns-clause-closures_kept c = row.closures_kept

pub returns-clause-too_deep_before_the_gate : goal.returns-clause-too_deep_before_the_gate
returns-clause-too_deep_before_the_gate c = row.too_deep_before_the_gate
