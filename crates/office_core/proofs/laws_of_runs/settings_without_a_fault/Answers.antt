use Rattle.std.proofs.Common.{refl}
use Rattle.office_core.proofs.SettingsFaults.{good_without_fault, no_fault_of_good}
use Rattle.office_core.proofs.laws_of_runs.settings_without_a_fault.Goals as goal

pub returns-clause-good : goal.returns-clause-good
returns-clause-good c = good_without_fault

pub returns-clause-none : goal.returns-clause-none
returns-clause-none c = no_fault_of_good

pub returns-clause-first : goal.returns-clause-first
returns-clause-first c = refl

pub returns-clause-later : goal.returns-clause-later
returns-clause-later c = refl
