use Rattle.office_core.proofs.Fullness.{its_limits, its_settings, is_full_exactly, refuses_where_full}
use Rattle.office_core.proofs.laws_of_rules.limits_are_these.Goals as goal

pub returns-clause-numbers : goal.returns-clause-numbers
returns-clause-numbers c = its_limits

pub returns-clause-settings : goal.returns-clause-settings
returns-clause-settings c = its_settings

pub returns-clause-imports : goal.returns-clause-imports
returns-clause-imports c = is_full_exactly

pub returns-clause-desk : goal.returns-clause-desk
returns-clause-desk c = refuses_where_full
