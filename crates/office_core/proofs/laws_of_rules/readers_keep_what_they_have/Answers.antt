use Rattle.office_core.proofs.Withholding.{asks_for_readers, asks_for_none, asks_for_readers_alone}
use Rattle.office_core.proofs.laws_of_rules.readers_keep_what_they_have.Goals as goal

pub returns-clause-gated : goal.returns-clause-gated
returns-clause-gated c = asks_for_readers

pub returns-clause-alone : goal.returns-clause-alone
returns-clause-alone c = asks_for_readers_alone

pub returns-clause-others : goal.returns-clause-others
returns-clause-others c = asks_for_none
