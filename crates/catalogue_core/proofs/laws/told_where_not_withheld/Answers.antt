use Rattle.catalogue_core.proofs.OneRule.{tells_what_is_open, stubs_what_is_closed}
use Rattle.catalogue_core.proofs.laws.told_where_not_withheld.Goals as goal

pub returns-clause-told : goal.returns-clause-told
returns-clause-told c = tells_what_is_open

pub returns-clause-stubs : goal.returns-clause-stubs
returns-clause-stubs c = stubs_what_is_closed
