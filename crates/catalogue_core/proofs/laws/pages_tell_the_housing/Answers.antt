use Rattle.catalogue_core.proofs.PageUnits.{pages_tell_the_housing as tell}
use Rattle.catalogue_core.proofs.laws.pages_tell_the_housing.Goals as goal

pub returns : goal.returns
returns c = tell
