use Rattle.catalogue_core.proofs.NearestValues.{lines_are_nearest}
use Rattle.catalogue_core.proofs.laws.values_are_of_the_nearest.Goals as goal

pub returns : goal.returns
returns c = lines_are_nearest
