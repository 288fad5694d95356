use Rattle.catalogue_core.proofs.BoxPlaces.{numbers_are_places as places}
use Rattle.catalogue_core.proofs.laws.numbers_are_places.Goals as goal

pub returns : goal.returns
returns c = places
