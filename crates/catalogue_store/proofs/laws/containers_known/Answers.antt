use Rattle.catalogue_store.proofs.KnownBoxes.{known_added, known_valued}
use Rattle.catalogue_store.proofs.laws.containers_known.Goals as goal

pub returns-clause-added : goal.returns-clause-added
returns-clause-added c = known_added

pub returns-clause-valued : goal.returns-clause-valued
returns-clause-valued c = known_valued
