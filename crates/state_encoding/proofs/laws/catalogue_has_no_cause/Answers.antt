use Rattle.state_encoding.proofs.ShownCatalogue.{catalogue_is_shown}
use Rattle.state_encoding.proofs.laws.catalogue_has_no_cause.Goals as goal

pub returns : goal.returns
returns c = catalogue_is_shown
