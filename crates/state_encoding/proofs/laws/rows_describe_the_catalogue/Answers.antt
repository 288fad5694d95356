use Rattle.state_encoding.proofs.told.ToldCatalogue.{catalogue_is_said}
use Rattle.state_encoding.proofs.laws.rows_describe_the_catalogue.Goals as goal

pub returns : goal.returns
returns c = catalogue_is_said
