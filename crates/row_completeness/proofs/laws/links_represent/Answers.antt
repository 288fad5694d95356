use Rattle.row_completeness.proofs.KeptPlaces.{links_represent}
use Rattle.row_completeness.proofs.laws.links_represent.Goals as goal

pub returns : goal.returns
returns c = links_represent
