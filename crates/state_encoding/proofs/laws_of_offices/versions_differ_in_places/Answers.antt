use Rattle.std.proofs.Common.{refl}
use Rattle.state_encoding.proofs.laws_of_offices.versions_differ_in_places.Goals as goal

pub returns : goal.returns
returns c = λ s. refl
