use Rattle.std.proofs.Common.{refl}
use Rattle.atom_csv.specs.Columns.{columns}
use Rattle.atom_csv.specs.Values.{text_elements}
use Rattle.model_tests.proofs.worked.worked_places.Goals as goal

pub returns : goal.returns
unfolding columns text_elements
returns c = record {
  nearest = refl;
  farthest = refl;
  unknown = refl;
  depth = refl;
  lacking = refl;
  below_first = refl;
  at_top = refl;
  nowhere = refl;
  in_turn = λ a b. refl;
  last_first = λ a b. refl;
  most = refl;
}
