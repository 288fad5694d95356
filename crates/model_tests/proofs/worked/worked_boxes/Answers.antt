use Rattle.std.proofs.Common.{refl}
use Rattle.model_tests.proofs.worked.worked_boxes.Goals as goal

pub returns : goal.returns
returns c = record {
  boxes = refl;
}
