use Rattle.std.proofs.Common.{refl}
use Rattle.model_tests.proofs.worked.worked_forests.Goals as goal

pub returns : goal.returns
returns c = record {
  below_draft = refl;
  draft_below = refl;
  below_closed = refl;
  permitted = refl;
  permitted_above = refl;
  neither = refl;
  shown = refl;
}
