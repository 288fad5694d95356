use Rattle.std.proofs.Common.{refl}
use Rattle.std.specs.Fmt.{digits}
use Rattle.isad_core.specs.Days.{day_text}
use Rattle.model_tests.proofs.worked.worked_slips.Goals as goal

pub returns : goal.returns
unfolding digits day_text
returns c = record {
  run = refl;
  whole_run = refl;
  shelf = refl;
  shelves = refl;
}
