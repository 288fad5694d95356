use Rattle.std.proofs.Common.{refl}
use Rattle.std.specs.Fmt.{digits}
use Rattle.isad_core.specs.Days.{day_text}
use Rattle.model_tests.proofs.worked.worked_descriptions.Goals as goal

pub returns : goal.returns
unfolding digits day_text
returns c = record {
  all_elements = refl;
  from_above = refl;
  ranks = refl;
  breaks = refl;
  code = refl;
  aid_lines = refl;
  page_lines = refl;
  numbered = refl;
}
