use Rattle.std.proofs.Common.{refl}
use Rattle.jiff_core.specs.Calendar.{day_count, days_from_civil, days_of_months, days_of_years}
use Rattle.isad_core.specs.Days.{day_text}
use Rattle.model_tests.proofs.worked.worked_days.Goals as goal

pub returns : goal.returns
unfolding day_text days_from_civil days_of_years days_of_months day_count
returns c = record {
  read = refl;
  ends = refl;
  missing = refl;
  none = refl;
  written = refl;
  written_ends = refl;
}
