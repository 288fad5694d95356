use Rattle.std.proofs.Common.{refl}
use Rattle.std.specs.Fmt.{digits}
use Rattle.isad_core.specs.Days.{day_text}
use Rattle.desk_core.proofs.laws.the_worked_run.Goals as goal

pub returns-clause-run : goal.returns-clause-run
returns-clause-run c = refl

pub returns-clause-slip : goal.returns-clause-slip
unfolding digits day_text
returns-clause-slip c = refl
