use Rattle.std.proofs.Common.{refl}
use Rattle.isad_core.specs.Days.{day_text}
use Rattle.isad_core.proofs.laws.worked_aids.Goals as goal

pub returns-clause-closed : goal.returns-clause-closed
unfolding day_text
returns-clause-closed c = refl
