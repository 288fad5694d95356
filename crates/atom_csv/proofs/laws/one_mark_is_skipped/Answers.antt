use Rattle.std.proofs.Common.{refl}
use Rattle.atom_csv.proofs.OnLiterals.{files_on_literals}
use Rattle.atom_csv.proofs.laws.one_mark_is_skipped.Goals as goal

pub returns-clause-one : goal.returns-clause-one
unfolding files_on_literals
returns-clause-one c = refl

pub returns-clause-two : goal.returns-clause-two
unfolding files_on_literals
returns-clause-two c = refl
