use Rattle.std.proofs.Common.{refl}
use Rattle.atom_csv.proofs.OnLiterals.{files_on_literals}
use Rattle.atom_csv.proofs.laws.a_legacy_id_stands_once.Goals as goal

pub returns-clause-without : goal.returns-clause-without
unfolding files_on_literals
returns-clause-without c = refl

pub returns-clause-blank : goal.returns-clause-blank
unfolding files_on_literals
returns-clause-blank c = refl

pub returns-clause-first : goal.returns-clause-first
unfolding files_on_literals
returns-clause-first c = refl
