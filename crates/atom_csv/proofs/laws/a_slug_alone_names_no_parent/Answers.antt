use Rattle.std.proofs.Common.{refl}
use Rattle.atom_csv.proofs.OnLiterals.{files_on_literals}
use Rattle.atom_csv.proofs.laws.a_slug_alone_names_no_parent.Goals as goal

pub returns : goal.returns
unfolding files_on_literals
returns c = refl
