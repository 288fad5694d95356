use Rattle.std.proofs.Common.{refl}
use Rattle.atom_csv.proofs.OnLiterals.{files_on_literals}
use Rattle.atom_csv.proofs.laws.an_empty_file_has_no_header.Goals as goal

pub returns : goal.returns
unfolding files_on_literals
returns c = refl
