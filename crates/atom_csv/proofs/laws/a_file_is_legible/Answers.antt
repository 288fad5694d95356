use Rattle.atom_csv.proofs.LegibleFiles.{file_legible}
use Rattle.atom_csv.proofs.laws.a_file_is_legible.Goals as goal

pub returns : goal.returns
returns c = file_legible
