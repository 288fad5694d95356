use Rattle.atom_csv.proofs.ToldLemmas.{file_sound}
use Rattle.atom_csv.proofs.laws.a_file_is_sound.Goals as goal

pub returns : goal.returns
returns c = file_sound
