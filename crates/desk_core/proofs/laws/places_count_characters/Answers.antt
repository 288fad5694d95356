use Rattle.desk_core.proofs.CharacterLemmas.{characters-is, characters-one_line}
use Rattle.desk_core.proofs.laws.places_count_characters.Goals as goal

pub returns-clause-kept : goal.returns-clause-kept
returns-clause-kept c = characters-is

pub returns-clause-printed : goal.returns-clause-printed
returns-clause-printed c = characters-one_line
