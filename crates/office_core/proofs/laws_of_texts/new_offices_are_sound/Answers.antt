use Rattle.office_core.proofs.Texts.{starts_sound_office}
use Rattle.office_core.proofs.laws_of_texts.new_offices_are_sound.Goals as goal

pub returns : goal.returns
returns c = starts_sound_office
