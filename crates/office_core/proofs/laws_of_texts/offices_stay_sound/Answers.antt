use Rattle.office_core.proofs.Texts.{always_sound_office}
use Rattle.office_core.proofs.laws_of_texts.offices_stay_sound.Goals as goal

pub returns : goal.returns
returns c = always_sound_office
