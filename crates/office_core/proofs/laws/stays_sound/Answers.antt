use Rattle.office_core.proofs.StaysSound.{always_sound}
use Rattle.office_core.proofs.laws.stays_sound.Goals as goal

pub returns : goal.returns
returns c = always_sound
