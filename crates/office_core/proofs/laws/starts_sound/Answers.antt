use Rattle.office_core.proofs.Starts.{starts_sound as sound}
use Rattle.office_core.proofs.laws.starts_sound.Goals as goal

pub returns : goal.returns
returns c = sound
