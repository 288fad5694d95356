use Rattle.state_encoding.proofs.DeskSound.{desk_sound}
use Rattle.state_encoding.proofs.desk_consistency.passing_desks_are_sound.Goals as goal

pub returns : goal.returns
returns c = desk_sound
