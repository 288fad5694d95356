use Rattle.state_encoding.proofs.DeskPasses.{desk_passes}
use Rattle.state_encoding.proofs.desk_consistency.sound_desks_pass.Goals as goal

pub returns : goal.returns
returns c = desk_passes
