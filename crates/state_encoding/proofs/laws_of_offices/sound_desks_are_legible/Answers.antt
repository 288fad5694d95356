use Rattle.state_encoding.proofs.LegibleRows.{desk_legible}
use Rattle.state_encoding.proofs.laws_of_offices.sound_desks_are_legible.Goals as goal

pub returns : goal.returns
returns c = desk_legible
