use Rattle.office_core.proofs.SoundDesk.{desk_start, always_sound_desk}
use Rattle.office_core.proofs.laws.desk_stays_sound.Goals as goal

pub returns-clause-start : goal.returns-clause-start
returns-clause-start c = desk_start

pub returns-clause-on : goal.returns-clause-on
returns-clause-on c = always_sound_desk
