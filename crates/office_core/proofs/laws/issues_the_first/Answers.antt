use Rattle.office_core.proofs.Common.{state_after}
use Rattle.office_core.proofs.SoundDesk.{always_sound_desk}
use Rattle.office_core.proofs.OrderLaws.{issues_the_first as first}
use Rattle.office_core.proofs.laws.issues_the_first.Goals as goal

pub returns : goal.returns
returns c = λ s commands g. first (state_after s commands) (always_sound_desk s commands g).filed
