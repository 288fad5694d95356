use Rattle.office_core.proofs.Common.{state_after}
use Rattle.office_core.proofs.SoundDesk.{always_sound_desk}
use Rattle.office_core.proofs.OrderLaws.{goes_on}
use Rattle.office_core.proofs.laws.orders_go_on.Goals as goal

pub returns : goal.returns
returns c = λ s commands asked g. goes_on (state_after s commands) asked (always_sound_desk s commands g).filed
