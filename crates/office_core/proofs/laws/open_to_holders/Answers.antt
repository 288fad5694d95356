use Rattle.office_core.proofs.Common.{state_after}
use Rattle.office_core.proofs.SoundDesk.{always_sound_desk, open_to_holders as holders}
use Rattle.office_core.proofs.laws.open_to_holders.Goals as goal

pub returns : goal.returns
returns c = λ s commands g. holders (state_after s commands) (always_sound_desk s commands g)
