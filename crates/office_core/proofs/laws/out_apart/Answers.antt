use Rattle.office_core.proofs.Common.{state_after}
use Rattle.office_core.proofs.OrderLaws.{out_apart as apart}
use Rattle.office_core.proofs.laws.out_apart.Goals as goal

pub returns : goal.returns
returns c = λ s commands g. apart (state_after s commands)
