use Rattle.std.proofs.Common.{arith}
use Rattle.isad_core.proofs.Common.{found_container}
use Rattle.isad_core.proofs.PrintLemmas.{one_more}
use Rattle.isad_core.proofs.page.push_containers.Goals as goal

pub loop-number-preserved : goal.loop-number-preserved
loop-number-preserved c =
    one_more found_container _ _ _ _ c.loop-number.number-index c.loop-number-item.result (omega arith) c.loop-number-item.is c.loop-number.invariant c.in_ok-push_container_line.ensures
