use Rattle.desk_core.proofs.Common.{Candidate, is_shelved_before, ranks_by}
use Rattle.desk_core.proofs.OrderLemmas.{in_order-sorts}
use Rattle.desk_core.proofs.SlipLemmas.{shelf_order-ranks}
use Rattle.desk_core.proofs.laws.slip_lines_are_in_order.Goals as goal

pub returns : goal.returns
returns c = in_order-sorts is_shelved_before (ranks_by shelf_order-ranks (λ (c : Candidate). c))
