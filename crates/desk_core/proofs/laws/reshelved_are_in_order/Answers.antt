use Rattle.std.proofs.Common.{ℕ, nat_lt}
use Rattle.desk_core.proofs.Common.{IsStrictWeakOrder-by_number}
use Rattle.desk_core.proofs.OrderLemmas.{in_order-sorts}
use Rattle.desk_core.proofs.laws.reshelved_are_in_order.Goals as goal

pub returns : goal.returns
returns c = in_order-sorts nat_lt (IsStrictWeakOrder-by_number (λ (n : ℕ). n))
