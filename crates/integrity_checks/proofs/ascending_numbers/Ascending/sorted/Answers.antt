use Rattle.integrity_checks.proofs.Common.{IsNonDecreasingBy-from_sort}
use Rattle.integrity_checks.proofs.ascending_numbers.Ascending.sorted.Goals as goal

pub invariant_of-result : goal.invariant_of-result
invariant_of-result c = IsNonDecreasingBy-from_sort (λ x. x) c.sort_unstable.new.self.items c.sort_unstable.ensures.sorted
