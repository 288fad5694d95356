use Rattle.access.proofs.Common.{IsNonDecreasingBy-from_sort}
use Rattle.access.proofs.day_rules.holders.Goals as goal

pub returns-clause-rise : goal.returns-clause-rise
returns-clause-rise c = IsNonDecreasingBy-from_sort (λ x. x) c.sort_unstable.new.self.items c.sort_unstable.ensures.sorted
