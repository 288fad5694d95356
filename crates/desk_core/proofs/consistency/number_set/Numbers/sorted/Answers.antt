use Rattle.std.proofs.Common.{nat_eq, sym}
use Rattle.desk_core.proofs.Common.{IsNonDecreasingBy-from_sort, list_any-IsPermutation}
use Rattle.desk_core.proofs.consistency.number_set.Numbers.sorted.Goals as goal

pub invariant_of-result : goal.invariant_of-result
invariant_of-result c = IsNonDecreasingBy-from_sort (λ x. x) c.sort_unstable.new.self.items c.sort_unstable.ensures.sorted

pub returns : goal.returns
returns c = λ n. sym (list_any-IsPermutation (nat_eq n) c.args.numbers.items c.sort_unstable.new.self.items c.sort_unstable.ensures.permutation)
