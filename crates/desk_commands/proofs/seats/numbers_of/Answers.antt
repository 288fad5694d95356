use Rattle.desk_commands.proofs.Common.{IsNonDecreasingBy-from_sort}
use Rattle.desk_commands.proofs.seats.numbers_of.Goals as goal

pub returns-clause-rise : goal.returns-clause-rise
returns-clause-rise c = IsNonDecreasingBy-from_sort (λ x. x) c.sort_unstable.new.self.items c.sort_unstable.ensures.sorted
