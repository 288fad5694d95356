use Rattle.std.proofs.Common.{◌≡◌, ◌+◌, drop}
use Rattle.desk_core.proofs.Common.{are_numbered_from}
use Rattle.desk_core.proofs.consistency.numbers.are_numbered.Given as goal

abbrev pub invariant-loop-number : goal.invariant-loop-number
invariant-loop-number l = record {
  next : l.next ≡ l.number-index + 1;
  rest : are_numbered_from (λ n. n) (l.number-index + 1) (drop l.number-index l.fn.numbers) ≡ are_numbered_from (λ n. n) 1 l.fn.numbers;
}
