use Rattle.std.proofs.Common.{◌≡◌, ℕ, ◌<◌, ◌≤◌, length, get_or, take, nat_eq}
use Rattle.desk_core.proofs.Common.{count_by}
use Rattle.desk_core.proofs.consistency.tally.Tally.of.Given as goal

abbrev pub invariant-loop-number : goal.invariant-loop-number
invariant-loop-number l = record {
  slots : length l.counts.items ≡ l.slots;
  few : (n : ℕ) → get_or l.counts.items n 0 ≤ l.number-index;
  so_far : (n : ℕ) → n < length l.counts.items → get_or l.counts.items n 0 ≡ count_by (nat_eq n) (take l.number-index l.fn.numbers);
}
