use Rattle.std.proofs.Common.{◌≡◌, ℕ, ◌<◌, ◌≤◌, get_or}
use Rattle.known_forest.proofs.Common.{Mark, changed}
use Rattle.known_forest.proofs.changes.change_between.Given as goal

abbrev pub invariant-loop-index : goal.invariant-loop-index
invariant-loop-index l = record {
  inside : (k : ℕ) (d : Mark) → l.initial.index ≤ k → k < l.index → get_or l.marks k d ≡ changed l.change (get_or l.initial.marks k d);
  before : (k : ℕ) (d : Mark) → k < l.initial.index → get_or l.marks k d ≡ get_or l.initial.marks k d;
  behind : (k : ℕ) (d : Mark) → l.index ≤ k → get_or l.marks k d ≡ get_or l.initial.marks k d;
}
