use Rattle.std.proofs.Common.{◌≡◌, ◌-◌, ◌≤◌, get_or, drop}
use Rattle.desk_core.proofs.SortedKeys.{run_over}
use Rattle.desk_core.proofs.consistency.key_counts.runs_over.Given as goal

abbrev pub invariant-loop-i : goal.invariant-loop-i
invariant-loop-i g l = record {
  before : l.first ≤ l.i;
  rest : (d : g.row.K.Denot) → run_over g.K.Ord.cmp l.fn.most (get_or l.fn.keys l.first d) (l.i - l.first) (drop l.i l.fn.keys) ≡ run_over g.K.Ord.cmp l.fn.most (get_or l.fn.keys 0 d) 0 l.fn.keys;
}
