use Rattle.std.proofs.Common.{subst, sym, ◌∙◌}
use Rattle.desk_core.proofs.Common.{IsPermutation, IsSorted}
use Rattle.desk_core.proofs.SortedKeys.{over_permuted}
use Rattle.desk_core.proofs.consistency.key_counts.occurs_more_than.Goals as goal

pub returns : goal.returns
returns g c =
    c.runs_over.ensures (subst (IsSorted g.K.Ord.cmp) (sym c.deref.ensures.value) c.sort_unstable.ensures.sorted)
    ∙ over_permuted g.K.Ord.cmp c.args.most c.args.keys.items c.deref.result.now (subst (IsPermutation c.args.keys.items) (sym c.deref.ensures.value) c.sort_unstable.ensures.permutation)
