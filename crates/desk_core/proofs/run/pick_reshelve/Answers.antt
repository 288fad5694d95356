use Rattle.std.proofs.Common.{ap, ◌∙◌, nat_lt}
use Rattle.desk_core.proofs.Common.{in_order}
use Rattle.desk_core.proofs.RunLemmas.{sorted_numbers-is}
use Rattle.desk_core.proofs.run.pick_reshelve.Goals as goal

pub returns : goal.returns
returns c =
    sorted_numbers-is c.in_ok-idle.idle.items _ c.sort_unstable.ensures.sorted c.sort_unstable.ensures.permutation
    ∙ ap (in_order nat_lt) c.in_ok-idle.ensures
