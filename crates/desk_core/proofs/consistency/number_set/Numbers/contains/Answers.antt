use Rattle.std.proofs.Common.{ap, ◌∙◌, subst, nat_eq, sym}
use Rattle.desk_core.proofs.Common.{IsNonDecreasing, is_among, list_any, searched}
use Rattle.desk_core.proofs.consistency.number_set.Numbers.contains.Goals as goal

pub returns : goal.returns
returns c =
    let xs = c.deref.result.now in
    let up : IsNonDecreasing xs = subst IsNonDecreasing (sym c.deref.ensures.value) c.self.invariant in
    c.is_ok.ensures.value ∙ is_among xs c.args.number c.binary_search.result (searched xs c.args.number c.binary_search.result c.binary_search.ensures.position (λ i j le lt. up i j 0 le lt))
    ∙ ap (list_any (nat_eq c.args.number)) (c.deref.ensures.value ∙ c.self.view_is)
