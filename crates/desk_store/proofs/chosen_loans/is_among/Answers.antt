use Rattle.std.proofs.Common.{nat_eq, ◌∙◌}
use Rattle.std.proofs.lemmas.List.Sorted.{searched}
use Rattle.std.proofs.lemmas.Map.Keys.{non_decreasing_from_sorted, sorted_from_strictly_increasing}
use Rattle.tree_core.proofs.Lists.{any_agree, eqb_comm, is_among}
use Rattle.desk_store.proofs.chosen_loans.is_among.Goals as goal

pub returns : goal.returns
returns c =
    let xs = c.args.ascending.now in
    let n = c.args.container in
    let rise = non_decreasing_from_sorted xs (sorted_from_strictly_increasing xs c.requires.rise) in
    let found = searched xs n c.binary_search.result c.binary_search.ensures.position (λ i j le low. rise i j 0 le low) in
    c.is_ok.ensures.value ∙ is_among xs n c.binary_search.result found ∙ any_agree (nat_eq n) (λ m. nat_eq m n) xs (eqb_comm n)
