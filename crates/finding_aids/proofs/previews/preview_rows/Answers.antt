use Rattle.std.proofs.Common.{◌≡◌, ◌∷◌, [], ℕ, List, Err}
use Rattle.std.proofs.lemmas.Result.{err_from_is_err_and}
use Rattle.finding_aids.specs.Preview.{after_merging}
use Rattle.finding_aids.proofs.Common.{Repository, empty_catalogue, faults, merge, number_by}
use Rattle.finding_aids.proofs.PreviewLemmas.{bad_after, preview_refused, previewed, printed_whole}
use Rattle.finding_aids.proofs.previews.preview_rows.Goals as goal

pub returns-in_err-places-clause-bad : goal.returns-in_err-places-clause-bad
returns-in_err-places-clause-bad c =
    let at : Repository = record { country = c.args.country.now; repo = c.args.repo.now } in
    let p = err_from_is_err_and c.from_residual.result c.from_residual.ensures.1 in
    rw (p.1, p.2) (bad_after (λ row cause. (later : List (ℕ × ℕ)) × (faults c.args.rows.now ≡ (row, cause) ∷ later))
    (λ row cause. after_merging at (merge empty_catalogue [] c.args.rows.now) ≡ Err (row, cause))
    (λ row cause. preview_refused at c.args.rows.now row cause) c.in_err-places.field-0.0 c.in_err-places.ensures.bad)

pub returns-clause-text : goal.returns-clause-text
returns-clause-text c =
    let at : Repository = record { country = c.args.country.now; repo = c.args.repo.now } in
    let trees = c.in_ok-trees.trees.items in
    let numbers = c.in_ok-number_boxes.field-0 in
    let printed = printed_whole at (number_by numbers) c.print_trees.new.out.items c.new-out.result.items c.new-ids.result.items c.as_slice-2.result.now trees
    c.new-out.ensures.items c.new-ids.ensures.items c.as_slice-2.ensures.value c.in_ok-print_trees.ensures.printed in
    previewed at c.args.rows.now trees numbers c.print_trees.new.out.items c.in_ok-places.ensures.none_bad c.in_ok-trees.ensures.grove
    c.in_ok-number_boxes.ensures printed
