use Rattle.std.proofs.Common.{rules, ◌≡◌, false, not, of_z, to_z, w32, FitsSigned, ap, sym, ◌∙◌}
use Rattle.std.proofs.lemmas.Int.{to_z-of_z}
use Rattle.std.specs.Prelude.{◌&&◌}
use Rattle.access.proofs.Common.{contents_paths, list_all, withholds}
use Rattle.access.proofs.ReadersMarks.{readers_clean}
use Rattle.access.proofs.clean_units.is_clean.Goals as goal

pub returns-then-clean_path : goal.returns-then-clean_path
returns-then-clean_path c = λ permitted f u there marks.
    let today = c.args.today in
    let fits : FitsSigned w32 c.number-day.result = search rules in
    let same : to_z w32 (of_z w32 c.number-day.result) ≡ today = to_z-of_z w32 c.number-day.result fits ∙ c.number-day.ensures.number in
    let within = c.clean_contents-is_within.result in
    let above = c.is_permitted_above-above.result in
    ap (λ b. b && within) (sym c.if-clean_path.true)
    ∙ readers_clean permitted f u c.args.path.now c.args.branch.now today c.clean_path.result within above there marks
    (c.clean_path.ensures ∙ ap (λ t. not (withholds t false c.args.path.now)) same) c.is_permitted_above-above.ensures
    (λ k unit below numbered is.
    c.clean_contents-is_within.ensures.branch k unit below numbered is ∙ ap (λ t. list_all (λ path. not (withholds t above path)) (contents_paths unit below)) same)

pub returns-else-clean_path : goal.returns-else-clean_path
returns-else-clean_path c = λ permitted f u there marks.
    let today = c.args.today in
    let fits : FitsSigned w32 c.number-day.result = search rules in
    let same : to_z w32 (of_z w32 c.number-day.result) ≡ today = to_z-of_z w32 c.number-day.result fits ∙ c.number-day.ensures.number in
    let within = c.clean_contents-is_within.result in
    let above = c.is_permitted_above-above.result in
    c.if-clean_path.false ∙ ap (λ b. b && within) (sym c.if-clean_path.false)
    ∙ readers_clean permitted f u c.args.path.now c.args.branch.now today c.clean_path.result within above there marks
    (c.clean_path.ensures ∙ ap (λ t. not (withholds t false c.args.path.now)) same) c.is_permitted_above-above.ensures
    (λ k unit below numbered is.
    c.clean_contents-is_within.ensures.branch k unit below numbered is ∙ ap (λ t. list_all (λ path. not (withholds t above path)) (contents_paths unit below)) same)
