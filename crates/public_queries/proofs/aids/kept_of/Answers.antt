use Rattle.std.proofs.Common.{rules, ◌≡◌, of_z, to_z, w32, FitsSigned, ap, ◌∙◌, arith}
use Rattle.std.proofs.lemmas.Int.{to_z-of_z}
use Rattle.visibility.specs.Marks.{public_walk as kept_on}
use Rattle.public_queries.proofs.Common.{has_id, tree}
use Rattle.public_queries.proofs.AidPrinted.{kept_units}
use Rattle.public_queries.proofs.AidUnits.{few_marks}
use Rattle.public_queries.proofs.aids.kept_of.Goals as goal

pub returns-then-marks-gt-MOST_MARKS-clause-faults : goal.returns-then-marks-gt-MOST_MARKS-clause-faults
returns-then-marks-gt-MOST_MARKS-clause-faults c k kept knows =
    let few = few_marks k (has_id c.args.unit) c.branch_marks-marks.result.now kept (c.branch_marks-marks.ensures k.forest knows) in
    absurd (omega (arith, few, c.if-marks-gt-MOST_MARKS.true))

pub returns-clause-kept : goal.returns-clause-kept
returns-clause-kept c f knows =
    let fits : FitsSigned w32 c.number.result = search rules in
    let today : to_z w32 (of_z w32 c.number.result) ≡ c.args.today = to_z-of_z w32 c.number.result fits ∙ c.number.ensures.number in
    let marks = c.branch_marks-marks.ensures f knows in
    c.in_ok-prune.ensures marks.first marks.forest marks.numbered marks.walked
    ∙ ap (λ day. kept_on day marks.forest) today
    ∙ kept_units c.args.today marks.forest (tree (has_id c.args.unit) f) marks.theirs
