use Rattle.std.proofs.Common.{sym, ap, ◌∙◌}
use Rattle.known_units.proofs.Marked.{marks_are}
use Rattle.public_queries.proofs.Common.{nodes}
use Rattle.public_queries.proofs.MarkedPaths.{is_published_mark, marks_in_order, published_same}
use Rattle.public_queries.proofs.public_heads.is_published.Goals as goal

pub returns-in-None : goal.returns-in-None
returns-in-None c f it =
    let marks = c.args.forest.now in
    ap is_published_mark (sym c.in-None.is ∙ c.mark.ensures it.walk.forest (marks_are f marks it))
    ∙ published_same c.args.unit (nodes f) marks (marks_in_order f marks it.walk)

pub returns-in-Some : goal.returns-in-Some
returns-in-Some c f it =
    let marks = c.args.forest.now in
    ap is_published_mark (sym c.in-Some.is ∙ c.mark.ensures it.walk.forest (marks_are f marks it))
    ∙ published_same c.args.unit (nodes f) marks (marks_in_order f marks it.walk)
