use Rattle.std.proofs.Common.{sym, ap, ◌∙◌}
use Rattle.public_queries.proofs.Common.{ends_closed}
use Rattle.public_queries.proofs.MarkedPaths.{ends_closed-push}
use Rattle.public_queries.proofs.path_marks.is_last_closed.Goals as goal

pub returns : goal.returns
returns c =
    c.is_shut.ensures ∙ sym (ends_closed-push c.args.today c.in-Some._above.now c.in-Some.last.now) ∙ ap (ends_closed c.args.today) (sym c.in-Some.ensures.cases.0)
