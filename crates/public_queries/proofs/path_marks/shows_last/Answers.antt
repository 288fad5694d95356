use Rattle.std.proofs.Common.{not, ◌&&◌, sym, ap, ◌∙◌}
use Rattle.public_queries.proofs.Common.{shows_marked}
use Rattle.public_queries.proofs.MarkedPaths.{shows_marked-push}
use Rattle.public_queries.proofs.path_marks.shows_last.Goals as goal

pub returns-then-are_clear : goal.returns-then-are_clear
returns-then-are_clear c =
    ap (λ b. b && not c.in-Some.last.now.draft) (sym c.if-are_clear.true ∙ c.are_clear.ensures) ∙ sym (shows_marked-push c.args.today c.in-Some.above.now c.in-Some.last.now) ∙ ap (shows_marked c.args.today) (sym c.in-Some.ensures.cases.0)

pub returns-else-are_clear : goal.returns-else-are_clear
returns-else-are_clear c =
    c.if-are_clear.false ∙ ap (λ b. b && not c.in-Some.last.now.draft) (sym c.if-are_clear.false ∙ c.are_clear.ensures) ∙ sym (shows_marked-push c.args.today c.in-Some.above.now c.in-Some.last.now) ∙ ap (shows_marked c.args.today) (sym c.in-Some.ensures.cases.0)
