use Rattle.std.proofs.Common.{◌++◌, ◌∷◌, [], Some, None, take, map, sym, ap, ◌∙◌, append-nil}
use Rattle.isad_core.specs.declared.element.Element.TheVariants.{ReferenceCode}
use Rattle.public_queries.proofs.Common.{coded_of, filter_map, page_line}
use Rattle.public_queries.proofs.MoreItems.{mapped_at}
use Rattle.public_queries.proofs.page_lines.page_lines.Goals as goal
use Rattle.public_queries.proofs.page_lines.page_lines.Goals.{in-Some+in_ok-push, in_default}

pub loop-element-preserved : goal.loop-element-preserved
loop-element-preserved c =
    let f = page_line (map coded_of c.args.units.now) in
    let xs = c.args.elements.now in
    let i = c.loop-element.element-index in
    let inv = c.loop-element.invariant in
    elim c.match-branch-2.branch [
      | in-Some+in_ok-push w ↦ w.lines-is ∙ w.in_ok-push.ensures.ok ∙ ap (λ l. l ++ w.in-Some.line ∷ []) inv ∙ sym (mapped_at f xs i ReferenceCode (Some w.in-Some.line) c.loop-element-test.true (sym c.in_ok-line.ensures ∙ w.in-Some.is))
      | in_default w ↦ w.lines-is ∙ inv ∙ sym (mapped_at f xs i ReferenceCode None c.loop-element-test.true (sym c.in_ok-line.ensures ∙ w.in_default.is) ∙ append-nil (filter_map f (take i xs)))
    ]
