use Rattle.std.proofs.Common.{◌≡◌, ◌<◌, length, sym, subst, ◌∙◌, arith}
use Rattle.public_queries.proofs.Common.{IfOk}
use Rattle.public_queries.proofs.PageLineLemmas.{nearest_here}
use Rattle.public_queries.proofs.page_lines.nearest_boxes.Goals as goal

pub returns-then-len-gt0 : goal.returns-then-len-gt0
returns-then-len-gt0 c =
    let unit = c.unit-item.result in
    let some : 0 < length unit.unit.values.boxes = omega (arith, c.len.ensures, c.if-len-gt0.true) in
    let is = c.loop-unit.invariant ∙ nearest_here c.args.units.now c.loop-unit.unit-index unit c.unit-item.is c.loop-unit-test.true some in
    subst (λ l. IfOk c.boxes_of.result (λ boxes. boxes ≡ l)) (sym is) c.boxes_of.ensures
