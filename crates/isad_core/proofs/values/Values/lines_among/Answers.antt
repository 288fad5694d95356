use Rattle.std.proofs.Common.{arith, ◌<◌, length, ◌∙◌, sym}
use Rattle.isad_core.proofs.ValueLemmas.{lines_among_more}
use Rattle.isad_core.proofs.values.Values.lines_among.Goals as goal

pub loop-element-preserved : goal.loop-element-preserved
loop-element-preserved c =
    let within : c.loop-element.element-index < length c.args.elements.now = omega arith in
    c.in_ok-push_line.ensures ∙ rw c.loop-element.invariant (sym (lines_among_more c.args.self.now c.args.elements.now c.loop-element.element-index _ within))
