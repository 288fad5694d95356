use Rattle.std.proofs.Common.{◌∙◌}
use Rattle.desk_core.proofs.FitOrders.{numbered_orders}
use Rattle.desk_core.proofs.FitRuns.{counted_well, not_plain}
use Rattle.desk_core.proofs.consistency.runs.are_good_runs.Goals as goal

pub returns-then-not-are_plain : goal.returns-then-not-are_plain
returns-then-not-are_plain c = λ a d h e f l bad.
    not_plain a d c.args.orders.now e (numbered_orders a d c.args.orders.now e bad) c.args.runs.now f c.args.lines.now l c.deref.result.now c.are_plain.result (c.deref.ensures.value ∙ c.in_ok-numbers.ensures) c.are_plain.ensures c.if-not-are_plain.true

pub returns : goal.returns
returns c = λ a d h e f l bad.
    counted_well a d c.args.orders.now e (numbered_orders a d c.args.orders.now e bad) c.args.runs.now f c.args.lines.now l c.args.around.now c.in_ok-tally.tally c.deref.result.now c.deref-2.result.now c.are_plain.result c.are_fit.result h
    (c.deref.ensures.value ∙ c.in_ok-numbers.ensures) c.are_plain.ensures c.if-not-are_plain.false (c.deref-2.ensures.value ∙ c.in_ok-of_lines.ensures) c.in_ok-tally.ensures c.are_fit.ensures
