use Rattle.std.proofs.Common.{◌∙◌}
use Rattle.desk_core.proofs.FitOrders.{asked_well, not_plain, too_many}
use Rattle.desk_core.proofs.consistency.orders.are_good_orders.Goals as goal

pub returns-then-not-are_plain : goal.returns-then-not-are_plain
returns-then-not-are_plain c = λ a d h e.
    not_plain c.args.around.now a d c.args.orders.now h e c.deref.result.now c.are_plain.result (c.deref.ensures.value ∙ c.in_ok-numbers.ensures) c.are_plain.ensures c.if-not-are_plain.true

pub returns-then-not-keeps : goal.returns-then-not-keeps
returns-then-not-keeps c = λ a d h e.
    too_many c.args.around.now a d c.args.orders.now h e c.deref.result.now c.are_plain.result c.in_ok-keeps.keeps (c.deref.ensures.value ∙ c.in_ok-numbers.ensures) c.are_plain.ensures c.in_ok-keeps.ensures c.if-not-keeps.true

pub returns : goal.returns
returns c = λ a d h e.
    asked_well c.args.around.now a d c.args.orders.now h e c.deref.result.now c.are_plain.result c.in_ok-keeps.keeps c.in_ok-once.once (c.deref.ensures.value ∙ c.in_ok-numbers.ensures) c.are_plain.ensures c.if-not-are_plain.false
    c.in_ok-keeps.ensures c.if-not-keeps.false c.in_ok-once.ensures
