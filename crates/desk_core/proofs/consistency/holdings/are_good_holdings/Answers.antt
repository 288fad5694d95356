use Rattle.std.proofs.Common.{◌∙◌}
use Rattle.desk_core.proofs.FitHoldings.{held_well, not_told}
use Rattle.desk_core.proofs.FitOrders.{numbered_orders}
use Rattle.desk_core.proofs.consistency.holdings.are_good_holdings.Goals as goal

pub returns-then-not-are_fit : goal.returns-then-not-are_fit
returns-then-not-are_fit c = λ a d h e f bad.
    not_told d c.args.orders.now e (numbered_orders a d c.args.orders.now e bad) c.args.around.now a c.args.holdings.now c.are_fit.result h f c.are_fit.ensures c.if-not-are_fit.true

pub returns : goal.returns
returns c = λ a d h e f bad.
    held_well d c.args.orders.now e (numbered_orders a d c.args.orders.now e bad) c.args.around.now a c.args.holdings.now c.deref.result.now c.in_ok-tally.tally c.are_fit.result c.are_held.result h f c.are_fit.ensures c.if-not-are_fit.false
    (c.deref.ensures.value ∙ c.in_ok-holders.ensures) c.in_ok-tally.ensures c.are_held.ensures
