use Rattle.std.proofs.Common.{nat_eq, ap, ◌∙◌}
use Rattle.desk_core.specs.declared.order.Ask.{Ask}
use Rattle.desk_store.specs.declared.reader_summary.LiveOrder.{LiveOrder}
use Rattle.desk_commands.proofs.Common.{list_any}
use Rattle.desk_commands.proofs.order_placement.ask.Goals as goal

pub returns : goal.returns
returns c =
    let already = c.is_for_one.ensures ∙ ap (list_any (λ (order : LiveOrder). nat_eq c.args.container order.container)) c.as_slice.ensures in
    rw c.from.ensures (ap (λ has. (let asked : Ask = record { is_open = c.args.is_open; already = has; placed = c.args.card.now.placed; orders = c.args.card.now.orders } in asked)) already)
