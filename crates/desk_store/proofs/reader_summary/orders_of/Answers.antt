use Rattle.std.proofs.Common.{◌<◌, ◌^◌, List, length, map, filter, nat_eq, ◌&&◌, refl, ap, sym, subst, ◌∙◌}
use Rattle.desk_store.specs.declared.reader_summary.LiveOrder.{LiveOrder}
use Rattle.desk_store.proofs.Common.{OrderLine, OrderRow, RepresentsDeskAlone, count_by, early, has_not_ended}
use Rattle.desk_store.proofs.Common.{looks_then, map-map, same_fault}
use Rattle.desk_store.proofs.CardCalls.{out_of_lines, few_lines}
use Rattle.desk_store.proofs.CardRows.{is_live, line_of}
use Rattle.desk_store.proofs.reader_summary.orders_of.Goals as goal
use Rattle.desk_store.proofs.ToldCalls.{shown_on}
use Rattle.desk_store.proofs.TellingCalls.{ends_not, ends_well}

pub returns-in_err-orders : goal.returns-in_err-orders
returns-in_err-orders g c = record { answers = ends_not (looks_then c.in_ok-lines.ensures.reads.looks c.in_ok-placed.ensures.reads.looks) c.in_err-orders.ensures.reads.aborts c.in_err-orders.ensures.reads.spares (λ d shown may kept. c.in_err-orders.ensures.faults d.orders shown.orders (shown.few_orders, shown.order_numbers)) (same_fault c.from_residual-in_err-orders.ensures) }

pub returns : goal.returns
returns g c =
    let first = c.in_ok-lines.ensures.reads.looks in
    let two = looks_then first c.in_ok-placed.ensures.reads.looks in
    record {
      answers = ends_well (looks_then two c.in_ok-orders.ensures.reads.looks) _ (λ clean d shown.
          let at_p = early c.in_ok-orders.ensures.reads.crash clean in
          let at_b = early c.in_ok-placed.ensures.reads.crash at_p in
          let shown_b = shown_on RepresentsDeskAlone first at_b d shown in
          let shown_p = shown_on RepresentsDeskAlone two at_p d shown in
          let lines = c.in_ok-lines.ensures.answers at_b d.orders shown.orders shown.order_numbers in
          let told = λ (o : OrderLine). (let x : LiveOrder = record { order = o.order; container = o.container; is_out = nat_eq o.state 2 } in x) in
          let live = c.in_ok-live.ensures ∙ ap (map told) (c.deref.ensures.value ∙ lines) ∙ map-map told line_of (filter (λ (o : OrderRow). nat_eq c.args.ticket o.ticket && has_not_ended o) d.orders) in
          let read = c.deref-2.ensures.value ∙ lines in
          let few = subst (λ (l : List OrderLine). length l < 2 ^ 32) (sym read) (few_lines (is_live c.args.ticket) d shown.few_orders) in
          let held = c.count_out-held.ensures few ∙ ap (count_by (λ (l : OrderLine). nat_eq l.state 2)) read ∙ out_of_lines c.args.ticket d.orders in
          let placed = c.in_ok-placed.ensures.answers at_p d.orders shown_b.orders shown_b.few_orders in
          let orders = c.in_ok-orders.ensures.answers clean d.orders shown_p.orders (shown_p.few_orders, shown_p.order_numbers) in
          rw (live, held, placed, orders) refl);
    }
