use Rattle.std.proofs.Common.{subst, sym, ◌∙◌}
use Rattle.desk_store.proofs.Common.{AreByNumber, ContainerOrder}
use Rattle.desk_store.proofs.PickingCalls.{firsts_are, rising}
use Rattle.desk_store.proofs.TellingCalls.{ends_well}
use Rattle.desk_store.proofs.run_candidates.first_orders.Goals as goal

pub returns : goal.returns
returns g c =
    record {
      answers = ends_well c.in_ok-orders.ensures.reads.looks _ (λ clean d shown.
          let orders = c.deref.ensures.value ∙ c.in_ok-orders.ensures.answers clean d.orders shown.orders shown.order_numbers in
          c.in_ok-firsts.ensures (subst (AreByNumber (λ (o : ContainerOrder). o.order)) (sym orders) (rising d.orders shown.order_numbers))
          ∙ firsts_are d c.deref.result.now orders);
    }
