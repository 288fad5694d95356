use Rattle.std.proofs.Common.{◌≡◌, filter, nat_eq, not, take}
use Rattle.desk_store.proofs.Common.{ContainerOrder, list_any}
use Rattle.desk_store.proofs.run_candidates.without.Given as goal

abbrev pub invariant-loop-order : goal.invariant-loop-order
invariant-loop-order l = l.kept.items ≡ filter (λ (o : ContainerOrder). not (list_any (nat_eq o.container) l.known.keys)) (take l.order-index l.orders)
