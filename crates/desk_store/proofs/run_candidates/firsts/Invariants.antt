use Rattle.std.proofs.Common.{◌≡◌, ℕ, nat_eq, filter, take}
use Rattle.desk_store.proofs.Common.{AreByNumber, ContainerOrder, is_earliest, list_any}
use Rattle.desk_store.proofs.run_candidates.firsts.Given as goal

abbrev pub invariant-loop-order : goal.invariant-loop-order
invariant-loop-order l = record {
  met : (c : ℕ) → list_any (nat_eq c) l.known.keys ≡ list_any (λ (o : ContainerOrder). nat_eq c o.container) (take l.order-index l.fn.orders);
  so_far : AreByNumber (λ (o : ContainerOrder). o.order) l.fn.orders → l.firsts.items ≡ filter (λ o. is_earliest o l.fn.orders) (take l.order-index l.fn.orders);
}
