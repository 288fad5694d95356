-- Which of the waiting orders a run may take.
use Rattle.std.specs.Prelude.{Bool, not, ◌&&◌, nat_eq, nat_lt, List}
use Rattle.std.specs.List.{list_any}
use Rattle.desk_store.specs.declared.container_orders.ContainerOrder.{ContainerOrder}

-- none of these orders for the same container came before it
abbrev pub is_earliest : ContainerOrder → List ContainerOrder → Bool
is_earliest o orders = not (list_any (λ (other : ContainerOrder). nat_eq o.container other.container && nat_lt other.order o.order) orders)
