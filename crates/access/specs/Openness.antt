-- Which containers are open to readers with these permits.
use Rattle.std.specs.Prelude.{ℕ, ℤ, int_le, Bool, ◌&&◌, List, filter, nat_eq}
use Rattle.std.specs.List.{list_any}
use Rattle.desk_store.specs.declared.container_orders.ContainerOrder.{ContainerOrder}
use Rattle.desk_store.specs.declared.reader_permits.Permit.{Permit}
use Rattle.office_core.specs.State.{State, opens}

-- one of these permits is for the unit and valid on that day
abbrev pub allows : ℤ → List Permit → ℕ → Bool
allows day permits u = list_any (λ (permit : Permit). nat_eq permit.unit u && int_le day permit.until) permits

-- those of these orders whose containers are open to their readers
abbrev pub open_ones : State → List ContainerOrder → List ContainerOrder
open_ones s orders = filter (λ (order : ContainerOrder). opens s order.ticket order.container) orders
