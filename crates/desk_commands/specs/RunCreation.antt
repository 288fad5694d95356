-- What a run takes.
use Rattle.std.specs.Prelude.{ℕ, List, filter, take}
use Rattle.desk_store.specs.Holdings.{candidates_of}
use Rattle.desk_store.specs.declared.container_orders.ContainerOrder.{ContainerOrder}
use Rattle.office_core.specs.State.{State, opens}
use Rattle.state_encoding.specs.OfficeRows.{tables}
use Rattle.office_tables.specs.Versions.{Version}

-- the first `most` of these orders whose containers are open to their readers
abbrev pub open_orders : State → ℕ → List ContainerOrder → List ContainerOrder
open_orders s most waiting = take most (filter (λ (o : ContainerOrder). opens s o.ticket o.container) waiting)

-- what the next run takes
abbrev pub taken_by : Version → State → List ContainerOrder
taken_by version s = open_orders s s.settings.run_size (candidates_of (tables version s).desk)
