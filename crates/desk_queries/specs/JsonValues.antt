-- What the desk's tables contain, as JSON.
use Rattle.std.specs.Prelude.{ℕ, [], ◌∷◌, cond, map, option_map, codes}
use Rattle.serde_json.specs.Data.{Data, string}
use Rattle.office_core.specs.Json.{count, date, list, or_null, fields}
use Rattle.office_core.specs.Queries.{permit_json, place_name}
use Rattle.desk_core.specs.Decisions.{order_out}
use Rattle.desk_store.specs.declared.reader_summary.LiveOrder.{LiveOrder}
use Rattle.desk_store.specs.declared.reader_summary.ReaderCard.{ReaderCard}
use Rattle.desk_store.specs.declared.reader_permits.Permit.{Permit}
use Rattle.desk_store.specs.declared.container_orders.ContainerOrder.{ContainerOrder}
use Rattle.desk_store.specs.declared.orders.WaitingOrder.{WaitingOrder}
use Rattle.desk_store.specs.declared.queues.ContainerQueue.{ContainerQueue}

-- ---- a container

abbrev pub waiting_data : WaitingOrder → Data
waiting_data waiting = fields ((codes "order", count waiting.order) ∷ (codes "ticket", count waiting.ticket) ∷ [])

abbrev pub queue_data : ℕ → ContainerQueue → Data
queue_data container queue =
    fields
    ((codes "container", count container)
    ∷ (codes "name", string queue.name)
    ∷ (codes "out", or_null (option_map count (order_out queue.place)))
    ∷ (codes "place", string (place_name queue.place))
    ∷ (codes "waiting", list (map waiting_data queue.waiting))
    ∷ [])

-- a container that is with a reader
abbrev pub loan_data : ContainerOrder → Data
loan_data loan = fields ((codes "container", count loan.container) ∷ (codes "order", count loan.order) ∷ (codes "ticket", count loan.ticket) ∷ [])

-- ---- a ticket

abbrev pub live_data : LiveOrder → Data
live_data live =
    fields
    ((codes "container", count live.container)
    ∷ (codes "order", count live.order)
    ∷ (codes "state", string (cond live.is_out (codes "out") (codes "waiting")))
    ∷ [])

abbrev pub card_data : ReaderCard → Data
card_data card =
    fields
    ((codes "name", string card.name)
    ∷ (codes "orders", list (map live_data card.live))
    ∷ (codes "seat", or_null (option_map count card.reader.seat))
    ∷ (codes "ticket", count card.reader.ticket)
    ∷ (codes "until", date card.reader.until)
    ∷ [])

abbrev pub permit_data : Permit → Data
permit_data permit = permit_json (record { unit = permit.unit; until = permit.until })
