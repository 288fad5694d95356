-- What was ordered, and who waits for a container.
use Rattle.std.specs.Prelude.{◌≡◌, ℕ, suc, ℤ, ◌&&◌, ◌<◌, nat_eq, List, [], ◌∷◌, ◌++◌, length, map, filter, find}
use Rattle.std.specs.Prelude.{slice_get, Option, Some, None}
use Rattle.isad_core.specs.declared.values.BoxKey.{BoxKey}
use Rattle.desk_core.specs.declared.reader.Place.{Place}
use Rattle.desk_core.specs.declared.reader.Place.TheVariants.{Shelf, Desk as AtTheDesk, Out}
use Rattle.isad_core.specs.Limits.{most_orders}
use Rattle.desk_core.specs.DeskRows.{Desk, OrderRow, HoldingRow, with_state}
use Rattle.desk_store.specs.declared.orders.OrderState.{OrderState}
use Rattle.desk_store.specs.declared.orders.OrderState.TheVariants.{Waiting, «Out» as WithReader, Done, Cancelled}
use Rattle.desk_store.specs.declared.orders.PlacedOrder.{PlacedOrder}
use Rattle.desk_store.specs.declared.orders.WaitingOrder.{WaitingOrder}
use Rattle.desk_store.specs.declared.queue_heads.QueueHead.{QueueHead}
use Rattle.desk_store.specs.declared.queues.ContainerQueue.{ContainerQueue}

-- ---- orders

-- the number that represents a state in the table
abbrev pub order_state_number : OrderState → ℕ
order_state_number Waiting = 1
order_state_number WithReader = 2
order_state_number Done = 3
order_state_number Cancelled = 4

-- the order has the ticket, the container, the day and the state of its row
abbrev pub IsOrder : OrderRow → PlacedOrder → Type 0
IsOrder row o = (o.ticket ≡ row.ticket) × (o.container ≡ row.container) × (o.day ≡ row.day) × (order_state_number o.state ≡ row.state)

abbrev pub order_with : ℕ → Desk → Option OrderRow
order_with o d = find (λ (row : OrderRow). nat_eq o row.id) d.orders

-- the answer about an order that may exist: the order, or none
abbrev pub IsThere : Option OrderRow → Option PlacedOrder → Type 0
IsThere None found = found ≡ None
IsThere (Some row) None = ⊥
IsThere (Some row) (Some o) = IsOrder row o

-- one more order, which waits; orders are numbered from 1 as they come
abbrev pub with_order : ℕ → ℕ → ℤ → Desk → Desk
with_order t c day d =
    record d { orders = d.orders ++ record { id = suc (length d.orders); ticket = t; container = c; day = day; state = 1 } ∷ [] }

-- one more order is allowed, and this is its number
abbrev pub IsNextOrder : ℕ → Desk → Type 0
IsNextOrder o d = (length d.orders < most_orders) × (o ≡ suc (length d.orders))

-- the desk with the order in this state
abbrev pub with_order_state : ℕ → OrderState → Desk → Desk
with_order_state o state d = record d { orders = with_state o (order_state_number state) d.orders }

-- ---- the queue of a container

-- the orders that wait for the container, by number
abbrev pub queue_of : ℕ → Desk → List WaitingOrder
queue_of c d =
    map (λ (o : OrderRow). record { order = o.id; ticket = o.ticket })
    (filter (λ o. nat_eq 1 o.state && nat_eq c o.container) d.orders)

-- where a container is: at the desk, out with an order, or on the shelf, where it has no row
abbrev pub IsAt : Option HoldingRow → Place → Type 0
IsAt None place = place ≡ Shelf
IsAt (Some h) AtTheDesk = h.place ≡ 1
IsAt (Some h) (Out o) = (h.place ≡ 2) × (h.held_by ≡ Some o)
IsAt (Some h) Shelf = ⊥

abbrev pub holding_of : ℕ → Desk → Option HoldingRow
holding_of c d = find (λ (h : HoldingRow). nat_eq c h.container) d.holdings

-- the answer about a container that is known: its name, where it is, and the orders that wait for it
pub record IsQueue (c : ℕ) (d : Desk) (box : BoxKey) (q : ContainerQueue) : Type 0 where
  pub name : q.name ≡ box.name
  pub place : IsAt (holding_of c d) q.place
  pub waiting : q.waiting ≡ queue_of c d

-- the answer about the head of its queue: where it is, and the first of the orders that wait for it, or none
pub record IsHead (c : ℕ) (d : Desk) (head : QueueHead) : Type 0 where
  pub place : IsAt (holding_of c d) head.place
  pub first : head.first ≡ slice_get (queue_of c d) 0
