-- What is told of a container is what the rules tell of it.
use Rattle.std.proofs.Common.{◌≡◌, ℕ, false, List, [], ◌∷◌, map, filter, Option, Some, None, refl, sym, ap, subst, ◌∙◌}
use Rattle.isad_core.specs.declared.values.BoxKey.{BoxKey}
use Rattle.desk_core.specs.Decisions.{order_out}
use Rattle.desk_core.specs.declared.reader.Place.{Place}
use Rattle.desk_core.specs.declared.reader.Place.TheVariants.{Shelf, Desk, Out}
use Rattle.desk_store.specs.Orders.{queue_of}
use Rattle.desk_store.specs.Storage.{IsQueued, container_with}
use Rattle.desk_store.specs.declared.orders.WaitingOrder.{WaitingOrder}
use Rattle.desk_store.specs.declared.queues.ContainerQueue.{ContainerQueue}
use Rattle.office_core.specs.declared.query.Query.TheVariants as query
use Rattle.refinement.proofs.QueuesShown.{place_shown, told_queue, waits_in}
use Rattle.desk_queries.proofs.Common.{Data, IsSoundOffice, OrderRow, State, UnknownContainer, Version, answer, box_row}
use Rattle.desk_queries.proofs.Common.{codes, count, fields, filter_map, has_float, known_json, list, map-map, no_float}
use Rattle.desk_queries.proofs.Common.{nth, option_map, or_null, order_rows, place_name, queue_data, queue_json}
use Rattle.desk_queries.proofs.Common.{storage_of, string, tables, waiting_data, waiting_json}

-- none of it is a number with a fraction
pub queue_whole : (c : ℕ) (q : ContainerQueue) → has_float (queue_data c q) ≡ false
queue_whole c q = at q.place
  where
    waiting : has_float (list (map waiting_data q.waiting)) ≡ false
    waiting = no_float waiting_data (λ w. refl) q.waiting

    at : (p : Place) → has_float (queue_data c (record q { place = p })) ≡ false
    at Shelf = rw waiting refl
    at Desk = rw waiting refl
    at (Out o) = rw waiting refl

module _ (version : Version) (s : State) (sound : IsSoundOffice s) (c : ℕ) where
  waiting_told : map waiting_data (queue_of c (tables version s).desk) ≡ filter_map (waiting_json s) (s.queue c)
  waiting_told =
      map-map waiting_data (λ (o : OrderRow). (let w : WaitingOrder = record { order = o.id; ticket = o.ticket } in w)) (filter (waits_in c) (order_rows s))
      ∙ sym (told_queue s (λ o order. waiting_data (record { order = o; ticket = order.ticket })) sound.sound.desk c)

  pub queue_told : (found : Option ContainerQueue)
      → IsQueued c (storage_of version s) (container_with c (storage_of version s)) found
      → option_map (queue_data c) found ≡ option_map (queue_json s c) (nth s.catalogue.containers c)
  queue_told found is = at (nth s.catalogue.containers c) found (subst (λ (box : Option (ℕ × BoxKey)). IsQueued c (storage_of version s) box found) (box_row version s c) is)
    where
      at : (box : Option BoxKey) (found : Option ContainerQueue)
          → IsQueued c (storage_of version s) (option_map (λ (b : BoxKey). (let x : ℕ × BoxKey = (c, b) in x)) box) found
          → option_map (queue_data c) found ≡ option_map (queue_json s c) box
      at None found is = ap (option_map (queue_data c)) is
      at (Some box) None is = absurd is
      at (Some box) (Some q) is =
          ap (λ n. Some (queue_data c (record q { name = n }))) is.name
          ∙ ap (λ (p : Place). Some (queue_data c (record { name = box.name; place = p; waiting = q.waiting }))) (place_shown s sound.sound.desk c q.place is.place)
          ∙ ap (λ (w : List WaitingOrder). Some (queue_data c (record { name = box.name; place = s.place c; waiting = w }))) is.waiting
          ∙ ap
          (λ (l : List Data). Some (fields
          ((codes "container", count c)
          ∷ (codes "name", string box.name)
          ∷ (codes "out", or_null (option_map count (order_out (s.place c))))
          ∷ (codes "place", string (place_name (s.place c)))
          ∷ (codes "waiting", list l)
          ∷ [])))
          waiting_told

  pub queue_answer : (found : Option ContainerQueue)
      → IsQueued c (storage_of version s) (container_with c (storage_of version s)) found
      → known_json UnknownContainer (option_map (queue_data c) found) ≡ answer s (query.Queue c)
  queue_answer found is = ap (known_json UnknownContainer) (queue_told found is)
