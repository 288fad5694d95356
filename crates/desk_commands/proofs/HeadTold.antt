-- The head of a container's queue, as the desk is told of it: is the container known, where is it, and who is the first
-- that waits.
use Rattle.std.proofs.Common.{◌≡◌, ℕ, true, false, ◌||◌, List, [], ◌∷◌, Option, Some, None, refl, sym, ap, subst, ◌∙◌}
use Rattle.isad_core.specs.declared.values.BoxKey.{BoxKey}
use Rattle.desk_store.specs.Storage.{IsHeaded, container_with}
use Rattle.desk_store.specs.declared.queue_heads.QueueHead.{QueueHead}
use Rattle.refinement.proofs.QueuesShown.{place_shown, told_queue}
use Rattle.desk_commands.specs.Issuance.{IsQueuedFor, first_waiting}
use Rattle.desk_commands.proofs.Common.{IsSoundOffice, Order, State, Version, WaitingOrder, cons_option, container_of}
use Rattle.desk_commands.proofs.Common.{filter_map, first, has_container, is_container, is_out_for, is_some, nth}
use Rattle.desk_commands.proofs.Common.{option_and_then, option_map, same_number, slice_get, stands, storage_of}
use Rattle.desk_commands.proofs.Common.{waiting}

-- an order that waits, with its ticket
abbrev pub waiter : ℕ → Order → WaitingOrder
waiter o order = record { order = o; ticket = order.ticket }

module _ (s : State) (c : ℕ) where
  abbrev orders_of : List ℕ → List WaitingOrder
  orders_of os = filter_map (λ o. option_map (waiter o) (nth s.orders o)) os

  head_shown : IsSoundOffice s → slice_get (orders_of (s.queue c)) 0 ≡ first_waiting s c
  head_shown sound = at (s.queue c) refl
    where
      at : (q : List ℕ) → s.queue c ≡ q
          → slice_get (orders_of q) 0 ≡ option_and_then (λ o. option_map (waiter o) (nth s.orders o)) (first q)
      at [] is = refl
      at (o ∷ os) is = found (nth s.orders o) refl
        where
          in_queue : stands o (s.queue c) ≡ true
          in_queue = ap (stands o) is ∙ ap (λ b. b || stands o os) (same_number o)

          found : (order : Option Order) → nth s.orders o ≡ order
              → slice_get (cons_option (option_map (waiter o) order) (orders_of os)) 0 ≡ option_map (waiter o) order
          found (Some order) e = refl
          found None e =
              let it = waiting (container_of s o) (λ c. stands o (s.queue c)) (λ c. is_out_for o (s.place c)) (s.past o) c (sound.sound.desk.filed.each o) in_queue in
              let for_it = it.for_it in
              let none : container_of s o ≡ None = ap (option_map (λ (order : Order). order.container)) e in
              absurd (let bad : None ≡ Some c = sym none ∙ for_it in cc)

  module _ (version : Version) where
    pub none_queued : {told : Option QueueHead} → IsHeaded c (storage_of version s) (container_with c (storage_of version s)) told
        → told ≡ None → is_container s c ≡ false
    none_queued it none =
        sym (has_container version s c)
        ∙ at (container_with c (storage_of version s)) (subst (λ (head : Option QueueHead). IsHeaded c (storage_of version s) (container_with c (storage_of version s)) head) none it)
      where
        at : (box : Option (ℕ × BoxKey)) → IsHeaded c (storage_of version s) box None → is_some box ≡ false
        at None it = refl
        at (Some box) it = absurd it

    -- the container is known, is where it is told to be, and the order that is told is the first that waits for it
    pub queued_at : IsSoundOffice s → (head : QueueHead) {told : Option QueueHead}
        → IsHeaded c (storage_of version s) (container_with c (storage_of version s)) told → told ≡ Some head
        → IsQueuedFor s c head.place head.first
    queued_at sound head it found =
        at (container_with c (storage_of version s)) refl (subst (λ (head : Option QueueHead). IsHeaded c (storage_of version s) (container_with c (storage_of version s)) head) found it)
      where
        at : (box : Option (ℕ × BoxKey)) → container_with c (storage_of version s) ≡ box
            → IsHeaded c (storage_of version s) box (Some head) → IsQueuedFor s c head.place head.first
        at None is it = absurd (let bad : Some head ≡ None = it in cc)
        at (Some box) is it = record {
          known = sym (has_container version s c) ∙ ap is_some is;
          is_at = place_shown s sound.sound.desk c head.place it.place;
          is_first = it.first ∙ ap (λ (l : List WaitingOrder). slice_get l 0) (sym (told_queue s waiter sound.sound.desk c)) ∙ head_shown sound;
        }
