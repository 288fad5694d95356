-- A queue is read in three steps: what is written on the container, where it is, and who waits for it. Its head too: is
-- there such a container, where is it, and who is the first.
use Rattle.std.proofs.Common.{◌≡◌, ℕ, true, false, List, Option, Some, None, refl, sym, ap}
use Rattle.desk_store.specs.declared.orders.WaitingOrder.{WaitingOrder}
use Rattle.desk_store.proofs.Common.{BoxKey, IsAt, IsHeaded, IsQueued, Place, Storage, holding_of, is_some, option_map}
use Rattle.desk_store.proofs.Common.{queue_of, slice_get}
use Rattle.desk_store.proofs.BoxRows.{Numbered}

abbrev written : Option Numbered → Option BoxKey
written = option_map (λ (b : Numbered). b.1)

pub unknown_queue : (c : ℕ) (s : Storage) (box : Option Numbered) → written box ≡ None → IsQueued c s box None
unknown_queue c s None is = refl
unknown_queue c s (Some b) is = absurd (cc)

pub known_queue : (c : ℕ) (s : Storage) (box : Option Numbered) (known : BoxKey) → written box ≡ Some known
    → (place : Place) → IsAt (holding_of c s.desk) place → (waiting : List WaitingOrder) → waiting ≡ queue_of c s.desk
    → IsQueued c s box (Some (record { name = known.name; place = place; waiting = waiting }))
known_queue c s None known is place at waiting are = absurd (cc)
known_queue c s (Some b) known is place at waiting are =
    let same : b.1 ≡ known = cc in
    record { name = ap (λ (k : BoxKey). k.name) (sym same); place = at; waiting = are }

pub unknown_head : (c : ℕ) (s : Storage) (box : Option Numbered) → is_some box ≡ false → IsHeaded c s box None
unknown_head c s None is = refl
unknown_head c s (Some b) is = absurd (cc)

pub known_head : (c : ℕ) (s : Storage) (box : Option Numbered) → is_some box ≡ true → (place : Place)
    → IsAt (holding_of c s.desk) place → (first : Option WaitingOrder) → first ≡ slice_get (queue_of c s.desk) 0
    → IsHeaded c s box (Some (record { place = place; first = first }))
known_head c s None is place at first head = absurd (cc)
known_head c s (Some b) is place at first head = record { place = at; first = head }
