use Rattle.std.proofs.Common.{◌≡◌, [], map, take}
use Rattle.finding_aids.proofs.Common.{All, Slot}
use Rattle.finding_aids.proofs.previews.trees.bare_slots.Given as goal

abbrev pub invariant-loop-place : goal.invariant-loop-place
invariant-loop-place l = record {
  places : map (λ (slot : Slot). slot.place) l.slots.items ≡ take l.place-index l.places;
  bare : All (λ (slot : Slot). slot.children.items ≡ []) l.slots.items;
}
