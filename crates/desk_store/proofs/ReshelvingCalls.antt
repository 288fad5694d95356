-- The containers at the desk are read, and then for each whether an order waits for it.
use Rattle.std.proofs.Common.{◌≡◌, ℕ, ◌+◌, ◌<◌, ◌≤◌, Bool, nat_eq, List, [], ◌∷◌, ◌++◌, map, filter, length, take, sym}
use Rattle.std.proofs.Common.{ap, ◌∙◌}
use Rattle.std.specs.Prelude.{get_or}
use Rattle.desk_store.proofs.Common.{Desk, HoldingRow, OrderRow, at_desk_of, list_any, map-append, map-map, take_all}
use Rattle.desk_store.proofs.Common.{take_more, waits_for}

abbrev pub is_at_desk : HoldingRow → Bool
is_at_desk h = nat_eq 1 h.place

abbrev pub containers_at_desk : Desk → List ℕ
containers_at_desk d = map (λ (h : HoldingRow). h.container) (filter is_at_desk d.holdings)

abbrev pub with_awaited : List OrderRow → ℕ → ℕ × Bool
with_awaited orders c = (c, list_any (waits_for c) orders)

pub told_more : (orders : List OrderRow) (cs : List ℕ) (i : ℕ) (done : List (ℕ × Bool)) (awaited : Bool) → i < length cs
    → done ≡ map (with_awaited orders) (take i cs)
    → awaited ≡ list_any (waits_for (get_or cs i 0)) orders
    → done ++ (get_or cs i 0, awaited) ∷ [] ≡ map (with_awaited orders) (take (i + 1) cs)
told_more orders cs i done awaited low so is =
    ap (λ l. l ++ (get_or cs i 0, awaited) ∷ []) so ∙ ap (λ b. map (with_awaited orders) (take i cs) ++ (get_or cs i 0, b) ∷ []) is
    ∙ sym (map-append (with_awaited orders) (take i cs) (get_or cs i 0 ∷ []))
    ∙ sym (ap (map (with_awaited orders)) (take_more cs i 0 low))

pub told_whole : (d : Desk) (cs : List ℕ) (i : ℕ) (done : List (ℕ × Bool)) → length cs ≤ i → cs ≡ containers_at_desk d
    → done ≡ map (with_awaited d.orders) (take i cs) → done ≡ at_desk_of d
told_whole d cs i done whole are so =
    so ∙ ap (map (with_awaited d.orders)) (take_all i cs whole ∙ are) ∙ map-map (with_awaited d.orders) (λ (h : HoldingRow). h.container) (filter is_at_desk d.holdings)
