-- The units of a finding aid, as they are read one by one.
use Rattle.std.proofs.Common.{◌≡◌, ℕ, ◌+◌, ◌≤◌, Bool, true, false, cond, List, [], ◌∷◌, length, Option, Some, None}
use Rattle.std.proofs.Common.{refl, sym, ap, subst, ◌∙◌, arith, map}
use Rattle.std.specs.List.{IsDistinct}
use Rattle.std.specs.Prelude.{find, nat_eq}
use Rattle.isad_core.specs.Limits.{most_units}
use Rattle.catalogue_core.proofs.DistinctLists.{all_so}
use Rattle.catalogue_core.proofs.EachAfter.{all_tree}
use Rattle.catalogue_core.proofs.NodeLemmas.{length-nodes}
use Rattle.public_queries.proofs.Common.{AllByRecursion, AreWalkMarks, BoxKey, Catalogue, Empty, Forest, Full}
use Rattle.public_queries.proofs.Common.{HasDistinctIds, IsKept, IsOf, Mark, Node, Told, Unit, UnitValues, Walked}
use Rattle.public_queries.proofs.Common.{all_append, all_split, box_number, each, false≢true, has, has_id, identifier}
use Rattle.public_queries.proofs.Common.{is_later, is_unit_closed, mark_of, nodes, nodes-each, numbered_boxes}
use Rattle.public_queries.proofs.Common.{own_lines, public_unit, public_units, seen_of, seen_values, size, size-each}
use Rattle.public_queries.proofs.Common.{stub_of, title, tree, walk, with_numbers, without_number, ℤ}
use Rattle.public_queries.proofs.FoundUnits.{found_each}

-- ---- what is read of one unit

names_numbered : (number : BoxKey → ℕ) (boxes : List BoxKey)
    → with_numbers (map number boxes) boxes ≡ numbered_boxes number boxes
names_numbered number [] = refl
names_numbered number (box ∷ boxes) = ap (λ l. (number box, box.name) ∷ l) (names_numbered number boxes)

-- the values of a unit with the numbers of its containers
abbrev pub values_read : List BoxKey → Unit → UnitValues
values_read containers u = record { values = u.values; containers = map (box_number containers) u.values.boxes }

pub seen_read : (containers : List BoxKey) (u : Unit)
    → seen_values (values_read containers u) ≡ seen_of containers (Told u.id u.values)
seen_read containers u =
    ap (λ boxes. record { identifier = identifier u.values; level = u.values.level; title = title u.values; body = Full (own_lines u.values) boxes })
    (names_numbered (box_number containers) u.values.boxes)

-- a closed unit has the day on which that ends
pub closed_until : (day : ℤ) (u : Unit) → is_unit_closed day u ≡ true → (until : ℤ) × (u.until ≡ Some until)
closed_until day u h = at u.until h
  where
    at : (until : Option ℤ) → is_later day until ≡ true → (end : ℤ) × (until ≡ Some end)
    at None h = absurd (false≢true h)
    at (Some end) h = (end, refl)

-- what the public sees of a unit that is a stub, and of one that is none
pub seen_stub : (containers : List BoxKey) (u : Unit) (until : ℤ) → u.until ≡ Some until
    → seen_of containers (public_unit (u, true)) ≡ seen_of containers (stub_of u (Some until))
seen_stub containers u until e = ap (λ o. seen_of containers (stub_of u o)) e

-- ---- how many they are

tree_small : {A : Type 0} (is : A → Bool) (f : Forest A) → size (tree is f) ≤ size f
tree_small is Empty = omega arith
tree_small is (Node a c o) = at (is a) (has is c) (tree_small is c) (tree_small is o)
  where
    at : (b d : Bool) → size (tree is c) ≤ size c → size (tree is o) ≤ size o
        → size (cond b (Node a c Empty) (cond d (tree is c) (tree is o))) ≤ 1 + (size c + size o)
    at true d x y = omega arith
    at false true x y = omega (arith, x)
    at false false x y = omega (arith, y)

pub few_marks : (c : Catalogue) (is : Unit → Bool) (marks : List Mark) → IsKept c
    → AreWalkMarks (tree is c.forest) marks → length marks ≤ most_units
few_marks c is marks kept it =
    let few = kept.places.few in
    let ids = size-each (λ (u : Unit). u.id) c.forest in
    let branch = tree_small is c.forest in
    let same = sym (size-each without_number it.forest) ∙ ap size it.theirs ∙ size-each mark_of (tree is c.forest) in
    let long = ap length it.walked ∙ length-nodes it.forest in
    omega (arith, few, ids, branch, same, long)

-- ---- what holds of each unit of a forest holds of what the public sees of it

module _ (P : Unit → Type 0) (day : ℤ) where
  abbrev pub OfSeen : Unit × Bool → Type 0
  OfSeen seen = P seen.0 × (seen.1 ≡ is_unit_closed day seen.0)

  all_public : (f : Forest Unit) → AllByRecursion P (nodes f) → AllByRecursion OfSeen (nodes (public_units day f))
  all_public Empty h = tt
  all_public (Node u c o) h =
      let parts = all_split P (nodes c) (nodes o) h.1 in
      at u.draft (is_unit_closed day u) refl (all_public c parts.0) (all_public o parts.1)
    where
      below : (b : Bool) → AllByRecursion OfSeen (nodes (public_units day c))
          → AllByRecursion OfSeen (nodes (cond b Empty (public_units day c)))
      below true x = tt
      below false x = x

      at : (draft closed : Bool) → closed ≡ is_unit_closed day u → AllByRecursion OfSeen (nodes (public_units day c))
          → AllByRecursion OfSeen (nodes (public_units day o))
          → AllByRecursion OfSeen (nodes (cond draft (public_units day o) (Node (u, closed) (cond closed Empty (public_units day c)) (public_units day o))))
      at true closed e x y = y
      at false closed e x y = ((h.0, e), all_append OfSeen (nodes (cond closed Empty (public_units day c))) (nodes (public_units day o)) (below closed x) y)

all_walked : {A : Type 0} (P : A → Type 0) (d : ℕ) (f : Forest A) → AllByRecursion P (nodes f)
    → AllByRecursion (λ (x : A × ℕ). P x.0) (walk d f)
all_walked P d Empty h = tt
all_walked {A} P d (Node a c o) h =
    let parts = all_split P (nodes c) (nodes o) h.1 in
    (h.0, all_append (λ (x : A × ℕ). P x.0) (walk (1 + d) c) (walk d o) (all_walked P (1 + d) c parts.0) (all_walked P d o parts.1))

-- the units of an aid are the catalogue's
pub rows_of : (day : ℤ) (c : Catalogue) (is : Unit → Bool) → HasDistinctIds (each (λ (u : Unit). u.id) c.forest)
    → AllByRecursion (IsOf day c) (walk 0 (public_units day (tree is c.forest)))
rows_of day c is apart =
    let found = found_each (nodes c.forest) (subst (IsDistinct nat_eq) (nodes-each (λ (u : Unit). u.id) c.forest) apart) in
    let own = all_tree IsThere is c.forest found in
    let seen = all_walked (OfSeen IsThere day) 0 (public_units day (tree is c.forest)) (all_public IsThere day (tree is c.forest) own) in
    all_so (λ (row : Walked). OfSeen IsThere day row.0) (IsOf day c) (λ row it. record { found = it.0; stub = it.1 }) (walk 0 (public_units day (tree is c.forest))) seen
  where
    IsThere : Unit → Type 0
    IsThere u = find (has_id u.id) (nodes c.forest) ≡ Some u
