-- How many units and containers there are, as SQL counts them.
use Rattle.std.proofs.Common.{◌≡◌, ℕ, ◌+◌, ◌<◌, ◌≤◌, Bool, true, false, cond, ◌&&◌, List, length, map, Some, None, refl}
use Rattle.std.proofs.Common.{sym, ap, ap₂, ◌∙◌, inl, inr, arith}
use Rattle.catalogue_core.proofs.NodeLemmas.{length-nodes}
use Rattle.office_tables.specs.RowCounts.{cap}
use Rattle.office_tables.specs.Schema as tables
use Rattle.csv_import.proofs.Common.{Catalogue, Database, Forest, OfficeRow, RepresentsSettings, RepresentsUnits, Trees}
use Rattle.csv_import.proofs.Common.{Unit, Version, and_parts, cases_Bool, cells_of_unit, has_room, le-leb, le-ltb}
use Rattle.csv_import.proofs.Common.{leb-false, leb-true, length_permutation, lt-leb, lt-ltb, ltb-false, ltb-true}
use Rattle.csv_import.proofs.Common.{most_containers, most_unit_numbers, most_units, nat_le, nat_lt, next_with_room}
use Rattle.csv_import.proofs.Common.{nodes, size, ⊤}

-- the count has an end, but far above what an office may have
pub many_counted : (n : ℕ) → nat_lt most_containers (cap n) ≡ nat_lt most_containers n
many_counted n = elim (cases_Bool (nat_lt most_containers n)) [
  | inl high ↦ (let more : most_containers < n = ltb-true most_containers n high in lt-ltb most_containers (cap n) (omega (arith, more)) ∙ sym high)
  | inr low ↦ (let less : n ≤ most_containers = ltb-false most_containers n low in le-ltb most_containers (cap n) (omega (arith, less)) ∙ sym low)
]

pub room_counted : (n new : ℕ) → nat_le (cap n + new) most_units ≡ nat_le (n + new) most_units
room_counted n new = elim (cases_Bool (nat_le (n + new) most_units)) [
  | inl room ↦ (let less : n + new ≤ most_units = leb-true (n + new) most_units room in le-leb (cap n + new) most_units (omega (arith, less)) ∙ sym room)
  | inr none ↦ (let more : most_units < n + new = leb-false (n + new) most_units none in lt-leb (cap n + new) most_units (omega (arith, more)) ∙ sym none)
]

-- the next number where there is room, or none, by the numbers as they are told
pub next_if : (new : ℕ) (c : Catalogue) (units next : ℕ) → units ≡ cap (size c.forest) → next ≡ c.next → (room : Bool)
    → (nat_le (units + new) most_units && nat_le (next + new) (most_unit_numbers + 1)) ≡ room
    → cond room (Some next) None ≡ next_with_room new c
next_if new c units next many is room e =
    let here : has_room new c ≡ room =
    sym (ap (λ (b : Bool). b && nat_le (c.next + new) (most_unit_numbers + 1)) (room_counted (size c.forest) new))
    ∙ (sym (ap₂ (λ n m. nat_le (n + new) most_units && nat_le (m + new) (most_unit_numbers + 1)) many is) ∙ e) in
    ap (λ n. cond room (Some n) None) is ∙ sym (ap (λ (b : Bool). cond b (Some c.next) None) here)

-- there is a next number
pub room_there : (new : ℕ) (c : Catalogue) (next : ℕ) → Some next ≡ next_with_room new c
    → (has_room new c ≡ true) × (next ≡ c.next)
room_there new c next e = at (has_room new c) e
  where
    at : (b : Bool) → Some next ≡ cond b (Some c.next) None → (b ≡ true) × (next ≡ c.next)
    at true h = (refl, cc)
    at false h = absurd (cc)

-- there is none
pub no_room_there : (new : ℕ) (c : Catalogue) → None ≡ next_with_room new c → has_room new c ≡ false
no_room_there new c e = at (has_room new c) e
  where
    at : (b : Bool) → None ≡ cond b (Some c.next) None → b ≡ false
    at true h = absurd (cc)
    at false h = refl

-- how many units there are, by the rows that are counted
pub units_counted : {db : Trees} {f : Forest Unit} {units : ℕ} (at : RepresentsUnits db f)
    → units ≡ cap (length at.units) → units ≡ cap (size f)
units_counted {f = f} at is = is ∙ ap cap (length_permutation (nodes f) at.units at.are ∙ length-nodes f)

-- the same by the settings that were read and the units that were counted after it
pub next_told : {places : Trees → Forest ℕ → Type 0} {version : Version} {db later : Database} {c : Catalogue} {o office : OfficeRow} (new units next : ℕ) {space room : Bool}
    → RepresentsSettings places version db c o → office ≡ o → next ≡ office.next_unit → later ≡ db
    → ((us : List Unit) → later.trees tables.unit.tree ≡ map cells_of_unit us → ⊤ → units ≡ cap (length us))
    → space ≡ (nat_le (units + new) most_units && nat_le (next + new) (most_unit_numbers + 1)) → space ≡ room
    → cond room (Some next) None ≡ next_with_room new c
next_told {c = c} new units next {room = room} it read told same counted space here =
    let at = it.catalogue.units in
    next_if new c units next (units_counted at (counted at.units (ap (λ (db : Database). db.trees tables.unit.tree) same ∙ at.rows) tt)) (told ∙ (ap (λ (row : OfficeRow). row.next_unit) read ∙ it.catalogue.next)) room (sym space ∙ here)

-- the next number is within the limit, where there is room
pub number_within : (units next new : ℕ)
    → (nat_le (units + new) most_units && nat_le (next + new) (most_unit_numbers + 1)) ≡ true
    → next ≤ most_unit_numbers + 1
number_within units next new room =
    let after = leb-true (next + new) (most_unit_numbers + 1) (and_parts (nat_le (units + new) most_units) (nat_le (next + new) (most_unit_numbers + 1)) room).1 in
    omega (arith, after)
