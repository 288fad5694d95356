-- The units that rows say are those rows.
use Rattle.std.proofs.Common.{◌≡◌, ℕ, false, List, [], ◌∷◌, Option, Some, None, refl, sym, ap, ◌∙◌, subst, nat_eq, map}
use Rattle.std.specs.List.{IsDistinct}
use Rattle.std.specs.Prelude.{unwrap_or}
use Rattle.tree_core.proofs.Members.{permutation_from_members}
use Rattle.state_encoding.proofs.Common.{Forest, In, In-map, IsPermutation, OfficeRows, Unit, UnitRow, box_from}
use Rattle.state_encoding.proofs.Common.{boxes_from_rows, each, eqb-true, find, find_some, nodes, nodes-each}
use Rattle.state_encoding.proofs.Common.{numbers_from, option_map, text_said, unit_from, unit_from_rows, unit_numbers}
use Rattle.state_encoding.proofs.Common.{unit_row, values_from_rows}
use Rattle.state_encoding.proofs.RowsByNumber.{From, in_map, found_by}

abbrev row_of : OfficeRows → ℕ → Option UnitRow
row_of t u = find (λ (row : UnitRow). nat_eq row.id u) t.catalogue.units

abbrev nothing_of : OfficeRows → ℕ → Unit
nothing_of t u = record { id = u; source = []; legacy = []; values = values_from_rows t.catalogue u []; draft = false; until = None }

-- ---- the number and the values of a unit that rows say

pub said_id : (t : OfficeRows) (u : ℕ) → (unit_from_rows t.catalogue u).id ≡ u
said_id t u = at (row_of t u) refl
  where
    at : (r : Option UnitRow) → row_of t u ≡ r
        → (unwrap_or (option_map (unit_from t.catalogue) r) (nothing_of t u)).id ≡ u
    at None e = refl
    at (Some row) e = eqb-true row.id u (find_some (λ (row : UnitRow). nat_eq row.id u) t.catalogue.units row e).1

pub said_texts : (t : OfficeRows) (u : ℕ)
    → (unit_from_rows t.catalogue u).values.texts ≡ map (text_said t.catalogue.elements u) (numbers_from 1 25)
said_texts t u = at (row_of t u) refl
  where
    at : (r : Option UnitRow) → row_of t u ≡ r
        → (unwrap_or (option_map (unit_from t.catalogue) r) (nothing_of t u)).values.texts ≡ map (text_said t.catalogue.elements u) (numbers_from 1 25)
    at None e = refl
    at (Some row) e = ap (λ v. map (text_said t.catalogue.elements v) (numbers_from 1 25)) (eqb-true row.id u (find_some (λ (row : UnitRow). nat_eq row.id u) t.catalogue.units row e).1)

pub said_boxes : (t : OfficeRows) (u : ℕ)
    → (unit_from_rows t.catalogue u).values.boxes ≡ boxes_from_rows (map box_from t.catalogue.containers) t.catalogue.housings u
said_boxes t u = at (row_of t u) refl
  where
    at : (r : Option UnitRow) → row_of t u ≡ r
        → (unwrap_or (option_map (unit_from t.catalogue) r) (nothing_of t u)).values.boxes ≡ boxes_from_rows (map box_from t.catalogue.containers) t.catalogue.housings u
    at None e = refl
    at (Some row) e = ap (λ v. boxes_from_rows (map box_from t.catalogue.containers) t.catalogue.housings v) (eqb-true row.id u (find_some (λ (row : UnitRow). nat_eq row.id u) t.catalogue.units row e).1)

-- ---- the unit of a row

pub unit_of_row : (t : OfficeRows) (row : UnitRow) → IsDistinct nat_eq (unit_numbers t.catalogue)
    → In row t.catalogue.units → unit_from_rows t.catalogue row.id ≡ unit_from t.catalogue row
unit_of_row t row d i = ap (λ r. unwrap_or (option_map (unit_from t.catalogue) r) (nothing_of t row.id)) (found_by (λ (row : UnitRow). row.id) t.catalogue.units row d i)

-- the units that have a place are those that have a row
pub record AreUnitsOf (t : OfficeRows) (f : Forest ℕ) : Type 0 where
  pub apart : IsDistinct nat_eq (nodes f)
  pub told : (u : ℕ) → In u (nodes f) → From (λ (row : UnitRow). row.id) t.catalogue.units u
  pub placed : (row : UnitRow) → In row t.catalogue.units → In row.id (nodes f)

-- what is so of the unit of each row is so of each unit
pub each_said : (t : OfficeRows) (f : Forest ℕ) (P : Unit → Type 0) → IsDistinct nat_eq (unit_numbers t.catalogue)
    → AreUnitsOf t f → ((row : UnitRow) → In row t.catalogue.units → P (unit_from t.catalogue row)) → (u : ℕ)
    → In u (nodes f) → P (unit_from_rows t.catalogue u)
each_said t f P d a h u i =
    let r = a.told u i in
    subst (λ v. P (unit_from_rows t.catalogue v)) r.is (subst P (sym (unit_of_row t r.it d r.there)) (h r.it r.there))

pub units_are_said : (t : OfficeRows) (f : Forest ℕ) → IsDistinct nat_eq (unit_numbers t.catalogue) → AreUnitsOf t f
    → IsPermutation (map unit_row (nodes (each (unit_from_rows t.catalogue) f))) t.catalogue.units
units_are_said t f d a =
    let key : UnitRow → ℕ = λ row. row.id in
    let rows : List UnitRow = map (λ u. unit_row (unit_from_rows t.catalogue u)) (nodes f) in
    let same : map unit_row (nodes (each (unit_from_rows t.catalogue) f)) ≡ rows =
    ap (map unit_row) (nodes-each (unit_from_rows t.catalogue) f) ∙ twice (nodes f) in
    subst (λ l. IsPermutation l t.catalogue.units) (sym same)
    (permutation_from_members key rows t.catalogue.units (subst (IsDistinct nat_eq) (sym (numbers (nodes f))) a.apart) d
    (λ row i. let r = in_map (λ u. unit_row (unit_from_rows t.catalogue u)) (nodes f) row i in
    subst (λ x. In x t.catalogue.units) r.is (each_said t f (λ unit. In (unit_row unit) t.catalogue.units) d a (λ x j. j) r.it r.there))
    (λ row i. subst (λ x. In x rows) (ap unit_row (unit_of_row t row d i)) (In-map (λ u. unit_row (unit_from_rows t.catalogue u)) (nodes f) row.id (a.placed row i))))
  where
    twice : (us : List ℕ)
        → map unit_row (map (unit_from_rows t.catalogue) us) ≡ map (λ u. unit_row (unit_from_rows t.catalogue u)) us
    twice [] = refl
    twice (u ∷ us) = ap (λ l. unit_row (unit_from_rows t.catalogue u) ∷ l) (twice us)

    numbers : (us : List ℕ) → map (λ (row : UnitRow). row.id) (map (λ u. unit_row (unit_from_rows t.catalogue u)) us) ≡ us
    numbers [] = refl
    numbers (u ∷ us) =
        ap (λ v. v ∷ map (λ (row : UnitRow). row.id) (map (λ u. unit_row (unit_from_rows t.catalogue u)) us)) (said_id t u)
        ∙ ap (λ l. u ∷ l) (numbers us)
