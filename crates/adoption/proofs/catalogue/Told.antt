-- What the rows of elements and containers tell of a unit is what its description has.
use Rattle.std.proofs.Common.{◌≡◌, ℕ, zero, suc, ◌+◌, List, [], ◌∷◌, map, true, cond, Option, Some, None, nat_eq, refl}
use Rattle.std.proofs.Common.{ap, ap₂, ◌∙◌, arith}
use Rattle.isad_core.specs.Texts.{Bytes}
use Rattle.isad_core.specs.declared.values.BoxKey.{BoxKey}
use Rattle.catalogue_core.specs.CatalogueMerge.{box_number}
use Rattle.office_tables.specs.SharedRows.{numbered_container_cells}
use Rattle.state_encoding.specs.DeskEncoding.{rows_from}
use Rattle.adoption.proofs.Common.{AllByRecursion, ContainerRow, ElementRow, HousingRow, after_level, and_parts}
use Rattle.adoption.proofs.Common.{are_numbered_from, box_from, container_cells, counted_from, element_number}
use Rattle.adoption.proofs.Common.{element_rows_from, eqb-true, housing_row, le-ltb, texts_from}

-- ---- elements

abbrev pub element_cell : ElementRow → ℕ × Bytes
element_cell e = (e.k, e.value)

abbrev text_cell : ℕ × Bytes → ℕ × Bytes
text_cell text = (element_number text.0, text.1)

same_number : (i : ℕ) → after_level (suc i) ≡ element_number i
same_number zero = refl
same_number (suc zero) = refl
same_number (suc (suc zero)) = refl
same_number (suc (suc (suc i))) =
    ap (λ b. cond b (suc (suc (suc (suc i)))) (suc (suc (suc (suc i))) + 1)) (le-ltb (suc (suc (suc (suc i)))) 4 (omega arith))
    ∙ omega arith

pub element_units : (u k : ℕ) (texts : List (Option Bytes))
    → AllByRecursion (λ (e : ElementRow). e.unit ≡ u) (element_rows_from u k texts)
element_units u k [] = tt
element_units u k (None ∷ texts) = element_units u (suc k) texts
element_units u k (Some text ∷ texts) = (refl, element_units u (suc k) texts)

texts_told : (u i k : ℕ) (texts : List (Option Bytes)) → k ≡ suc i
    → map element_cell (element_rows_from u k texts) ≡ map text_cell (texts_from i texts)
texts_told u i k [] e = refl
texts_told u i k (None ∷ texts) e = texts_told u (i + 1) (suc k) texts (omega (arith, e))
texts_told u i k (Some text ∷ texts) e =
    let here : after_level k ≡ element_number i = ap after_level e ∙ same_number i in
    let cell : ℕ → ℕ × Bytes = λ n. (n, text) in
    ap₂ ◌∷◌ (ap cell here) (texts_told u (i + 1) (suc k) texts (omega (arith, e)))

pub elements_told : (u : ℕ) (texts : List (Option Bytes))
    → map element_cell (element_rows_from u 1 texts) ≡ map text_cell (texts_from 0 texts)
elements_told u texts = texts_told u 0 1 texts refl

-- ---- what lies in containers

abbrev pub housing_cell : HousingRow → ℕ × ℕ
housing_cell l = (l.ord, l.container)

module _ (containers : List BoxKey) (u : ℕ) where
  abbrev box_cell : ℕ × BoxKey → ℕ × ℕ
  box_cell box = (box.0, box_number containers box.1)

  pub housing_units : (n : ℕ) (boxes : List BoxKey)
      → AllByRecursion (λ (l : HousingRow). l.unit ≡ u) (rows_from (housing_row containers u) n boxes)
  housing_units n [] = tt
  housing_units n (box ∷ boxes) = (refl, housing_units (suc n) boxes)

  boxes_told : (n m : ℕ) (boxes : List BoxKey) → n ≡ m
      → map housing_cell (rows_from (housing_row containers u) n boxes) ≡ map box_cell (counted_from m boxes)
  boxes_told n m [] e = refl
  boxes_told n m (box ∷ boxes) e = let cell : ℕ → ℕ × ℕ = λ k. (k, box_number containers box) in ap₂ ◌∷◌ (ap cell e) (boxes_told (suc n) (m + 1) boxes (omega (arith, e)))

  pub housings_told : (boxes : List BoxKey)
      → map housing_cell (rows_from (housing_row containers u) 1 boxes) ≡ map box_cell (counted_from 1 boxes)
  housings_told boxes = boxes_told 1 1 boxes refl

-- ---- containers

counted : (n m : ℕ) (rows : List ContainerRow) → are_numbered_from (λ (row : ContainerRow). row.id) n rows ≡ true
    → n ≡ m → map container_cells rows ≡ map numbered_container_cells (counted_from m (map box_from rows))
counted n m [] h e = refl
counted n m (row ∷ rows) h e =
    let parts = and_parts (nat_eq row.id n) (are_numbered_from (λ (row : ContainerRow). row.id) (suc n) rows) h in
    let here : row.id ≡ m = eqb-true row.id n parts.0 ∙ e in
    ap₂ ◌∷◌ (ap (λ k. numbered_container_cells (k, box_from row)) here) (counted (suc n) (m + 1) rows parts.1 (omega (arith, e)))

pub containers_told : (rows : List ContainerRow) → are_numbered_from (λ (row : ContainerRow). row.id) 1 rows ≡ true
    → map container_cells rows ≡ map numbered_container_cells (counted_from 1 (map box_from rows))
containers_told rows h = counted 1 1 rows h refl
