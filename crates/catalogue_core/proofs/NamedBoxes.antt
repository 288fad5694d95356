-- The containers that a file names have names.
use Rattle.std.proofs.Common.{◌≡◌, true, false, not, List, [], ◌∷◌, refl, ap}
use Rattle.catalogue_core.proofs.Common.{AllByRecursion, BoxKey, IsGoodRow, Row, and_from, and_parts, flat_map}
use Rattle.catalogue_core.proofs.Common.{is_blank_text, list_all, not-true}
use Rattle.catalogue_core.proofs.EachOf.{all_append}

-- ---- containers

pub named_from : (boxes : List BoxKey) → list_all (λ box. not (is_blank_text box.name)) boxes ≡ true
    → AllByRecursion (λ (box : BoxKey). is_blank_text box.name ≡ false) boxes
named_from [] h = tt
named_from (box ∷ boxes) h =
    let r = and_parts (not (is_blank_text box.name)) (list_all (λ (box : BoxKey). not (is_blank_text box.name)) boxes) h in
    (not-true (is_blank_text box.name) r.0, named_from boxes r.1)

pub named_all : (boxes : List BoxKey) → AllByRecursion (λ (box : BoxKey). is_blank_text box.name ≡ false) boxes
    → list_all (λ (box : BoxKey). not (is_blank_text box.name)) boxes ≡ true
named_all [] h = refl
named_all (box ∷ boxes) h =
    and_from (not (is_blank_text box.name)) (list_all (λ (box : BoxKey). not (is_blank_text box.name)) boxes) (ap not h.0) (named_all boxes h.1)

pub named_told : (rows : List Row) → AllByRecursion IsGoodRow rows
    → AllByRecursion (λ (box : BoxKey). is_blank_text box.name ≡ false) (flat_map (λ (row : Row). row.values.boxes) rows)
named_told [] h = tt
named_told (row ∷ rows) h =
    all_append (λ (box : BoxKey). is_blank_text box.name ≡ false) row.values.boxes (flat_map (λ (row : Row). row.values.boxes) rows) h.0.named (named_told rows h.1)
