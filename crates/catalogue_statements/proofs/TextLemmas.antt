-- Texts that are added one after another.
use Rattle.std.proofs.Common.{◌≡◌, ℕ, ℤ, ◌+◌, ◌<◌, get_or, List, [], ◌∷◌, ◌++◌, length, map, Option, Some, None, take}
use Rattle.std.proofs.Common.{refl, sym, ap, ◌∙◌, arith}
use Rattle.std.proofs.lemmas.List.{length-take-le}
use Rattle.office_tables.specs.Schema as tables
use Rattle.catalogue_statements.proofs.Common.{AreElements, Bytes, Database, ElementRow, IsPermutation-refl, PutsRow}
use Rattle.catalogue_statements.proofs.Common.{Trees, WithTexts, element_number, element_row, map-append, next_rowid}
use Rattle.catalogue_statements.proofs.Common.{one_more, take_more, text_cells, texts_from}

abbrev new_row : Trees → ℕ → ℕ → Bytes → ℤ × ElementRow
new_row db unit k value = (next_rowid (db tables.element.tree), record { unit = unit; k = k; value = value })

-- one row is put
pub one_element : (old new : Database) (unit k : ℕ) (value : Bytes) (xs : List ElementRow) → AreElements old.trees xs
    → PutsRow tables.element.tree (element_row (new_row old.trees unit k value)) old new
    → (ys : List ElementRow) × AreElements new.trees ys × WithTexts unit ((k, value) ∷ []) xs ys
one_element old new unit k value xs at puts =
    let row : ElementRow = record { unit = unit; k = k; value = value } in (
      row ∷ xs,
      record { rows = one_more element_row (λ _. refl) (old.trees tables.element.tree) (new.trees tables.element.tree) xs (next_rowid (old.trees tables.element.tree)) row at.rows puts.rows puts.fresh },
      record { more = row ∷ []; are = IsPermutation-refl (row ∷ xs); tell = IsPermutation-refl ((k, value) ∷ []); theirs = (refl, tt) },
    )

texts_more : (k : ℕ) (texts : List (Option Bytes)) (text : Option Bytes)
    → texts_from k (texts ++ text ∷ []) ≡ texts_from k texts ++ texts_from (k + length texts) (text ∷ [])
texts_more k [] text = ap (λ n. texts_from n (text ∷ [])) (omega arith)
texts_more k (None ∷ texts) text =
    texts_more (k + 1) texts text ∙ ap (λ n. texts_from (k + 1) texts ++ texts_from n (text ∷ [])) (omega arith)
texts_more k (Some t ∷ texts) text =
    ap (λ l. (k, t) ∷ l) (texts_more (k + 1) texts text ∙ ap (λ n. texts_from (k + 1) texts ++ texts_from n (text ∷ [])) (omega arith))

pub cells_more : (texts : List (Option Bytes)) (text : Option Bytes)
    → map (λ (t : ℕ × Bytes). (let c : ℕ × Bytes = (element_number t.0, t.1) in c)) (texts_from 0 (texts ++ text ∷ [])) ≡ map (λ (t : ℕ × Bytes). (let c : ℕ × Bytes = (element_number t.0, t.1) in c)) (texts_from 0 texts) ++ text_cells (length texts) text
cells_more texts text =
    let numbered = λ (t : ℕ × Bytes). (let c : ℕ × Bytes = (element_number t.0, t.1) in c) in
    ap (map numbered) (texts_more 0 texts text ∙ ap (λ n. texts_from 0 texts ++ texts_from n (text ∷ [])) (omega arith)) ∙ map-append numbered (texts_from 0 texts) (texts_from (length texts) (text ∷ []))

-- the cells of the first texts
abbrev pub first_cells : ℕ → List (Option Bytes) → List (ℕ × Bytes)
first_cells i texts = map (λ t. (element_number t.0, t.1)) (texts_from 0 (take i texts))

pub cells_step : (texts : List (Option Bytes)) (i place : ℕ) (t : Option Bytes) → place ≡ i → i < length texts
    → t ≡ get_or texts i t → first_cells i texts ++ text_cells place t ≡ first_cells (i + 1) texts
cells_step texts i place t same low is =
    let numbered = λ (t : ℕ × Bytes). (let c : ℕ × Bytes = (element_number t.0, t.1) in c) in
    let taken : take (i + 1) texts ≡ take i texts ++ t ∷ [] =
    take_more texts i t low ∙ ap (λ x. take i texts ++ x ∷ []) (sym is) in
    let long : length (take i texts) ≡ place = length-take-le i texts (omega (arith, low)) ∙ sym same in
    sym (ap (λ l. map numbered (texts_from 0 l)) taken ∙ cells_more (take i texts) t ∙ ap (λ n. first_cells i texts ++ text_cells n t) long)
