-- One more step down.
use Rattle.std.proofs.Common.{◌≡◌, ℕ, zero, suc, ◌+◌, ◌<◌, ◌++◌, ◌∷◌, [], List, length, take, get_or, ap, refl, add-one}
use Rattle.std.proofs.Common.{append_assoc, ◌∙◌}
use Rattle.std.proofs.lemmas.List.{flat_map_more, take_more}
use Rattle.isad_core.proofs.Common.{flat_map, indent}

indent_suc : (depth : ℕ) → indent depth ++ 32 ∷ 32 ∷ [] ≡ 32 ∷ 32 ∷ indent depth
indent_suc zero = refl
indent_suc (suc depth) = ap (λ (text : List ℕ). 32 ∷ 32 ∷ text) (indent_suc depth)

-- two more spaces after what was printed
pub indent_more : (before : List ℕ) (depth : ℕ)
    → (before ++ indent depth) ++ 32 ∷ 32 ∷ [] ≡ before ++ indent (depth + 1)
indent_more before depth =
    append_assoc before (indent depth) (32 ∷ 32 ∷ []) ∙ rw add-one (ap (λ (text : List ℕ). before ++ text) (indent_suc depth))

-- one more item of a list whose items are printed one after another
pub one_more : {X : Type 0} (f : X → List ℕ) (start before after : List ℕ) (items : List X) (i : ℕ) (item : X)
    → i < length items → item ≡ get_or items i item
    → before ≡ start ++ flat_map f (take i items) → after ≡ before ++ f item
    → after ≡ start ++ flat_map f (take (i + 1) items)
one_more f start before after items i item within is so_far printed =
    let here = rw (← is) at (take_more items i item within) in
    printed ∙ rw (so_far, here) (flat_map_more f start (take i items) item)
