-- Lemmas on lists that commas part.
use Rattle.std.proofs.Common.{◌≡◌, ℕ, List, [], ◌∷◌, ◌++◌, refl, sym, true, false, cond}
use Rattle.std.specs.Prelude.{◌==◌}
use Rattle.http_messages.proofs.Common.{Bytes, list_items, onto_first}

-- the bytes go in front of the first item
abbrev pub prepend : Bytes → List Bytes → List Bytes
prepend p [] = p ∷ []
prepend p (x ∷ xs) = (p ++ x) ∷ xs

prepend_onto : (b : ℕ) (items : List Bytes) → prepend [] (onto_first b items) ≡ onto_first b items
prepend_onto b [] = refl
prepend_onto b (x ∷ xs) = refl

pub prepend_none : (bytes : Bytes) → list_items bytes ≡ prepend [] (list_items bytes)
prepend_none [] = refl
prepend_none (b ∷ bytes) =
    elim (b == 44) as (λ c. cond c ([] ∷ list_items bytes) (onto_first b (list_items bytes)) ≡ prepend [] (cond c ([] ∷ list_items bytes) (onto_first b (list_items bytes)))) [
      | true ↦ refl
      | false ↦ sym (prepend_onto b (list_items bytes))
    ]
