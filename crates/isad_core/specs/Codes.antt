-- Reference codes (ISAD(G) 3.1.1): country, repository, and the identifiers from the top down.
use Rattle.std.specs.Prelude.{ℕ, Bool, not, ◌++◌, List, [], ◌∷◌, filter}
use Rattle.isad_core.specs.Texts.{Bytes, is_blank_text}

abbrev pub is_nonblank : Bytes → Bool
is_nonblank text = not (is_blank_text text)

-- texts one after another, with a separator before the first and a slash before each other
abbrev pub join_with : ℕ → List Bytes → Bytes
join_with before [] = []
join_with before (id ∷ ids) = before ∷ id ++ join_with 47 ids

-- the code of a unit; the identifiers are those of the units from the top down to it, and blank ones are left out
abbrev pub code_of : Bytes → Bytes → List Bytes → Bytes
code_of country repo ids = country ++ 32 ∷ repo ++ join_with 32 (filter is_nonblank ids)
