-- The entries of a split column.
use Rattle.std.specs.Prelude.{not, ◌==◌, ◌++◌, if◌then◌else◌, List, [], ◌∷◌, map, filter, codes}
use Rattle.std.specs.List.{slice_split}
use Rattle.std.specs.Str.{bytes_eq}
use Rattle.isad_core.specs.Texts.{Bytes}
use Rattle.atom_csv.specs.Fields.{has_no_bytes, trimmed}

-- the entry `NULL` is blank
abbrev pub without_null : Bytes → Bytes
without_null entry = if bytes_eq entry (codes "NULL") then [] else entry

-- the entry in one part of a split text
abbrev pub trimmed_entry : Bytes → Bytes
trimmed_entry part = without_null (trimmed part)

-- the text, split at each bar
abbrev pub parts_of : Bytes → List Bytes
parts_of = slice_split (λ b. b == 124)

-- the entries of a text, including blank ones
abbrev pub entries : Bytes → List Bytes
entries text = map trimmed_entry (parts_of text)

-- the entries that are not blank
abbrev pub nonblank_entries : List Bytes → List Bytes
nonblank_entries = filter (λ entry. not (has_no_bytes entry))

-- the entries, joined with `; `
abbrev pub entries_joined : List Bytes → Bytes
entries_joined [] = []
entries_joined (e ∷ []) = e
entries_joined (e ∷ f ∷ rest) = e ++ codes "; " ++ entries_joined (f ∷ rest)

-- a text of joined entries, with one more entry
abbrev pub with_entry : Bytes → Bytes → Bytes
with_entry text entry = if has_no_bytes entry then text
    else if has_no_bytes text then entry else text ++ codes "; " ++ entry
