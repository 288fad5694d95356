-- The slip of a run: what the fetcher takes along the shelves.
use Rattle.std.specs.Prelude.{◌≡◌, ℕ, ◌-◌, ◌||◌, Bool, nat_lt, nat_le, List, [], ◌∷◌, ◌++◌, length, filter, replicate}
use Rattle.std.specs.Prelude.{codes, ℤ}
use Rattle.std.specs.Fmt.{decimal}
use Rattle.std.specs.List.{flat_map}
use Rattle.std.specs.Ordering.{is_lt, nat_cmp, ordering_then}
use Rattle.std.specs.Str.{IsUtf8, chars}
use Rattle.std.specs.declared.cmp.Ordering.{Ordering}
use Rattle.std.specs.Cmp.Lexicographic.{slice_cmp}
use Rattle.isad_core.specs.Days.{day_text}
use Rattle.isad_core.specs.Texts.{Bytes, one_line}
use Rattle.desk_core.specs.declared.run.Candidate.{Candidate}
use Rattle.desk_core.specs.Orders.{in_order}

-- ---- the order of the lines

-- by bytes: the first difference decides, and if one text is a prefix of the other, the shorter comes first
abbrev pub bytes_order : Bytes → Bytes → Ordering
bytes_order = slice_cmp nat_cmp

-- by location, name and kind, compared as stored, then by the container's number
abbrev pub shelf_order : Candidate → Candidate → Ordering
shelf_order a b =
    ordering_then (bytes_order a.location b.location)
    (ordering_then (bytes_order a.name b.name)
    (ordering_then (bytes_order a.kind b.kind)
    (nat_cmp a.container b.container)))

abbrev pub is_shelved_before : Candidate → Candidate → Bool
is_shelved_before a b = is_lt (shelf_order a b)

-- ---- columns

-- a byte that begins a character (UTF-8, RFC 3629, section 3)
abbrev pub begins_character : ℕ → Bool
begins_character b = nat_lt b 128 || nat_le 192 b

abbrev pub characters : Bytes → ℕ
characters text = length (filter begins_character text)

-- spaces that pad a text to `places` characters; none for a longer text, which is not cut
abbrev pub spaces : ℕ → Bytes → Bytes
spaces places text = replicate (places - characters text) 32

abbrev pub at_left : ℕ → Bytes → Bytes
at_left places text = text ++ spaces places text

abbrev pub at_right : ℕ → Bytes → Bytes
at_right places text = spaces places text ++ text

-- ---- the slip

abbrev pub slip_head : ℕ → ℤ → Bytes
slip_head run day = codes "Run " ++ decimal run ++ codes "  " ++ day_text day ++ 10 ∷ []

-- container, order and ticket, to the end of the line
abbrev pub slip_numbers : Candidate → Bytes
slip_numbers c =
    32 ∷ at_right 6 (decimal c.container)
    ++ 32 ∷ at_right 8 (decimal c.order)
    ++ 32 ∷ at_right 7 (decimal c.ticket) ++ 10 ∷ []

abbrev pub slip_line : Candidate → Bytes
slip_line c =
    at_left 20 (one_line c.location) ++ 32 ∷ at_left 16 (one_line c.name) ++ slip_numbers c

abbrev pub slip : ℕ → ℤ → List Candidate → Bytes
slip run day candidates =
    slip_head run day ++ flat_map slip_line (in_order is_shelved_before candidates)

-- a text has as many characters as Unicode scalar values
abbrev pub CountsCharacters : Type 0
CountsCharacters = (text : Bytes) → IsUtf8 text → characters text ≡ length (chars text)

-- on one line, it has as many as remain when a carriage return and a line feed together count as one
abbrev pub CountsPrintedCharacters : Type 0
CountsPrintedCharacters =
    (text : Bytes) → IsUtf8 text → characters (one_line text) ≡ length (one_line (chars text))
