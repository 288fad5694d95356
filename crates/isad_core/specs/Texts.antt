-- Texts as they are stored and as they are printed.
use Rattle.std.specs.Prelude.{ℕ, Bool, ◌==◌, ◌&&◌, ◌||◌, if◌then◌else◌, List, [], ◌∷◌, map}
use Rattle.std.specs.List.{list_all}

-- a text, as its bytes
abbrev pub Bytes : Type 0
Bytes = List ℕ

-- a carriage return or a line feed
abbrev pub is_line_break : ℕ → Bool
is_line_break b = (b == 13) || (b == 10)

-- a space, a tab, or a line break
abbrev pub is_space : ℕ → Bool
is_space b = (b == 32) || (b == 9) || is_line_break b

-- a text that contains nothing but spaces, tabs and line breaks
abbrev pub is_blank_text : Bytes → Bool
is_blank_text = list_all is_space

-- a carriage return followed by a line feed becomes one line break
abbrev pub single_breaks : Bytes → Bytes
single_breaks [] = []
single_breaks (a ∷ []) = a ∷ []
single_breaks (a ∷ b ∷ rest) =
    if (a == 13) && (b == 10) then 10 ∷ single_breaks rest else a ∷ single_breaks (b ∷ rest)

-- a line break is printed as a space
abbrev pub byte_or_space : ℕ → ℕ
byte_or_space b = if is_line_break b then 32 else b

-- a text as it is printed on one line
abbrev pub one_line : Bytes → Bytes
one_line text = map byte_or_space (single_breaks text)
