-- What is printed has no line breaks.
use Rattle.std.proofs.Common.{◌≡◌, ℕ, Bool, true, false, [], ◌∷◌, map, refl, if◌then◌else◌}
use Rattle.isad_core.proofs.Common.{Bytes, byte_or_space, is_line_break, list_any}

a_space_or_itself : (b : ℕ) (breaks : Bool) → is_line_break b ≡ breaks
    → is_line_break (if breaks then 32 else b) ≡ false
a_space_or_itself b true e = refl
a_space_or_itself b false e = e

spaced-no_break : (b : ℕ) → is_line_break (byte_or_space b) ≡ false
spaced-no_break b = a_space_or_itself b (is_line_break b) refl

pub spaced-no_breaks : (text : Bytes) → list_any is_line_break (map byte_or_space text) ≡ false
spaced-no_breaks [] = refl
spaced-no_breaks (b ∷ text) = rw (spaced-no_break b) (spaced-no_breaks text)
