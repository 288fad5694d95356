-- The names of sources.
use Rattle.std.specs.Prelude.{ℕ, Bool, ◌&&◌, ◌||◌, length, nat_eq, nat_le}
use Rattle.std.specs.List.{list_all}
use Rattle.isad_core.specs.Limits.{most_source_bytes}
use Rattle.isad_core.specs.Texts.{Bytes}
pub use Rattle.isad_core.specs.Words.{is_between}

-- an ASCII letter, a digit, a dot, an underscore or a hyphen
abbrev pub is_source_letter : ℕ → Bool
is_source_letter b =
    is_between 65 90 b || (is_between 97 122 b || (is_between 48 57 b || (nat_eq b 46 || (nat_eq b 95 || nat_eq b 45))))

-- the name of a source: one of these or more, and no more than it may have
abbrev pub is_source : Bytes → Bool
is_source source = nat_le 1 (length source) && (nat_le (length source) most_source_bytes && list_all is_source_letter source)
