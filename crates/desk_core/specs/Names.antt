-- The names of readers.
use Rattle.std.specs.Prelude.{Bool, not, ◌&&◌, length, nat_eq, nat_le}
use Rattle.std.specs.List.{list_all}
use Rattle.isad_core.specs.Limits.{most_name_bytes}
use Rattle.isad_core.specs.Texts.{Bytes, is_blank_text}

-- a reader's name: 1 byte or more, and no more than it may have; not blank, without the control characters of ASCII
abbrev pub is_name : Bytes → Bool
is_name name =
    nat_le 1 (length name) && (nat_le (length name) most_name_bytes
    && (not (is_blank_text name) && list_all (λ b. nat_le 32 b && not (nat_eq b 127)) name))
