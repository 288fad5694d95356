-- Rows that are counted.
use Rattle.std.specs.Prelude.{ℕ, min}

-- SQL counts up to the greatest i64
abbrev pub cap : ℕ → ℕ
cap n = min n 9223372036854775807
