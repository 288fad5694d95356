-- Yes and no, as a table stores them.
use Rattle.std.specs.Prelude.{ℤ, pos, Bool, true, false}

abbrev pub flag : Bool → ℤ
flag true = pos 1
flag false = pos 0
