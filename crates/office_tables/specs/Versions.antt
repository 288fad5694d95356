-- The versions of the file of an office. A version has a number, its tables, and a way to store the places of the units.
use Rattle.std.specs.Prelude.{ℕ}
use Rattle.tree_core.specs.Encodings.{TreeEncoding, Links, Spans}

pub data Version : Type 0 where
  First : Version
  Second : Version

-- the number in the row of the office
abbrev pub version_number : Version → ℕ
version_number First = 1
version_number Second = 2

-- the version of new files
abbrev pub newest : Version
newest = Second

-- how the places of the units are stored
abbrev pub encoding : Version → TreeEncoding
encoding First = Links
encoding Second = Spans
