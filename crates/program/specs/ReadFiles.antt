-- The file that a command reads.
use Rattle.std.specs.Prelude.{◌≡◌, Option, Some, None}
use Rattle.isad_core.specs.Texts.{Bytes}
use Rattle.clap.specs.Walk.{Text}
use Rattle.program.specs.declared.files.Reading.{Reading}

-- the path of the file, if there is one
abbrev pub path_of : Option Reading → Option Text
path_of None = None
path_of (Some reading) = Some reading.path.now

-- these are all the bytes that a reader had left, where that is known
abbrev pub AreAllOf : Option Bytes → Bytes → Type 0
AreAllOf None bytes = Unit {0}
AreAllOf (Some left) bytes = bytes ≡ left
