-- What a reader of the records of a text has left to read.
use Rattle.std.specs.Prelude.{◌≡◌, ◌+◌, true, Option, Some, List, [], length}
use Rattle.std.specs.Borrow.{Bor}
use Rattle.std.specs.Option.{option_map_or}
use Rattle.std.specs.Str.{IsUtf8}
use Rattle.csv.specs.Reading.{Ready, default_config, is_flexible, reader_config, reader_state, reader_trim}
use Rattle.csv.specs.Reading.{records_from, source_of}
use Rattle.csv.specs.declared.reader.Reader.{Reader}
use Rattle.csv.specs.declared.reader.Trim.TheVariants as trim
use Rattle.isad_core.specs.Texts.{Bytes}

-- a reader of bytes in memory
abbrev pub Source : Type 0
Source = Reader (Bor Bytes)

-- the bytes that it has not read yet
abbrev pub unread_bytes : Source → Option Bytes
unread_bytes r = source_of (λ s. Some s.now) r

-- the records that it has not returned yet
abbrev pub rows_left : Source → List (List Bytes)
rows_left r = option_map_or (λ ys. records_from default_config (length ys + 1) (reader_state r) ys) (unread_bytes r) []

-- it reads a text with the crate's settings; records may differ in length, and none is a header
pub record IsReading (r : Source) : Type 0 where
  pub config : reader_config r ≡ default_config
  pub trim : reader_trim r ≡ trim.None
  pub ready : Ready r
  pub flexible : is_flexible r ≡ true
  pub text : Bytes
  pub source : unread_bytes r ≡ Some text
  pub utf8 : IsUtf8 text
