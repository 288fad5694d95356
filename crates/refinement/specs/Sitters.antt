-- A reader of an office, in the form that the desk's decisions use.
use Rattle.std.specs.Prelude.{ℕ, Option, option_map}
use Rattle.desk_core.specs.declared.reader.Reader.{Reader as Sitter}
use Rattle.office_core.specs.State.{Reader, State, held_count, seat_of}
use Rattle.office_core.specs.Words.{nth}

abbrev pub sitter_of : State → ℕ → Reader → Sitter
sitter_of s t reader = record { ticket = t; until = reader.until; seat = seat_of s t; held = held_count s t }

-- the reader who has the ticket, or none if it was not given
abbrev pub sitter : State → ℕ → Option Sitter
sitter s t = option_map (sitter_of s t) (nth s.readers t)
