-- Whether the rows of the readers can be a desk's, whatever their cells are.
use Rattle.std.specs.Prelude.{ℕ, suc, Bool, true, false, not, cond, Option, None, ◌&&◌, ◌||◌, List, [], ◌∷◌, Some}
use Rattle.std.specs.Prelude.{length, nat_eq, nat_le}
use Rattle.std.specs.List.{list_all}
use Rattle.std.specs.Option.{option_map_or}
use Rattle.sqlite.specs.Order.{Row, column}
use Rattle.sqlite.specs.Tree.{Trees}
use Rattle.isad_core.specs.Limits.{most_tickets}
use Rattle.isad_core.specs.Words.{are_numbered_from}
use Rattle.desk_core.specs.DeskCauses.{is_good_reader}
use Rattle.desk_core.specs.DeskRows.{ReaderRow}
use Rattle.office_tables.specs.Cells.{number_in, whole_in, text_in, from, has_unread}
use Rattle.office_tables.specs.DeskCells.{read_reader}
use Rattle.office_tables.specs.Schema as tables
use Rattle.row_decoding.specs.TableRows.{readers_in}

-- tickets are numbered from 1 on, are not too many, and each has a reader with a name and a last day of the calendar
abbrev pub are_registered_well : List ReaderRow → Bool
are_registered_well readers =
    are_numbered_from (λ (row : ReaderRow). row.ticket) 1 readers && (nat_le (length readers) most_tickets && list_all is_good_reader readers)

-- some row of a reader cannot be read, or no desk can have the rows
abbrev pub readers_are_defective : Trees → Bool
readers_are_defective db = has_unread read_reader (db tables.reader.tree) || not (are_registered_well (readers_in db))

-- how many there are, unless they are defective
abbrev pub number_registered : Trees → Option ℕ
number_registered db = cond (readers_are_defective db) None (Some (length (readers_in db)))

-- ---- as they are read: the ticket, the last day and the name

-- the row shows the reader with the ticket
abbrev pub is_reader_with : ℕ → ReaderRow → Bool
is_reader_with ticket row = nat_eq row.ticket ticket && is_good_reader row

abbrev pub is_reader_answer : ℕ → Row → Bool
is_reader_answer ticket row =
    option_map_or (is_reader_with ticket)
    (from (number_in (column row 0)) (λ ticket. from (whole_in (column row 1)) (λ until. from (text_in (column row 2)) (λ name.
    Some (record { ticket = ticket; name = name; until = until })))))
    false

-- the rows show the readers with the tickets from this on
abbrev pub are_reader_answers : ℕ → List Row → Bool
are_reader_answers ticket [] = true
are_reader_answers ticket (row ∷ rows) = is_reader_answer ticket row && are_reader_answers (suc ticket) rows
