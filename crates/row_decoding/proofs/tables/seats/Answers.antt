use Rattle.std.proofs.Common.{[], refl}
use Rattle.office_tables.specs.Schema as tables
use Rattle.row_decoding.proofs.Common.{in_any_order, read_seat, seat_in_answer, seat_record}
use Rattle.row_decoding.proofs.TableReads.{is_query, examines}
use Rattle.row_decoding.proofs.TableTexts.{seats_text, seats_terms, seats_names, seats_mean}
use Rattle.row_decoding.proofs.tables.seats.Goals as goal

pub read_rows-requires : goal.read_rows-requires
read_rows-requires g c = let v = g.P.Versioned.version in record { ours = is_query tables.seat seats_terms [] seats_names seats_text v (seats_mean v) }

pub returns : goal.returns
returns g c =
    let v = g.P.Versioned.version in
    examines tables.seat seats_terms [] seats_names seats_text v (seats_mean v) refl seat_record seat_in_answer read_seat in_any_order (λ _. refl) (λ a b. refl) c.read_rows.ensures.reads c.read_rows.ensures.ran
