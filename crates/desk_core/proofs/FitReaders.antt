-- Seats and permits as they are judged from the values at hand.
use Rattle.std.proofs.Common.{◌≡◌, ℕ, ◌≤◌, true, ◌&&◌, List, map, sym, ap, ◌∙◌, nat_eq, nat_le}
use Rattle.desk_core.specs.DeskCauses as causes
use Rattle.desk_core.specs.DeskRows as desk
use Rattle.desk_core.specs.declared.consistency.rows.PermitRow.{PermitRow}
use Rattle.desk_core.specs.declared.consistency.rows.SeatRow.{SeatRow}
use Rattle.desk_core.proofs.Common.{Around, Surrounds, Tally, and_parts, count_by, eqb_comm, is_between, is_day_number}
use Rattle.desk_core.proofs.Common.{is_fit_permit, is_fit_seat, leb-true, list_all, list_all-map, list_any}
use Rattle.desk_core.proofs.Common.{most_permits, permit_record, seat_record, times}
use Rattle.desk_core.proofs.Counts.{count_agree, count_map}
use Rattle.desk_core.proofs.NumberedRows.{has_number}
use Rattle.desk_core.proofs.Tests.{all_agree, and_same, and_then}

-- a ticket is registered where it is a number of a reader
pub registered : (s : Around) (a : causes.Around) (d : desk.Desk) → Surrounds s a d → (t : ℕ)
    → causes.is_registered d t ≡ is_between 1 s.readers t
registered s a d h t = has_number (λ (row : desk.ReaderRow). row.ticket) d.readers t h.tickets ∙ ap (λ n. is_between 1 n t) h.readers

pub seats_told : (s : Around) (a : causes.Around) (d : desk.Desk) (seats : List SeatRow) → Surrounds s a d
    → d.seats ≡ map seat_record seats → list_all (is_fit_seat s) seats ≡ list_all (causes.is_good_seat a d) d.seats
seats_told s a d seats h e =
    all_agree (is_fit_seat s) (λ row. causes.is_good_seat a d (seat_record row)) seats
    (λ row i. and_same (is_between 1 s.seats row.seat) (is_between 1 a.seats row.seat) (is_between 1 s.readers row.ticket) (causes.is_registered d row.ticket)
    (ap (λ n. is_between 1 n row.seat) (sym h.seats)) (sym (registered s a d h row.ticket)))
    ∙ sym (list_all-map (causes.is_good_seat a d) seat_record seats)
    ∙ ap (list_all (causes.is_good_seat a d)) (sym e)

pub permits_told : (s : Around) (a : causes.Around) (d : desk.Desk) (tally : Tally) (permits : List PermitRow)
    → Surrounds s a d → d.permits ≡ map permit_record permits
    → ((n : ℕ) → n ≤ s.readers → times tally n ≡ count_by (nat_eq n) (map (λ (row : PermitRow). row.ticket) permits))
    → list_all (is_fit_permit s tally) permits ≡ list_all (causes.is_good_permit a d) d.permits
permits_told s a d tally permits h e counts =
    all_agree (is_fit_permit s tally) (λ row. causes.is_good_permit a d (permit_record row)) permits
    (λ row i. and_then (is_between 1 s.readers row.ticket) (causes.is_registered d row.ticket) _ _ (sym (registered s a d h row.ticket))
    (λ given. and_same (list_any (nat_eq row.unit) s.units) (a.is_unit row.unit) _ _ (sym (h.units row.unit))
    (ap (λ n. is_day_number row.until && nat_le n most_permits) (many row.ticket given))))
    ∙ sym (list_all-map (causes.is_good_permit a d) permit_record permits)
    ∙ ap (list_all (causes.is_good_permit a d)) (sym e)
  where
    many : (t : ℕ) → is_between 1 s.readers t ≡ true
        → times tally t ≡ count_by (λ (other : desk.PermitRow). nat_eq other.ticket t) d.permits
    many t given =
        counts t (leb-true t s.readers (and_parts (nat_le 1 t) (nat_le t s.readers) given).1)
        ∙ count_map (nat_eq t) (λ (row : PermitRow). row.ticket) permits
        ∙ count_agree (λ (row : PermitRow). nat_eq t row.ticket) (λ (row : PermitRow). nat_eq row.ticket t) permits (λ row i. eqb_comm t row.ticket)
        ∙ sym (count_map (λ (other : desk.PermitRow). nat_eq other.ticket t) permit_record permits)
        ∙ ap (count_by (λ (other : desk.PermitRow). nat_eq other.ticket t)) (sym e)
