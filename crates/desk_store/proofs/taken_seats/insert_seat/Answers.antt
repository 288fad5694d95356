use Rattle.std.proofs.Common.{refl}
use Rattle.desk_store.proofs.Common.{known_change, puts_row}
use Rattle.desk_store.proofs.SeatRows.{insert_seat_means, insert_seat_puts, insert_seat_faults}
use Rattle.desk_store.proofs.taken_seats.insert_seat.Goals as goal

pub change-requires : goal.change-requires
change-requires g c = known_change (insert_seat_means g.P.Versioned.version) refl

pub returns : goal.returns
returns g c =
    puts_row g.P.Versioned.version c.change.ensures.leaves (rw (c.cell.ensures, c.cell-2.ensures) at c.change.ensures.ran)
    (λ v has ran. insert_seat_puts _ _ (record { seat = c.args.seat; ticket = c.args.ticket }) v has c.change.result ran)
    (λ v has ran xs stored both free. insert_seat_faults _ _ (record { seat = c.args.seat; ticket = c.args.ticket }) v has xs stored both.0 both.1 free c.change.ensures.live c.change.result ran)
