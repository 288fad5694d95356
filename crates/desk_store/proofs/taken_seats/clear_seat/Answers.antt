use Rattle.std.proofs.Common.{refl}
use Rattle.desk_store.proofs.Common.{known_change, thins}
use Rattle.desk_store.proofs.SeatRows.{clear_seat_means, clear_seat_leaves, clear_seat_only, clear_seat_faults}
use Rattle.desk_store.proofs.taken_seats.clear_seat.Goals as goal

pub change-requires : goal.change-requires
change-requires g c = known_change (clear_seat_means g.P.Versioned.version) refl

pub returns : goal.returns
returns g c =
    thins g.P.Versioned.version c.change.ensures.leaves (rw c.cell.ensures at c.change.ensures.ran)
    (λ v has ran xs stored up. clear_seat_leaves _ _ c.args.seat v has c.change.result ran xs stored up)
    (λ v has ran. clear_seat_only _ _ c.args.seat v has c.change.result ran)
    (λ v has ran free. clear_seat_faults _ _ c.args.seat v has c.change.result ran free c.change.ensures.live)
