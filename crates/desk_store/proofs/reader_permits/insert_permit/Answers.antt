use Rattle.std.proofs.Common.{refl}
use Rattle.desk_store.proofs.Common.{PermitRow, known_change, puts_numbered}
use Rattle.desk_store.proofs.PermitRows.{insert_permit_means, insert_permit_puts, insert_permit_faults}
use Rattle.desk_store.proofs.reader_permits.insert_permit.Goals as goal

pub change-requires : goal.change-requires
change-requires g c = known_change (insert_permit_means g.P.Versioned.version) refl

pub returns : goal.returns
returns g c =
    let p : PermitRow = record { ticket = c.args.ticket; unit = c.args.unit; until = c.args.until } in
    puts_numbered g.P.Versioned.version c.change.ensures.leaves (rw (c.cell.ensures, c.cell-2.ensures, c.day.ensures) at c.change.ensures.ran)
    (λ v has ran. insert_permit_puts _ _ p v has c.change.result ran)
    (λ v has ran ps shown room free. insert_permit_faults _ _ p v has ps shown room.0 room.1 free c.change.ensures.live c.change.result ran)
