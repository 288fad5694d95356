use Rattle.std.proofs.Common.{refl}
use Rattle.desk_store.proofs.Common.{known_change, puts_row}
use Rattle.desk_store.proofs.ReaderRows.{insert_reader_means, insert_reader_puts, insert_reader_faults}
use Rattle.desk_store.proofs.readers.insert_reader.Goals as goal

pub change-requires : goal.change-requires
change-requires g c = known_change (insert_reader_means g.P.Versioned.version) refl

pub returns : goal.returns
returns g c =
    puts_row g.P.Versioned.version c.change.ensures.leaves (rw (c.cell.ensures, c.words.ensures, c.day.ensures) at c.change.ensures.ran)
    (λ v has ran. insert_reader_puts _ _ (record { ticket = c.args.ticket; name = c.args.name.now; until = c.args.until }) v has c.change.result ran)
    (λ v has ran xs stored none free. insert_reader_faults _ _ (record { ticket = c.args.ticket; name = c.args.name.now; until = c.args.until }) v has xs stored none free c.change.ensures.live c.change.result ran)
