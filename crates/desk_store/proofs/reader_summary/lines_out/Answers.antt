use Rattle.desk_store.proofs.reader_summary.lines_out.Goals as goal

pub returns : goal.returns
returns g c = c.lines_in.ensures
