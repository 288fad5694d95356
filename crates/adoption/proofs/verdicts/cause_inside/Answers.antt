use Rattle.adoption.proofs.verdicts.cause_inside.Goals as goal

pub returns : goal.returns
returns g c = rw c.into_connection.ensures.same (rw c.inside-tables.ensures at c.least_cause-cause.ensures)
