use Rattle.program.proofs.commands.init.Goals as goal

pub returns-in-Ok-clause-done : goal.returns-in-Ok-clause-done
returns-in-Ok-clause-done g c = record {
  office = c.in-Ok.office;
  represents = c.in-Ok.ensures.founded;
  kept = c.in-Ok.ensures.kept;
  left = c.close_office.ensures;
}

pub returns-in-Err-clause-fault : goal.returns-in-Err-clause-fault
returns-in-Err-clause-fault g c = c.in-Err.ensures.fault
