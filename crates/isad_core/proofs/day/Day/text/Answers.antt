use Rattle.isad_core.proofs.DateLemmas.{day_of-day_text}
use Rattle.isad_core.proofs.day.Day.text.Goals as goal

pub returns-clause-reads_back : goal.returns-clause-reads_back
returns-clause-reads_back c = day_of-day_text c.args.self (rw c.self.view_is at c.self.invariant)
