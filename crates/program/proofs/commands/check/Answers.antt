use Rattle.program.proofs.StoreLemmas.{check_done, check_failed}
use Rattle.program.proofs.commands.check.Goals as goal

pub returns-in-Ok-clause-done : goal.returns-in-Ok-clause-done
returns-in-Ok-clause-done g c = check_done _ _ c.args.finding.start c.in-Ok.files _ _ c.in-Ok.judged c.tell_judgment.result c.in-Ok.ensures.judged c.tell_judgment.ensures.done

pub returns-in-Ok-clause-fault : goal.returns-in-Ok-clause-fault
returns-in-Ok-clause-fault g c = check_failed _ _ c.args.finding.start c.in-Ok.files _ _ c.in-Ok.judged c.tell_judgment.result c.in-Ok.ensures.judged c.tell_judgment.ensures.fault
