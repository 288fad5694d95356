use Rattle.std.proofs.Common.{rules}
use Rattle.program.proofs.Judgments.{no_memory}
use Rattle.program.proofs.commands.listen.Goals as goal

pub returns-in_err-line-clause-fault : goal.returns-in_err-line-clause-fault
returns-in_err-line-clause-fault g c = no_memory c.args.number _ _ _ c.from_residual.result c.from_residual.ensures.1 (search rules)
