use Rattle.std.proofs.Common.{◌∙◌}
use Rattle.program.proofs.Judgments.{part_of_reply}
use Rattle.program.proofs.imports.tell_reply.Goals as goal

pub returns-in_err-write_line-in-Ok-clause-fault : goal.returns-in_err-write_line-in-Ok-clause-fault
returns-in_err-write_line-in-Ok-clause-fault g c =
    part_of_reply c.args.reply.done c.in-Ok.field-0 c.as_slice.result.now c.args.out.now c.write_line.new.writer c.from_residual.result
    c.in-Ok.is (c.as_slice.ensures ∙ c.requires) c.in_err-write_line-in-Ok.ensures.part c.from_residual.ensures.1
