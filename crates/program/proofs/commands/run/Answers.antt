use Rattle.std.proofs.Common.{map}
use Rattle.program.proofs.Common.{channels, string_bytes}
use Rattle.program.proofs.PerformedLemmas.{task_failed, words_failed}
use Rattle.program.proofs.commands.run.Goals as goal

pub returns-in-Err-clause-fault : goal.returns-in-Err-clause-fault
returns-in-Err-clause-fault g c =
    let before = channels c.args.reader.now c.args.out.now (g.P.Port.history c.args.port.now) in
    words_failed _ _ (map string_bytes c.args.words.now) before _ c.in-Err.fault _ c.from.ensures c.in-Err.ensures.refused c.in-Err.ensures.values

pub returns-in-Ok-clause-fault : goal.returns-in-Ok-clause-fault
returns-in-Ok-clause-fault g c =
    let before = channels c.args.reader.now c.args.out.now (g.P.Port.history c.args.port.now) in
    let after = channels c.do_task.new.reader c.do_task.new.out (g.P.Port.history c.do_task.new.port) in
    task_failed _ _ (map string_bytes c.args.words.now) _ before after _ c.do_task.result.0 c.in-Ok.ensures.named c.do_task.ensures.fault
