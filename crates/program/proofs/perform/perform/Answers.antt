use Rattle.std.proofs.Common.{map}
use Rattle.program.proofs.Common.{channels, string_bytes}
use Rattle.program.proofs.PerformedLemmas.{performs_done, performs_fault}
use Rattle.program.proofs.perform.perform.Goals as goal
use Rattle.program.proofs.perform.perform.Goals.{in-Ok, in-Err+in-Refused-1, in-Err+in-Words-1, in-Err+in-NotSound-1}

pub returns-clause-performs : goal.returns-clause-performs
returns-clause-performs g c =
    let before = channels c.args.reader.now c.args.out.now (g.P.Port.history c.args.port.now) in
    let after = channels c.run-done.new.reader c.run-done.new.out (g.P.Port.history c.run-done.new.port) in
    elim c.match-done.branch [
      | in-Ok w ↦
          performs_done _ _ (map string_bytes c.args.words.now) before after c.args.err.now c.match-done.err c.run-done.result.1 c.match-done.status c.run-done.result.0
          w.in-Ok.field-0 w.in-Ok.is c.run-done.ensures.done w.status-is w.err-is
      | in-Err+in-Refused-1 w ↦
          performs_fault _ _ (map string_bytes c.args.words.now) before after c.args.err.now w.tell-status.new.err c.match-done.err c.run-done.result.1 c.match-done.status
          w.tell-status.result c.run-done.result.0 w.in-Err.fault w.in-Err.is c.run-done.ensures.fault w.status-is w.tell-status.ensures.status w.tell-status.ensures.told w.err-is
      | in-Err+in-Words-1 w ↦
          performs_fault _ _ (map string_bytes c.args.words.now) before after c.args.err.now w.tell-status.new.err c.match-done.err c.run-done.result.1 c.match-done.status
          w.tell-status.result c.run-done.result.0 w.in-Err.fault w.in-Err.is c.run-done.ensures.fault w.status-is w.tell-status.ensures.status w.tell-status.ensures.told w.err-is
      | in-Err+in-NotSound-1 w ↦
          performs_fault _ _ (map string_bytes c.args.words.now) before after c.args.err.now w.tell-status.new.err c.match-done.err c.run-done.result.1 c.match-done.status
          w.tell-status.result c.run-done.result.0 w.in-Err.fault w.in-Err.is c.run-done.ensures.fault w.status-is w.tell-status.ensures.status w.tell-status.ensures.told w.err-is
    ]
