use Rattle.std.proofs.Common.{subst, true}
use Rattle.http_desk.proofs.Common.{SendsAsCalled, answer_text}
use Rattle.http_desk.proofs.Endings.{answer_bound, answer_told}
use Rattle.http_desk.proofs.session.refuse.Goals as goal

pub returns : goal.returns
returns g c =
    let writer = c.send_answer-sent.new.writer in
    let sent = c.send_answer-sent.result in
    let it = subst (λ a. SendsAsCalled (answer_text c.args.bare true a) c.args.writer.now writer sent) c.fixed_answer.ensures c.send_answer-sent.ensures in
    record {
      sent = (sent, it.sends, c.after.ensures);
      stream = answer_told true it c.after.ensures;
      used_up = answer_bound true it c.after.ensures;
    }
