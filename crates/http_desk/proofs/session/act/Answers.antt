use Rattle.std.proofs.Common.{refl, sym, arith}
use Rattle.http_desk.proofs.Common.{unwrap_or}
use Rattle.http_desk.proofs.Exchanges.{acts_so}
use Rattle.http_desk.proofs.Faults.{some_bound}
use Rattle.http_desk.proofs.Turns.{left_back}
use Rattle.http_desk.proofs.session.act.Goals as goal

pub returns : goal.returns
returns g c =
    let prepared = c.prepare-prepared.ensures in
    let reply = c.reply_or_refuse-next.ensures in
    let (turn, breaks_off) = acts_so g.M.Machine c.args.number c.args.size (unwrap_or c.args.head.length 0) c.view.result c.is_bare-bare.result
    c.is_closing-closing.result _ c.reply_or_refuse-next.new.writer c.reply_or_refuse-next.result c.requires.accepted c.requires.whole refl
    (rw c.deref.ensures.value at c.is_bare-bare.ensures) (sym c.is_closing-closing.ensures) prepared.machine c.view.ensures reply.sent reply.used_up in
    record {
      turn = turn _ (left_back c.prepare-prepared.result.answered _ _ _ prepared.left (grind arith));
      store = prepared.machine.store;
      stream = reply.stream;
      used_up = some_bound c.view.result _ _ c.reply_or_refuse-next.new.writer c.reply_or_refuse-next.result reply.used_up;
      breaks_off = breaks_off;
    }
