use Rattle.std.proofs.Common.{◌++◌, ◌∙◌, sym, take, length}
use Rattle.http_desk.proofs.Common.{Appends-trans}
use Rattle.http_desk.proofs.Faults.{one_more}
use Rattle.http_desk.proofs.Sends.{moves_front, shrinks}
use Rattle.http_desk.proofs.output.send_piece.Goals as goal

pub loop-rest-preserved-in-Ok : goal.loop-rest-preserved-in-Ok
loop-rest-preserved-in-Ok g c =
    let (done, split, appended) = c.loop-rest.invariant.gone in
    let rest = c.loop-rest.rest.now in
    let n = c.in-Ok.n in
    let (some, within, added) = c.in-Ok.ensures.took in
    record {
      gone = (done ++ take n rest, moves_front _ done rest n split, Appends-trans _ _ _ _ _ appended added);
      failed = c.in-Ok.ensures.failed ∙ c.loop-rest.invariant.failed;
      bound = λ q.
          let before = sym c.in-Ok.ensures.interrupted ∙ q in
          let (a, b) = c.loop-rest.invariant.bound before in
          (a, shrinks rest n c.args.writer.now.turns c.loop-rest.writer.turns c.write.new.self.turns (length c.args.piece.now) within some c.in-Ok.ensures.turns b);
      calls = one_more c.args.writer.now c.loop-rest.writer c.write.new.self c.loop-rest.invariant.calls c.in-Ok.ensures.same c.in-Ok.ensures.calls c.in-Ok.ensures.turns c.in-Ok.ensures.given;
    }
