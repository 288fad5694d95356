use Rattle.std.proofs.Common.{subst}
use Rattle.http_desk.specs.Exchanges.{Talks}
use Rattle.program.proofs.Common.{AgreesWithCalls, IfErr-weaker, on_ok_weaker}
use Rattle.program.proofs.sessions.talk_with.Goals as goal

pub returns-clause-done : goal.returns-clause-done
returns-clause-done g c = on_ok_weaker c.after.result (λ well. (c.talk.result, well, c.talk.ensures.streams, c.talk.ensures.session)) c.after.ensures.well

pub returns-clause-broken : goal.returns-clause-broken
returns-clause-broken g c =
    IfErr-weaker c.after.result _ _ (λ f (broken, is, ended). (
      broken,
      is,
      subst (AgreesWithCalls c.args.reader.now c.talk.new.reader c.args.out.now c.talk.new.writer) ended c.talk.ensures.streams,
      subst (λ e. Talks g.M.Machine.represents g.M.Machine.is_intact g.M.Machine.is_open g.M.Machine.recovers c.args.reader.now.bytes c.talk.new.reader.bytes c.args.out.now.bytes c.talk.new.writer.bytes c.args.office.now e c.talk.new.office) ended c.talk.ensures.session,
    )) c.after.ensures.broken
