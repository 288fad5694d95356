use Rattle.std.proofs.Common.{ap, refl, rules, subst}
use Rattle.http_desk.specs.declared.session_end.Next.TheVariants.{Ends}
use Rattle.program.proofs.Common.{Appends, Connection, Consumes, IsHeard, calls_of, spent}
use Rattle.program.proofs.ServedLemmas.{failed_so, left_so, no_more_calls}
use Rattle.program.proofs.server.answer.Goals as goal

pub returns-clause-intact : goal.returns-clause-intact
returns-clause-intact g c = c.talk-ended.ensures.store.intact

pub returns-clause-answered : goal.returns-clause-answered
returns-clause-answered g c =
    let (read, written, gone, put, through) = c.talk-ended.ensures.session in
    let ends = c.talk-ended.ensures.streams in
    let reader = c.talk-ended.new.reader in
    let writer = c.talk-ended.new.writer in
    let it : Connection = record {
      left = g.P.Reader.Read.remaining c.args.connection.0;
      held = g.P.Writer.Write.contents c.args.connection.1;
      input = read;
      output = written;
      end = c.talk-ended.result;
      reader = spent reader.bytes (calls_of reader);
      writer = spent writer.bytes (calls_of writer);
    } in
    let heard : IsHeard it = record {
      read = subst (λ bytes. Consumes bytes reader.bytes read) c.new-source.ensures.bytes gone;
      written = subst (λ bytes. Appends bytes writer.bytes written) c.new-sink.ensures.bytes put;
      at_end = ends.at_end;
      read_fault = failed_so _ _ _ ends.reads c.new-source.ensures.uncalled.none_failed;
      write_fault = failed_so _ _ _ ends.writes c.new-sink.ensures.uncalled.none_failed;
      bound = λ p q e. (ends.turns p q).2 (ap Ends e);
      used_up = ends.used_up;
      flushed = ends.flushed c.new-sink.ensures.uncalled.none_waits;
      calls = no_more_calls _ _ _ ends.calls.1 c.new-source.ensures.uncalled.none_made;
    } in
    let told =
    left_so _ _ _ _ _ _ reader writer _ c.leave.ensures (search (rules, ends.calls.0)) (search (rules, ends.same)) c.told-reads.ensures c.told-writes.ensures in
    (it, refl, refl, heard, told, through)
