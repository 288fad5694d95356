-- nothing is written, and each turn was a call that did not fail
use Rattle.std.proofs.Common.{◌≡◌, ◌+◌, []}
use Rattle.program.proofs.Common.{Appends, HaveMade}
use Rattle.program.proofs.streams.flush.Given as goal

abbrev pub invariant-loop-flush : goal.invariant-loop-flush
invariant-loop-flush g l = record {
  nothing : Appends l.initial.writer.bytes l.writer.bytes [];
  made : HaveMade l._flush l.initial.writer l.writer;
  good : l.writer.failed ≡ l.initial.writer.failed;
  turns : l.writer.turns + l._flush ≡ 4294967295;
}
