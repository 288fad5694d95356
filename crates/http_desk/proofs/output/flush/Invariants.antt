-- nothing is written, and each turn was an interruption
use Rattle.std.proofs.Common.{◌≡◌, [], false}
use Rattle.http_desk.proofs.Common.{Appends, TakesTurns}
use Rattle.http_desk.proofs.output.flush.Given as goal

abbrev pub invariant-loop-writer : goal.invariant-loop-writer
invariant-loop-writer g l = record {
  nothing : Appends l.initial.writer.bytes l.writer.bytes [];
  failed : l.writer.failed ≡ l.initial.writer.failed;
  bound : l.writer.interrupted ≡ false → (l.initial.writer.interrupted ≡ false) × (l.writer.turns ≡ l.initial.writer.turns);
  calls : TakesTurns l.initial.writer l.writer;
}

abbrev pub decreases-loop-writer : goal.decreases-loop-writer
decreases-loop-writer g l = l.writer.turns
