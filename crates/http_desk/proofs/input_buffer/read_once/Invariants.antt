-- so far nothing came, and each turn was an interruption
use Rattle.std.proofs.Common.{◌≡◌, [], false}
use Rattle.http_desk.proofs.Common.{Consumes, TakesTurns}
use Rattle.http_desk.proofs.input_buffer.read_once.Given as goal

abbrev pub invariant-loop-reader : goal.invariant-loop-reader
invariant-loop-reader g l = record {
  nothing : Consumes l.initial.reader.bytes l.reader.bytes [];
  failed : l.reader.failed ≡ l.initial.reader.failed;
  bound : l.reader.interrupted ≡ false → (l.initial.reader.interrupted ≡ false) × (l.reader.turns ≡ l.initial.reader.turns);
  calls : TakesTurns l.initial.reader l.reader;
}

abbrev pub decreases-loop-reader : goal.decreases-loop-reader
decreases-loop-reader g l = l.reader.turns
