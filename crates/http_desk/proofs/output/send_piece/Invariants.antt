-- what is gone from `rest` was written, and where no call was interrupted in no more turns than bytes
use Rattle.std.proofs.Common.{◌≡◌, ◌+◌, ◌≤◌, ℕ, List, ◌++◌, length, false}
use Rattle.http_desk.proofs.Common.{Appends, TakesTurns}
use Rattle.http_desk.proofs.output.send_piece.Given as goal

abbrev pub invariant-loop-rest : goal.invariant-loop-rest
invariant-loop-rest g l = record {
  gone : (done : List ℕ) × (l.piece ≡ done ++ l.rest) × Appends l.initial.writer.bytes l.writer.bytes done;
  failed : l.writer.failed ≡ l.initial.writer.failed;
  bound : l.writer.interrupted ≡ false → (l.initial.writer.interrupted ≡ false) × (l.initial.writer.turns + length l.rest ≤ l.writer.turns + length l.piece);
  calls : TakesTurns l.initial.writer l.writer;
}

abbrev pub decreases-loop-rest : goal.decreases-loop-rest
decreases-loop-rest g l = l.writer.turns
