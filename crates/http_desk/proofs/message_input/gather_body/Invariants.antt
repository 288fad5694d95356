-- what came stands in the buffer; and where no call was interrupted, each turn brought a byte
use Rattle.std.proofs.Common.{◌≡◌, ◌+◌, ◌-◌, ◌≤◌, false, length}
use Rattle.http_desk.proofs.Common.{ReadsIntoBuffer, TakesTurns}
use Rattle.http_desk.proofs.message_input.gather_body.Given as goal

abbrev pub invariant-loop-reader : goal.invariant-loop-reader
invariant-loop-reader g l = record {
  came : ReadsIntoBuffer l.initial.reader.bytes l.reader.bytes l.initial.buffer.items l.buffer.items;
  failed : l.reader.failed ≡ l.initial.reader.failed;
  bound : l.reader.interrupted ≡ false → (l.initial.reader.interrupted ≡ false) × (l.initial.reader.turns + length l.initial.buffer.items ≤ l.reader.turns + length l.buffer.items);
  calls : TakesTurns l.initial.reader l.reader;
}

abbrev pub decreases-loop-reader : goal.decreases-loop-reader
decreases-loop-reader g l = l.end - length l.buffer.items
