-- what came stands in the buffer; what was seen of it ends no head; and where no call was interrupted, each turn brought a byte
use Rattle.std.proofs.Common.{◌≡◌, ◌+◌, ◌-◌, ◌≤◌, false, length, take}
use Rattle.http_messages.specs.HeadScan.{scan}
use Rattle.http_desk.proofs.Common.{Open, ReadsIntoBuffer, TakesTurns, longest_head}
use Rattle.http_desk.proofs.message_input.gather_head.Given as goal

abbrev pub invariant-loop-size : goal.invariant-loop-size
invariant-loop-size g l = record {
  came : ReadsIntoBuffer l.initial.reader.bytes l.reader.bytes l.initial.buffer.items l.buffer.items;
  few : l.seen ≤ length l.buffer.items;
  short : l.seen ≤ longest_head;
  led : scan (take l.seen l.buffer.items) ≡ Open l.led;
  failed : l.reader.failed ≡ l.initial.reader.failed;
  bound : l.reader.interrupted ≡ false → (l.initial.reader.interrupted ≡ false) × (l.initial.reader.turns + length l.initial.buffer.items ≤ l.reader.turns + length l.buffer.items);
  calls : TakesTurns l.initial.reader l.reader;
}

abbrev pub decreases-loop-size : goal.decreases-loop-size
decreases-loop-size g l = longest_head - length l.buffer.items
