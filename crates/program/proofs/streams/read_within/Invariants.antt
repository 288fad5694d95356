-- what is gone from the reader stands in `bytes`, and each turn was a call that did not fail
use Rattle.std.proofs.Common.{◌≡◌, ◌+◌}
use Rattle.program.proofs.Common.{Consumes, HaveMade}
use Rattle.program.proofs.streams.read_within.Given as goal

abbrev pub invariant-loop-read : goal.invariant-loop-read
invariant-loop-read g l = record {
  came : Consumes l.initial.reader.bytes l.reader.bytes l.bytes.items;
  made : HaveMade l._read l.initial.reader l.reader;
  good : l.reader.failed ≡ l.initial.reader.failed;
  turns : l.reader.turns + l._read ≡ 4294967295;
}
