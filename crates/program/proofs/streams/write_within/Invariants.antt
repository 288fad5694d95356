-- what is gone from `rest` was written, and each turn was a call that did not fail
use Rattle.std.proofs.Common.{◌≡◌, ◌++◌, ◌+◌, ℕ, List}
use Rattle.program.proofs.Common.{Appends, HaveMade}
use Rattle.program.proofs.streams.write_within.Given as goal

abbrev pub invariant-loop-write : goal.invariant-loop-write
invariant-loop-write g l = record {
  came : (done : List ℕ) × (l.bytes ≡ done ++ l.rest) × Appends l.initial.writer.bytes l.writer.bytes done;
  made : HaveMade l.write l.initial.writer l.writer;
  good : l.writer.failed ≡ l.initial.writer.failed;
  turns : l.writer.turns + l.write ≡ 4294967295;
}
