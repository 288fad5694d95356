-- of the pieces so far, what is no longer gathered is written, and where no call was interrupted in no more turns than bytes
use Rattle.std.proofs.Common.{◌≡◌, ◌+◌, ◌≤◌, ◌++◌, ℕ, List, take, length, false}
use Rattle.http_desk.proofs.Common.{Appends, flat_map}
use Rattle.http_desk.proofs.Sends.{SendsSoFar}
use Rattle.http_desk.proofs.output.send.Given as goal

abbrev pub invariant-loop-piece : goal.invariant-loop-piece
invariant-loop-piece g l = record {
  came : (written : List ℕ) × (flat_map (λ p. p.now) (take l.piece-index l.pieces) ≡ written ++ l.lot.items)
      × Appends l.initial.writer.bytes l.writer.bytes written
      × (l.writer.interrupted ≡ false → length (flat_map (λ p. p.now) l.pieces) + 16 ≤ l.writer.turns + length written);
  so_far : SendsSoFar (flat_map (λ p. p.now) l.pieces) l.initial.writer l.writer;
}
