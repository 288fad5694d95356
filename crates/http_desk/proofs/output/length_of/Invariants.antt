-- the bytes so far
use Rattle.std.proofs.Common.{◌≡◌, take, length}
use Rattle.http_desk.proofs.Common.{flat_map}
use Rattle.http_desk.proofs.output.length_of.Given as goal

abbrev pub invariant-loop-piece : goal.invariant-loop-piece
invariant-loop-piece l = l.length ≡ length (flat_map (λ p. p.now) (take l.piece-index l.pieces))
