use Rattle.std.proofs.Common.{◌<◌, length, arith, []}
use Rattle.std.proofs.lemmas.List.Folds.{length-flat_map-take}
use Rattle.http_desk.proofs.output.length_of.Goals as goal

pub overflow_add-length : goal.overflow_add-length
overflow_add-length c =
    let h : c.loop-piece.piece-index < length c.args.pieces.now = omega arith in
    omega (arith, length-flat_map-take (λ p. p.now) c.args.pieces.now c.loop-piece.piece-index (record { ref_ptr = (0, 0); now = [] }) h)
