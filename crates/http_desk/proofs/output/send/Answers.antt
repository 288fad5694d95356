use Rattle.std.proofs.Common.{◌<◌, ◌≤◌, ◌+◌, ◌++◌, arith, ap, sym, ◌∙◌, subst, refl, append-nil, length-append, []}
use Rattle.std.proofs.Common.{length}
use Rattle.http_desk.proofs.Common.{Appends, Appends-trans, IsFront, flat_map}
use Rattle.http_desk.proofs.Sends.{all_pieces, front_at_end, front_of_all, gathers, one_more, sends, sent_so, so_far_on}
use Rattle.http_desk.proofs.Sends.{turns_left, within}
use Rattle.http_desk.proofs.output.send.Goals as goal

pub loop-piece-preserved : goal.loop-piece-preserved
loop-piece-preserved g c =
    let (written, split, appended, quiet) = c.loop-piece.invariant.came in
    let (more, gathered, added, few) = c.in-All.ensures.all refl in
    let h : c.loop-piece.piece-index < length c.args.pieces.now = omega arith in
    record {
      came = (
        written ++ more,
        one_more (λ p. p.now) c.args.pieces.now c.loop-piece.piece-index _ h ∙ gathers _ written c.loop-piece.lot.items _ more c.gather_or_send.new.lot.items split gathered,
        Appends-trans _ _ _ _ _ appended added,
        λ q.
            let (before, here) = c.in-All.ensures.calls.bound q in
            let a = few q in
            let b = quiet before in
            omega (arith, length-append written more),
      );
      so_far = so_far_on c.loop-piece.invariant.so_far c.in-All.ensures.calls;
    }

pub returns-in_default : goal.returns-in_default
returns-in_default g c =
    let (written, split, appended, quiet) = rw c.begin_text.ensures at c.loop-piece.invariant.came in
    let (front, is_front, added) = c.gather_or_send.ensures.front in
    let h : c.loop-piece.piece-index < length c.args.pieces.now = omega arith in
    let all = front_of_all (λ p. p.now) c.args.pieces.now c.loop-piece.piece-index _ written c.loop-piece.lot.items front h split is_front in
    let few = within (λ p. p.now) c.args.pieces.now c.loop-piece.piece-index _ written c.loop-piece.lot.items h split in
    sent_so c.begin_text.ensures c.loop-piece.invariant.so_far c.gather_or_send.ensures.calls
    (λ q.
    let (before, here) = c.gather_or_send.ensures.calls.bound q in
    turns_left c.gather_or_send.result _ _ _ _ (length written) here (quiet before) few)
    (λ e. absurd (c.in_default.not-All e))
    (sends _ _ _ c.gather_or_send.result (λ e. absurd (c.in_default.not-All e)) (written ++ front, all, Appends-trans _ _ _ _ _ appended added))

-- a flush has turns left where no call was interrupted
pub returns-in-All-send_piece : goal.returns-in-All-send_piece
returns-in-All-send_piece g c =
    let (written, split, appended, quiet) = rw c.begin_text.ensures at c.loop-piece.invariant.came in
    let lot = c.as_slice.result.now in
    let e = sym (all_pieces (λ p. p.now) c.args.pieces.now c.loop-piece.piece-index c.loop-piece-test.false) ∙ split in
    let all = e ∙ ap (λ l. written ++ l) (sym c.as_slice.ensures.value) in
    let l = ap length e ∙ length-append written c.loop-piece.lot.items in
    let k = ap length c.as_slice.ensures.value in
    let added = subst (λ l. Appends c.args.writer.now.bytes c.flush.new.writer.bytes l) (append-nil (written ++ lot))
    (Appends-trans _ _ _ _ _ (Appends-trans _ _ _ _ _ appended (c.in-All-send_piece.ensures.all refl)) c.flush.ensures.nothing) in
    sent_so c.begin_text.ensures (so_far_on c.loop-piece.invariant.so_far c.in-All-send_piece.ensures.calls) c.flush.ensures.calls
    (λ q.
    let (before, here) = c.flush.ensures.calls.bound q in
    let (first, took) = c.in-All-send_piece.ensures.calls.bound before in
    let kept = quiet first in
    here (omega arith))
    c.flush.ensures.flushed
    (sends _ _ _ c.flush.result (λ s. subst (λ l. Appends c.args.writer.now.bytes c.flush.new.writer.bytes l) (sym all) added)
    (written ++ lot, ([], all ∙ sym (append-nil (written ++ lot))), added))

pub returns-in_default-send_piece : goal.returns-in_default-send_piece
returns-in_default-send_piece g c =
    let (written, split, appended, quiet) = rw c.begin_text.ensures at c.loop-piece.invariant.came in
    let (front, is_front, added) = c.send_piece.ensures.front in
    let lot = c.loop-piece.lot.items in
    let e = sym (all_pieces (λ p. p.now) c.args.pieces.now c.loop-piece.piece-index c.loop-piece-test.false) ∙ split in
    let here_front = subst (λ l. IsFront front l) c.as_slice.ensures.value is_front in
    let l = ap length e ∙ length-append written lot in
    let k = ap length c.as_slice.ensures.value in
    let most : length written + length c.as_slice.result.now ≤ length (flat_map (λ p. p.now) c.args.pieces.now) = omega arith in
    sent_so c.begin_text.ensures c.loop-piece.invariant.so_far c.send_piece.ensures.calls
    (λ q.
    let (before, here) = c.send_piece.ensures.calls.bound q in
    turns_left c.send_piece.result _ _ _ _ (length written) here (quiet before) most)
    (λ e. absurd (c.in_default-send_piece.not-All e))
    (sends _ _ _ c.send_piece.result (λ e. absurd (c.in_default-send_piece.not-All e))
    (written ++ front, front_at_end _ written lot front e here_front, Appends-trans _ _ _ _ _ appended added))
