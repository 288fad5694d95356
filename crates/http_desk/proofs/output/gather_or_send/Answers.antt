use Rattle.std.proofs.Common.{◌≡◌, ◌++◌, length, refl, sym, ap, ◌∙◌, subst, append-nil, append_assoc, length-append}
use Rattle.std.proofs.Common.{arith}
use Rattle.http_desk.proofs.Common.{Appends, Appends-trans}
use Rattle.http_desk.proofs.Sends.{quiet_all}
use Rattle.http_desk.proofs.output.gather_or_send.Goals as goal

pub returns-in-All-clause-all : goal.returns-in-All-clause-all
returns-in-All-clause-all g c = λ e.
    let lot = c.args.lot.now.items in
    let piece = c.args.piece.now in
    let held : c.as_slice.result.now ≡ lot = c.as_slice.ensures.value ∙ ap (λ l. l.items) c.in-Err.ensures.err in
    let first = subst (λ l. Appends c.args.writer.now.bytes c.send_piece.new.writer.bytes l) held (c.in-All.ensures.all refl) in (
      lot ++ piece,
      sym (append-nil (lot ++ piece)) ∙ ap (λ l. (lot ++ piece) ++ l) (sym c.clear.ensures),
      Appends-trans _ _ _ _ _ first (c.send_piece-in-All.ensures.all e),
      λ q.
          let (before, here) = c.send_piece-in-All.ensures.calls.bound q in
          let a = quiet_all c.send_piece-in-All.result _ _ _ e here in
          let b = (c.in-All.ensures.calls.bound before).1 in
          let l = ap length held in
          omega (arith, length-append lot piece),
    )

pub returns-in-All-clause-front : goal.returns-in-All-clause-front
returns-in-All-clause-front g c =
    let lot = c.args.lot.now.items in
    let held : c.as_slice.result.now ≡ lot = c.as_slice.ensures.value ∙ ap (λ l. l.items) c.in-Err.ensures.err in
    let first = subst (λ l. Appends c.args.writer.now.bytes c.send_piece.new.writer.bytes l) held (c.in-All.ensures.all refl) in
    let (front, (rest, e), added) = c.send_piece-in-All.ensures.front in
    (lot ++ front, (rest, ap (λ l. lot ++ l) e ∙ sym (append_assoc lot front rest)), Appends-trans _ _ _ _ _ first added)
