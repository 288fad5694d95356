use Rattle.std.proofs.Common.{◌≡◌, ◌<◌, cond, [], ◌∷◌, ◌++◌, get_or, length, sym, ap, ◌∙◌, arith}
use Rattle.refinement.proofs.Doings.{tells_full}
use Rattle.access.proofs.Common.{ContainerOrder, append-nil, filter_more, get_or_default, looks_then, open_ones, opens}
use Rattle.access.proofs.Common.{take_all}
use Rattle.access.proofs.Learned.{ends_so, fault_later, learned_more, learned_nothing, learned_so}
use Rattle.access.proofs.openness.open_today.Goals.{then-branch+in_ok-push, else-branch}
use Rattle.access.proofs.openness.open_today.Goals as goal

pub loop-order-init : goal.loop-order-init
loop-order-init g c = learned_nothing (λ _ s judged day known. c.new-open.ensures.items)

pub returns-in_err-is_open_today : goal.returns-in_err-is_open_today
returns-in_err-is_open_today g c = record {
  answers = fault_later c.from_residual.ensures c.loop-order.invariant.looks c.in_err-is_open_today.ensures.answers;
}

pub returns-in_err-push : goal.returns-in_err-push
returns-in_err-push g c = record {
  answers = tells_full c.from_residual-in_err-push.ensures (looks_then c.loop-order.invariant.looks c.in_ok-is_open_today.ensures.answers.looks);
}

pub loop-order-preserved : goal.loop-order-preserved
loop-order-preserved g c =
    let orders = c.args.orders.now in
    let i = c.loop-order.order-index in
    let none : ContainerOrder = record { container = 0; order = 0; ticket = 0 } in
    let x = get_or orders i none in
    let low : i < length orders = c.loop-order-test.true in
    let item : c.order-item.result ≡ x = c.order-item.is ∙ get_or_default orders i c.order-item.result none low in
    let so_far = c.loop-order.open.items in
    learned_so (learned_more c.loop-order.invariant c.in_ok-is_open_today.ensures.answers) (λ _ s so judged day known.
    let test = λ (o : ContainerOrder). opens s o.ticket o.container in
    let is : c.in_ok-is_open_today.field-0 ≡ test x = so.now judged day known ∙ ap test item in
    let added = ap (λ l. l ++ cond (test x) (x ∷ []) []) (so.before judged day known) ∙ sym (filter_more test orders i none low) in
    elim c.if-branch.branch [
      | then-branch+in_ok-push v ↦ ap (λ l. l.items) v.open-is ∙ v.in_ok-push.ensures.items
          ∙ ap (λ (o : ContainerOrder). so_far ++ o ∷ []) item
          ∙ ap (λ b. so_far ++ cond b (x ∷ []) []) (sym v.if-branch.true ∙ is) ∙ added
      | else-branch v ↦ ap (λ l. l.items) v.open-is ∙ sym (append-nil so_far) ∙ ap (λ b. so_far ++ cond b (x ∷ []) []) (sym v.if-branch.false ∙ is) ∙ added
    ])

pub returns : goal.returns
returns g c =
    record {
      answers = ends_so c.loop-order.invariant (λ _ s so judged day known.
          so judged day known ∙ ap (open_ones s) (take_all c.loop-order.order-index c.args.orders.now (omega (arith, c.loop-order-test.false))));
    }
