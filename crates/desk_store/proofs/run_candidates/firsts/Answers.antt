use Rattle.std.proofs.Common.{cond, not, nat_eq, ◌||◌, [], ◌∷◌, ◌++◌, ap, sym, ◌∙◌}
use Rattle.std.specs.Prelude.{get_or}
use Rattle.desk_store.proofs.Common.{ContainerOrder, append-nil, is_earliest, list_any}
use Rattle.desk_store.proofs.PickingLists.{met_more, is_picked, kept_more}
use Rattle.desk_store.proofs.run_candidates.firsts.Goals.{then-branch+in_ok-push, else-branch}
use Rattle.desk_store.proofs.run_candidates.firsts.Goals as goal

pub loop-order-preserved : goal.loop-order-preserved
loop-order-preserved c =
    let orders = c.args.orders.now in
    let i = c.loop-order.order-index in
    let low = c.loop-order-test.true in
    let none : ContainerOrder = c.order-item.result in
    let is = c.order-item.is in
    let x = get_or orders i none in
    let done = c.loop-order.firsts.items in
    let met = c.loop-order.invariant.met in
    let kept = rw c.get.ensures.same at c.in_ok-keep.ensures.kept in
    let new = rw c.get.ensures.same at c.in_ok-keep.ensures.new in
    record {
      met = λ n. met_more orders i none n _ _ low (met n) (kept n ∙ ap (λ (o : ContainerOrder). nat_eq n o.container || list_any (nat_eq n) c.loop-order.known.keys) is);
      so_far = λ up.
          let so = c.loop-order.invariant.so_far up in
          let picked = sym (is_picked c.loop-order.known.keys orders i none up low (met x.container)) ∙ sym (new ∙ ap (λ (o : ContainerOrder). not (list_any (nat_eq o.container) c.loop-order.known.keys)) is) in
          let more = kept_more (λ (o : ContainerOrder). is_earliest o orders) orders i none done low so in
          elim c.if-branch.branch [
            | then-branch+in_ok-push w ↦ ap (λ v. v.items) w.firsts-is ∙ w.in_ok-push.ensures.items ∙ ap (λ (o : ContainerOrder). done ++ o ∷ []) is ∙ ap (λ b. done ++ cond b (x ∷ []) []) (sym (picked ∙ w.if-branch.true)) ∙ more
            | else-branch w ↦ ap (λ v. v.items) w.firsts-is ∙ sym (append-nil done) ∙ ap (λ b. done ++ cond b (x ∷ []) []) (sym (picked ∙ w.if-branch.false)) ∙ more
          ];
    }
