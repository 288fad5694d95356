use Rattle.std.proofs.Common.{◌≡◌, cond, [], ◌∷◌, ◌++◌, get_or, sym, ap, ◌∙◌, arith, rules}
use Rattle.desk_store.proofs.Common.{ContainerOrder, RepresentsDeskAlone, append-nil, early, is_on_shelf, looks_nowhere}
use Rattle.desk_store.proofs.Common.{looks_then, on_shelf, same_fault, state, take_all}
use Rattle.desk_store.proofs.PickingCalls.{is_shelf, shelf_is}
use Rattle.desk_store.proofs.PickingLists.{kept_more}
use Rattle.desk_store.proofs.TellingCalls.{ends_full, ends_not, ends_well}
use Rattle.desk_store.proofs.ToldCalls.{shown_on}
use Rattle.desk_store.proofs.run_candidates.on_shelf_by_number.Goals.{then-eq+in_ok-push, else-eq}
use Rattle.desk_store.proofs.run_candidates.on_shelf_by_number.Goals as goal

pub returns-in_err-place_of : goal.returns-in_err-place_of
returns-in_err-place_of g c = record { answers = ends_not c.loop-order.invariant.looks c.in_err-place_of.ensures.answers.aborts c.in_err-place_of.ensures.answers.spares (λ d shown may kept. c.in_err-place_of.ensures.answers.faults tt d shown tt kept) (same_fault c.from_residual.ensures) }

pub returns-in_err-push : goal.returns-in_err-push
returns-in_err-push g c = record { answers = ends_full (looks_then c.loop-order.invariant.looks c.in_ok-place_of.ensures.answers.looks) (same_fault c.from_residual-in_err-push.ensures) }

pub loop-order-init : goal.loop-order-init
loop-order-init g c = record { looks = looks_nowhere; so_far = λ clean d shown. c.new-kept.ensures.items }

pub loop-order-preserved : goal.loop-order-preserved
loop-order-preserved g c =
    let b = state g.S.Store c.loop-order.tables in
    let told = c.in_ok-place_of.ensures.answers in
    let looked = c.loop-order.invariant.looks in
    record {
      looks = looks_then looked told.looks;
      so_far = λ clean d shown.
          let before = early told.looks.goes.on.crash clean in
          let orders = c.args.orders.now in
          let i = c.loop-order.order-index in
          let none : ContainerOrder = c.order-item.result in
          let x = get_or orders i none in
          let done = c.loop-order.kept.items in
          let place = c.in_ok-place_of.field-0 in
          let there = told.answers clean tt d (shown_on RepresentsDeskAlone looked before d shown) in
          let shelf : is_shelf place ≡ c.eq.result = search rules in
          let here = sym (ap (λ (o : ContainerOrder). is_on_shelf d o.container) c.order-item.is) ∙ sym (shelf_is c.order-item.result.container d.holdings place there) ∙ shelf in
          let more = kept_more (λ (o : ContainerOrder). is_on_shelf d o.container) orders i none done c.loop-order-test.true (c.loop-order.invariant.so_far before d shown) in
          elim c.if-eq.branch [
            | then-eq+in_ok-push w ↦
                ap (λ v. v.items) w.kept-is ∙ w.in_ok-push.ensures.items ∙ ap (λ (o : ContainerOrder). done ++ o ∷ []) c.order-item.is
                ∙ ap (λ b. done ++ cond b (x ∷ []) []) (sym (here ∙ w.if-eq.true)) ∙ more
            | else-eq w ↦
                ap (λ v. v.items) w.kept-is ∙ sym (append-nil done) ∙ ap (λ b. done ++ cond b (x ∷ []) []) (sym (here ∙ w.if-eq.false)) ∙ more
          ];
    }

pub returns : goal.returns
returns g c =
    record {
      answers = ends_well c.loop-order.invariant.looks _ (λ clean d shown.
          c.loop-order.invariant.so_far clean d shown ∙ ap (on_shelf d) (take_all c.loop-order.order-index c.args.orders.now (omega (arith, c.loop-order-test.false))));
    }
