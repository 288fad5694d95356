use Rattle.std.proofs.Common.{◌≡◌, ℕ, ◌<◌, zero, suc, get_or, List, [], ◌∷◌, ◌++◌, length, refl, ap, ◌∙◌, arith}
use Rattle.desk_store.proofs.Common.{RepresentsDeskAlone, early, list_any, looks_then, same_fault, waits_for}
use Rattle.desk_store.proofs.ReshelvingCalls.{told_more, told_whole}
use Rattle.desk_store.proofs.desk_containers.at_desk.Goals as goal
use Rattle.desk_store.proofs.ToldCalls.{shown_on}
use Rattle.desk_store.proofs.TellingCalls.{ends_full, ends_not, ends_well}

-- within a list the default does not matter
any_default : (xs : List ℕ) (i d e : ℕ) → i < length xs → get_or xs i d ≡ get_or xs i e
any_default [] i d e low = absurd (omega (arith, low))
any_default (x ∷ xs) zero d e low = refl
any_default (x ∷ xs) (suc i) d e low = any_default xs i d e (omega (arith, low))

pub returns-in_err-awaited : goal.returns-in_err-awaited
returns-in_err-awaited g c =
    record {
      answers = ends_not c.loop-container.invariant.looks c.in_err-awaited.ensures.answers.aborts c.in_err-awaited.ensures.answers.spares (λ d shown may kept clean.
          c.in_err-awaited.ensures.answers.faults tt d shown tt kept clean) (same_fault c.from_residual-in_err-awaited.ensures);
    }

pub returns-in_err-push : goal.returns-in_err-push
returns-in_err-push g c = record { answers = ends_full (looks_then c.loop-container.invariant.looks c.in_ok-awaited.ensures.answers.looks) (same_fault c.from_residual-in_err-push.ensures) }

pub loop-container-preserved : goal.loop-container-preserved
loop-container-preserved g c =
    let last = c.in_ok-awaited.ensures.answers.looks in
    let looked = c.loop-container.invariant.looks in
    record {
      looks = looks_then looked last;
      containers = λ clean desk shown. c.loop-container.invariant.containers (early last.goes.on.crash clean) desk shown;
      so_far = λ clean desk shown.
          let before = early last.goes.on.crash clean in
          let told = c.in_ok-awaited.ensures.answers.answers clean tt desk (shown_on RepresentsDeskAlone looked before desk shown) in
          let here = c.container-item.is ∙ any_default c.deref-container-items.result.now c.loop-container.container-index c.container-item.result 0 c.loop-container-test.true in
          c.in_ok-push.ensures.items
          ∙ ap (λ n. c.loop-container.told.items ++ (n, c.in_ok-awaited.awaited) ∷ []) here
          ∙ told_more desk.orders c.deref-container-items.result.now c.loop-container.container-index c.loop-container.told.items c.in_ok-awaited.awaited c.loop-container-test.true
          (c.loop-container.invariant.so_far before desk shown) (told ∙ ap (λ n. list_any (waits_for n) desk.orders) here);
    }

pub returns : goal.returns
returns g c =
    record {
      answers = ends_well c.loop-container.invariant.looks _ (λ clean desk shown.
          told_whole desk c.deref-container-items.result.now c.loop-container.container-index c.loop-container.told.items c.loop-container-test.false
          (c.loop-container.invariant.containers clean desk shown) (c.loop-container.invariant.so_far clean desk shown));
    }
