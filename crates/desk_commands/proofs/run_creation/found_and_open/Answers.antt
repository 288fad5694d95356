use Rattle.std.proofs.Common.{◌<◌, ◌++◌, [], ◌∷◌, append-nil, cond, length, take, ap, sym, ◌∙◌, arith}
use Rattle.desk_store.proofs.ToldCalls.{ends_well, shown_on}
use Rattle.desk_commands.proofs.Common.{ContainerOrder, RepresentsWhole, early, looks_nowhere, looks_then, open_ones}
use Rattle.desk_commands.proofs.Common.{opens, take_all, tells_full, tells_passed_later}
use Rattle.desk_commands.proofs.Fetched.{enough_with, one_found}
use Rattle.desk_commands.proofs.run_creation.found_and_open.Goals.{then-loop-place-test+else-len-most}
use Rattle.desk_commands.proofs.run_creation.found_and_open.Goals.{else-loop-place-test, then-branch+in_ok-push}
use Rattle.desk_commands.proofs.run_creation.found_and_open.Goals.{else-branch}
use Rattle.desk_commands.proofs.run_creation.found_and_open.Goals as goal

pub loop-place-init : goal.loop-place-init
loop-place-init g c =
    record {
      looks = looks_nowhere;
      within = omega arith;
      so_far = λ clean s judged it day known. sym (append-nil c.args.first.items);
    }

pub returns-in_err-is_open_today : goal.returns-in_err-is_open_today
returns-in_err-is_open_today g c =
    let told = c.in_err-is_open_today.ensures.answers in
    record { answers = tells_passed_later _ c.from_residual.ensures c.loop-place.invariant.looks told.aborts (λ beside s it may judged. told.faults tt s it tt judged) }

pub returns-in_err-push : goal.returns-in_err-push
returns-in_err-push g c = record { answers = tells_full c.from_residual-in_err-push.ensures (looks_then c.loop-place.invariant.looks c.in_ok-is_open_today.ensures.answers.looks) }

pub loop-place-preserved : goal.loop-place-preserved
loop-place-preserved g c =
    let before = c.loop-place.invariant in
    let told = c.in_ok-is_open_today.ensures.answers in
    let waiting = c.args.waiting.now in
    let i = c.loop-place.place in
    let order = c.index-waiting-place.result in
    let low : i < length waiting = c.loop-place-test.true in
    record {
      looks = looks_then before.looks told.looks;
      within = omega (arith, low);
      so_far = λ clean s judged it day known.
          let at_b = early told.looks.goes.on.crash clean in
          let so = before.so_far at_b s judged it day known in
          let is = told.answers clean tt s (shown_on (RepresentsWhole g.P.Places.represents g.P.Versioned.version) before.looks at_b s it) judged day known in
          elim c.if-branch.branch [
            | then-branch+in_ok-push v ↦ one_found s c.args.first.items waiting i order low c.index-waiting-place.is c.in_ok-is_open_today.field-0 is so
                (ap (λ l. l.items) v.due-is ∙ v.in_ok-push.ensures.items ∙ ap (λ b. c.loop-place.due.items ++ cond b (order ∷ []) []) (sym v.if-branch.true))
            | else-branch v ↦ one_found s c.args.first.items waiting i order low c.index-waiting-place.is c.in_ok-is_open_today.field-0 is so
                (ap (λ l. l.items) v.due-is ∙ sym (append-nil c.loop-place.due.items) ∙ ap (λ b. c.loop-place.due.items ++ cond b (order ∷ []) []) (sym v.if-branch.false))
          ];
    }

pub returns : goal.returns
returns g c =
    let waiting = c.args.waiting.now in
    let place = c.loop-place.place in
    let most = c.args.most in
    let first = c.args.first.items in
    record {
      answers = ends_well c.loop-place.invariant.looks _ (λ clean s it judged day known.
          let test = λ (o : ContainerOrder). opens s o.ticket o.container in
          let so = c.loop-place.invariant.so_far clean s judged it day known in
          c.truncate.ensures.items ∙ ap (take most) so
          ∙ elim c.loop-place-test.branch [
            | then-loop-place-test+else-len-most w ↦
                let many = w.if-len-most.false in
                let long = ap length so in
                enough_with first test most place waiting (omega (arith, many, long))
            | else-loop-place-test w ↦
                let past = w.loop-place-test.false in
                ap (λ l. take most (first ++ open_ones s l)) (take_all place waiting (omega (arith, past)))
          ]);
    }
