use Rattle.std.proofs.Common.{◌≡◌, ap, arith, length, ◌∙◌}
use Rattle.desk_store.proofs.ToldCalls.{ends_well, shown_on}
use Rattle.desk_commands.proofs.Common.{RepresentsWhole, early, is_on_shelf, looks_nowhere, looks_then, on_shelf}
use Rattle.desk_commands.proofs.Common.{tables, take_rest, tells_passed_later}
use Rattle.desk_commands.proofs.Fetched.{found_enough, found_later}
use Rattle.desk_commands.proofs.OneStep.{both_told}
use Rattle.desk_commands.proofs.run_creation.first_open.Goals as goal

pub returns-in_err-near : goal.returns-in_err-near
returns-in_err-near g c =
    let v = g.P.Versioned.version in
    let told = c.in_err-near.ensures.answers in
    record { answers = tells_passed_later _ c.from_residual.ensures looks_nowhere told.aborts (λ beside s it may judged. told.faults tt (tables v s).desk it.desk tt (judged.desk v)) }

pub returns-in_err-found : goal.returns-in_err-found
returns-in_err-found g c =
    let told = c.in_err-found.ensures.answers in
    record { answers = tells_passed_later _ c.from_residual-in_err-found.ensures c.in_ok-near.ensures.answers.looks told.aborts (λ beside s it may judged. told.faults tt s it tt judged) }

pub returns-in_err-far : goal.returns-in_err-far
returns-in_err-far g c =
    let v = g.P.Versioned.version in
    let told = c.in_err-far.ensures.answers in
    let looked = looks_then c.in_ok-near.ensures.answers.looks c.in_ok-found.ensures.answers.looks in
    record { answers = tells_passed_later _ c.from_residual-in_err-far.ensures looked told.aborts (λ beside s it may judged. told.faults tt (tables v s).desk it.desk tt (judged.desk v)) }

pub returns-then-len-most : goal.returns-then-len-most
returns-then-len-most g c =
    let v = g.P.Versioned.version in
    let shelved = c.in_ok-near.ensures.answers.call in
    let told = c.in_ok-found.ensures.answers in
    record {
      answers = ends_well (looks_then shelved.looks told.looks) _ (λ clean s it judged day known.
          let first = both_told shelved told clean s it in
          let found = first.1 judged day known in
          let many : length c.in_ok-found.found.items ≡ c.args.most = omega (arith, c.if-len-most.true) in
          found_enough s (λ o. is_on_shelf (tables v s).desk o.container) c.args.most c.min-end.result c.args.waiting.now (c.deref.ensures.value ∙ first.0) found many);
    }

pub returns-in_err-due : goal.returns-in_err-due
returns-in_err-due g c =
    let told = c.in_err-due.ensures.answers in
    let looked = looks_then (looks_then c.in_ok-near.ensures.answers.looks c.in_ok-found.ensures.answers.looks) c.in_ok-far.ensures.answers.looks in
    record { answers = tells_passed_later _ c.from_residual-in_err-due.ensures looked told.aborts (λ beside s it may judged. told.faults tt s it tt judged) }

pub returns : goal.returns
returns g c =
    let v = g.P.Versioned.version in
    let shelved = c.in_ok-near.ensures.answers.call in
    let told = c.in_ok-found.ensures.answers in
    let others = c.in_ok-far.ensures.answers.call in
    let last = c.in_ok-due.ensures.answers in
    let until_d = looks_then shelved.looks told.looks in
    record {
      answers = ends_well (looks_then (looks_then until_d others.looks) last.looks) _ (λ clean s it judged day known.
          let at_d = early others.looks.goes.on.crash (early last.looks.goes.on.crash clean) in
          let first = both_told shelved told at_d s it in
          let later = both_told others last clean s (shown_on (RepresentsWhole g.P.Places.represents v) until_d at_d s it) in
          let far = c.deref-2.ensures.value ∙ later.0 ∙ ap (on_shelf (tables v s).desk) (take_rest c.args.waiting.now c.min-end.result) in
          let found = first.1 judged day known in
          found_later s (λ o. is_on_shelf (tables v s).desk o.container) c.args.most c.min-end.result c.args.waiting.now (c.deref.ensures.value ∙ first.0) found far (later.1 judged day known));
    }
