use Rattle.std.proofs.Common.{take, ◌+◌, ◌++◌, [], ◌∷◌, sym, subst}
use Rattle.std.specs.Prelude.{get_or, List}
use Rattle.desk_core.specs.declared.run.Candidate.{Candidate}
use Rattle.desk_store.proofs.Common.{AllZip, ContainerOrder, IsKnownLine, IsToldLine, RepresentsQueues, all_has, early}
use Rattle.desk_store.proofs.Common.{has_at, looks_then, same_fault, take_more}
use Rattle.desk_store.proofs.BroughtRows.{zip_more}
use Rattle.desk_store.proofs.ToldCalls.{shown_on}
use Rattle.desk_store.proofs.TellingCalls.{ends_not, ends_full}
use Rattle.desk_store.proofs.run_lines.candidates_of.Goals as goal

pub returns-in_err-candidate : goal.returns-in_err-candidate
returns-in_err-candidate g c =
    let lines = c.args.lines.now in
    let i = c.loop-line.line-index in
    let none : ContainerOrder = c.line-item.result in
    record { answers = ends_not c.loop-line.invariant.looks c.in_err-candidate.ensures.answers.aborts c.in_err-candidate.ensures.answers.spares (λ s shown may kept. c.in_err-candidate.ensures.answers.faults tt s shown (subst (λ (l : ContainerOrder). IsKnownLine l s) (sym c.line-item.is) (all_has (λ l. IsKnownLine l s) lines (get_or lines i none) may (has_at lines i none c.loop-line-test.true))) kept) (same_fault c.from_residual.ensures) }

pub returns-in_err-push : goal.returns-in_err-push
returns-in_err-push g c = record { answers = ends_full (looks_then c.loop-line.invariant.looks c.in_ok-candidate.ensures.answers.looks) (same_fault c.from_residual-in_err-push.ensures) }

pub loop-line-preserved : goal.loop-line-preserved
loop-line-preserved g c =
    let last = c.in_ok-candidate.ensures.answers.looks in
    let looked = c.loop-line.invariant.looks in
    let lines = c.args.lines.now in
    let i = c.loop-line.line-index in
    let none : ContainerOrder = c.line-item.result in
    record {
      looks = looks_then looked last;
      so_far = λ clean s shown.
          let before = early last.goes.on.crash clean in
          let told = c.in_ok-candidate.ensures.answers.answers clean tt s (shown_on RepresentsQueues looked before s shown) in
          let more = zip_more (IsToldLine s) (take i lines) c.loop-line.told.items (get_or lines i none) c.in_ok-candidate.candidate (c.loop-line.invariant.so_far before s shown) (subst (λ (l : ContainerOrder). IsToldLine s l c.in_ok-candidate.candidate) c.line-item.is told) in
          subst (λ (ys : List Candidate). AllZip (IsToldLine s) (take (i + 1) lines) ys) (sym c.in_ok-push.ensures.items)
          (subst (λ (xs : List ContainerOrder). AllZip (IsToldLine s) xs (c.loop-line.told.items ++ c.in_ok-candidate.candidate ∷ [])) (sym (take_more lines i none c.loop-line-test.true)) more);
    }
