use Rattle.std.proofs.Common.{ℕ, Some, None, ap, sym, ◌∙◌, arith}
use Rattle.std.proofs.lemmas.Map.Keys.{sorted_from_strictly_increasing}
use Rattle.desk_store.proofs.ChosenLines.{found_line, lines_each}
use Rattle.desk_store.proofs.Common.{RepresentsDeskAlone, append-nil, early, filter_map, looks_nowhere, looks_then}
use Rattle.desk_store.proofs.Common.{same_fault, take_all}
use Rattle.desk_store.proofs.LoanCalls.{one_more}
use Rattle.desk_store.proofs.TellingCalls.{ends_full, ends_not, ends_well}
use Rattle.desk_store.proofs.ToldCalls.{shown_on}
use Rattle.desk_store.proofs.chosen_loans.lines_by_number.Goals.{in-Some+in_ok-push, in_default}
use Rattle.desk_store.proofs.chosen_loans.lines_by_number.Goals as goal

pub returns-in_err-line : goal.returns-in_err-line
returns-in_err-line g c = record { answers = ends_not c.loop-container.invariant.looks c.in_err-line.ensures.answers.aborts c.in_err-line.ensures.answers.spares (λ d shown may kept. c.in_err-line.ensures.answers.faults tt d shown tt kept) (same_fault c.from_residual.ensures) }

pub returns-in_err-push : goal.returns-in_err-push
returns-in_err-push g c = record { answers = ends_full (looks_then c.loop-container.invariant.looks c.in_ok-line.ensures.answers.looks) (same_fault c.from_residual-in_err-push.ensures) }

pub loop-container-init : goal.loop-container-init
loop-container-init g c = record { looks = looks_nowhere; so_far = λ clean d shown. c.new-lines.ensures.items }

pub loop-container-preserved : goal.loop-container-preserved
loop-container-preserved g c =
    let last = c.in_ok-line.ensures.answers.looks in
    let looked = c.loop-container.invariant.looks in
    record {
      looks = looks_then looked last;
      so_far = λ clean d shown.
          let before = early last.goes.on.crash clean in
          let told = c.in_ok-line.ensures.answers.answers clean tt d (shown_on RepresentsDeskAlone looked before d shown) in
          let done = c.loop-container.invariant.so_far before d shown in
          let ascending = c.args.ascending.now in
          let i = c.loop-container.container-index in
          let none : ℕ = c.container-item.result in
          let here = ap (found_line d.holdings) c.container-item.is in
          elim c.match-branch-2.branch [
            | in-Some+in_ok-push w ↦
                ap (λ v. v.items) w.lines-is ∙ w.in_ok-push.ensures.items
                ∙ one_more (found_line d.holdings) ascending i none c.loop-container.lines.items (Some w.in-Some.line) c.loop-container-test.true done (sym w.in-Some.is ∙ told ∙ here)
            | in_default w ↦
                ap (λ v. v.items) w.lines-is ∙ sym (append-nil c.loop-container.lines.items)
                ∙ one_more (found_line d.holdings) ascending i none c.loop-container.lines.items None c.loop-container-test.true done (sym w.in_default.is ∙ told ∙ here)
          ];
    }

pub returns : goal.returns
returns g c =
    let ascending = c.args.ascending.now in
    record {
      answers = ends_well c.loop-container.invariant.looks _ (λ clean d shown.
          c.loop-container.invariant.so_far clean d shown
          ∙ ap (filter_map (found_line d.holdings)) (take_all c.loop-container.container-index ascending (omega (arith, c.loop-container-test.false)))
          ∙ lines_each d.holdings shown.holdings_rise ascending (sorted_from_strictly_increasing ascending c.requires.rise));
    }
