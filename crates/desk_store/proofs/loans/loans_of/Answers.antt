use Rattle.std.proofs.Common.{Some, None, ap, sym, ◌∙◌, arith}
use Rattle.desk_store.proofs.Common.{HoldingLine, RepresentsDeskAlone, append-nil, early, loans_in, looks_nowhere}
use Rattle.desk_store.proofs.Common.{looks_then, same_fault, take_all}
use Rattle.desk_store.proofs.LoanCalls.{loan_at, one_more}
use Rattle.desk_store.proofs.loans.loans_of.Goals.{in-Some+in_ok-push, in_default}
use Rattle.desk_store.proofs.loans.loans_of.Goals as goal
use Rattle.desk_store.proofs.ToldCalls.{shown_on}
use Rattle.desk_store.proofs.TellingCalls.{ends_full, ends_not, ends_well}

pub returns-in_err-loan : goal.returns-in_err-loan
returns-in_err-loan g c = record { answers = ends_not c.loop-line.invariant.looks c.in_err-loan.ensures.answers.aborts c.in_err-loan.ensures.answers.spares (λ d shown may kept. c.in_err-loan.ensures.answers.faults tt d shown tt kept) (same_fault c.from_residual.ensures) }

pub returns-in_err-push : goal.returns-in_err-push
returns-in_err-push g c = record { answers = ends_full (looks_then c.loop-line.invariant.looks c.in_ok-loan.ensures.answers.looks) (same_fault c.from_residual-in_err-push.ensures) }

pub loop-line-init : goal.loop-line-init
loop-line-init g c = record { looks = looks_nowhere; so_far = λ clean desk shown. c.new-loans.ensures.items }

pub loop-line-preserved : goal.loop-line-preserved
loop-line-preserved g c =
    let last = c.in_ok-loan.ensures.answers.looks in
    let looked = c.loop-line.invariant.looks in
    record {
      looks = looks_then looked last;
      so_far = λ clean desk shown.
          let before = early last.goes.on.crash clean in
          let told = c.in_ok-loan.ensures.answers.answers clean tt desk (shown_on RepresentsDeskAlone looked before desk shown) in
          let done = c.loop-line.invariant.so_far before desk shown in
          let lines = c.args.lines.now in
          let i = c.loop-line.line-index in
          let none : HoldingLine = c.line-item.result in
          let here = ap (loan_at desk.orders) c.line-item.is in
          elim c.match-branch-2.branch [
            | in-Some+in_ok-push w ↦
                ap (λ v. v.items) w.loans-is ∙ w.in_ok-push.ensures.items
                ∙ one_more (loan_at desk.orders) lines i none c.loop-line.loans.items (Some w.in-Some.loan) c.loop-line-test.true done (sym w.in-Some.is ∙ told ∙ here)
            | in_default w ↦
                ap (λ v. v.items) w.loans-is ∙ sym (append-nil c.loop-line.loans.items)
                ∙ one_more (loan_at desk.orders) lines i none c.loop-line.loans.items None c.loop-line-test.true done (sym w.in_default.is ∙ told ∙ here)
          ];
    }

pub returns : goal.returns
returns g c =
    record {
      answers = ends_well c.loop-line.invariant.looks _ (λ clean d shown.
          c.loop-line.invariant.so_far clean d shown ∙ ap (loans_in d) (take_all c.loop-line.line-index c.args.lines.now (omega (arith, c.loop-line-test.false))));
    }
