use Rattle.std.proofs.Common.{arith, refl}
use Rattle.csv_import.proofs.Common.{contains_text, get_by_text, looks_nowhere, looks_then, tells_passed_later}
use Rattle.csv_import.proofs.KnownUnits.{all_known, asked_nothing, one_asked}
use Rattle.csv_import.proofs.Tellings.{tells_so, told_later}
use Rattle.csv_import.proofs.numbers.known_units.Goals as goal

pub loop-row-init : goal.loop-row-init
loop-row-init g c =
    record {
      looks = looks_nowhere;
      so_far = λ clean o k it good.
          (asked_nothing k c.args.source.now (contains_text c.new-asked.result) (get_by_text c.new-numbers.result) (λ q. rw (c.new-asked.ensures.empty) refl) (λ q. rw (c.new-numbers.ensures.empty) refl), tt);
    }

pub returns-in_err-look_up_row : goal.returns-in_err-look_up_row
returns-in_err-look_up_row g c =
    let told = c.in_err-look_up_row.ensures.answers in
    record { answers = tells_passed_later _ c.from_residual.ensures c.loop-row.invariant.looks told.aborts (λ o k it may good. told.faults o k it may good) }

pub loop-row-preserved : goal.loop-row-preserved
loop-row-preserved g c =
    let invariant = c.loop-row.invariant in
    let row = c.in_ok-look_up_row.ensures in
    let asked = contains_text c.loop-row.asked in
    let later = contains_text c.look_up_row.new.asked in
    record {
      looks = looks_then invariant.looks row.answers.looks;
      so_far = λ clean o k it good.
          let told = told_later invariant.looks row.answers clean o k it in
          let before = invariant.so_far told.0 o k it good in
          let now = told.1 good before.0 in
          (now.0, one_asked k c.args.source.now asked later c.args.rows.now c.loop-row.row-index c.loop-row-test.true c.row-item.is row.more before.1 now.1);
    }

pub returns : goal.returns
returns g c =
    let invariant = c.loop-row.invariant in
    record {
      answers = tells_so invariant.looks (λ clean o k it good.
          all_known k c.args.source.now (contains_text c.loop-row.asked) (get_by_text c.loop-row.numbers) c.args.rows.now c.loop-row.row-index (invariant.so_far clean o k it good) (omega (arith, c.loop-row-test.false)));
    }
