use Rattle.std.proofs.Common.{sym, ◌∙◌, arith}
use Rattle.csv_import.proofs.Common.{get_by_text, looks_then, tells_full, tells_passed_later}
use Rattle.csv_import.proofs.Planned.{begins, ends_faulty, ends_well, goes_known, goes_new, placed_here}
use Rattle.csv_import.proofs.Tellings.{tells_later, tells_so, told_later}
use Rattle.csv_import.proofs.row_plan.plan.Goals as goal
use Rattle.csv_import.proofs.row_plan.plan.Goals.{in-Known, in-Fits+in_ok-remember-in-Fits}

pub loop-row-init : goal.loop-row-init
loop-row-init g c =
    let told = c.in_ok-depths.ensures.answers in
    record {
      looks = told.looks;
      few = omega arith;
      so_far = λ clean o k it good source known. begins (told.answers clean o k it good source known.sound);
    }

pub returns-in_err-place : goal.returns-in_err-place
returns-in_err-place g c =
    let told = c.in_err-place.ensures.answers in
    record { answers = tells_passed_later _ c.from_residual-in_err-place.ensures c.loop-row.invariant.looks told.aborts (λ o k it may kept. told.faults o k it tt kept) }

pub returns-in_err-remember-in-Fits : goal.returns-in_err-remember-in-Fits
returns-in_err-remember-in-Fits g c = record { answers = tells_full c.from_residual-in_err-remember-in-Fits.ensures (looks_then c.loop-row.invariant.looks c.in_ok-place.ensures.answers.looks) }

pub returns-in-Faulty : goal.returns-in-Faulty
returns-in-Faulty g c =
    let invariant = c.loop-row.invariant in
    let depths = get_by_text c.place.new.depths in
    record {
      answers = tells_later invariant.looks c.in_ok-place.ensures.answers (λ clean o k it told good source known.
          let so_far = invariant.so_far clean o k it good source known in
          let so = placed_here depths c.loop-row.row-index known c.loop-row-test.true c.row-item.is so_far (told good source) in
          ends_faulty so.0 (sym c.in-Faulty.is ∙ so.1));
    }

pub loop-row-preserved : goal.loop-row-preserved
loop-row-preserved g c =
    let invariant = c.loop-row.invariant in
    let few = invariant.few in
    let place = c.in_ok-place.ensures.answers in
    let depths = get_by_text c.place.new.depths in
    record {
      looks = looks_then invariant.looks place.looks;
      few = elim c.match-branch-3.branch [
        | in-Known w ↦ (let n = w.new-is in omega (arith, few, n))
        | in-Fits+in_ok-remember-in-Fits w ↦ (let n = w.new-is in omega (arith, few, n))
      ];
      so_far = λ clean o k it good source known.
          let told = told_later invariant.looks place clean o k it in
          let so_far = invariant.so_far told.0 o k it good source known in
          let so = placed_here depths c.loop-row.row-index known c.loop-row-test.true c.row-item.is so_far (told.1 good source) in
          elim c.match-branch-3.branch [
            | in-Known w ↦ rw (w.depths-is, w.new-is) (goes_known so.0 so.2 (sym w.in-Known.is ∙ so.1))
            | in-Fits+in_ok-remember-in-Fits w ↦
                rw (w.depths-is, w.new-is) (goes_new depths so.0 so.2 (sym w.in-Fits.is ∙ so.1) w.in_ok-remember-in-Fits.ensures)
          ];
    }

pub returns : goal.returns
returns g c =
    let invariant = c.loop-row.invariant in
    record {
      answers = tells_so invariant.looks (λ clean o k it good source known.
          ends_well c.loop-row.row-index (invariant.so_far clean o k it good source known) (omega (arith, c.loop-row-test.false)));
    }
