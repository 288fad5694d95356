use Rattle.std.proofs.Common.{◌∙◌}
use Rattle.csv_import.proofs.Common.{numbers_of, tells_passed}
use Rattle.csv_import.proofs.RightAbove.{have_parents}
use Rattle.csv_import.proofs.Tellings.{told_again}
use Rattle.csv_import.proofs.remarks.remarks.Goals as goal

pub returns-in_err-parents : goal.returns-in_err-parents
returns-in_err-parents g c =
    let told = c.in_err-parents.ensures.answers in
    record { answers = λ source. tells_passed _ c.from_residual.ensures told.aborts (λ o k it has kept. told.faults tt (numbers_of k) it.shown tt kept.places) }

pub returns : goal.returns
returns g c =
    let told = c.in_ok-parents.ensures.answers in
    record {
      answers = λ source.
          told_again (c.remarks_below.ensures.answers source) told.looks
          (λ clean o k it has kept. (have_parents has (c.deref.ensures.value ∙ told.answers clean tt (numbers_of k) it.shown), kept))
          (λ clean o k it remarks is has. is (have_parents has (c.deref.ensures.value ∙ told.answers clean tt (numbers_of k) it.shown)));
    }
