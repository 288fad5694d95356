use Rattle.refinement.specs.Representation as shown
use Rattle.office.proofs.OwnRows.{legible}
use Rattle.office.proofs.office_row.own_row.Goals as goal

pub returns : goal.returns
returns g c =
    let told = c.settings.ensures.answers in
    record {
      answers = record {
        answers = λ clean beside s it. told.answers clean s.catalogue (shown.office_of s) it.catalogue;
        looks = told.looks;
        aborts = told.aborts;
        faults = λ beside s it may sound clean free. told.faults s.catalogue (shown.office_of s) it.catalogue tt (legible s sound) clean free;
      };
    }
