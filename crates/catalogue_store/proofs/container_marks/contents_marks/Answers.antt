use Rattle.std.proofs.Common.{List, ℕ, sym, subst, ◌∙◌}
use Rattle.catalogue_store.proofs.Common.{AreContentsMarks, AreWholeMarksOfEach, Database, IsKept, Represents}
use Rattle.catalogue_store.proofs.Common.{same_fault, tells_not, ⊤}
use Rattle.catalogue_store.proofs.LaterAnswers.{answers_later}
use Rattle.catalogue_store.proofs.container_marks.contents_marks.Goals as goal

pub returns-in_err-units : goal.returns-in_err-units
returns-in_err-units g c =
    let e = c.in_err-units.field-0.0 in
    record { answers = tells_not (same_fault c.from_residual.ensures) c.in_err-units.ensures.reads.aborts c.in_err-units.ensures.reads.spares (λ o k it may kept clean free. c.in_err-units.ensures.faults k it.catalogue.housings clean free) }

pub returns : goal.returns
returns g c =
    let looked = c.in_ok-units.ensures.reads.looks in
    let represents = Represents g.P.Places.represents g.P.Versioned.version in
    record {
      answers = answers_later g.S.Store represents IsKept (λ _. ⊤) represents IsKept (λ _. ⊤) c.args.tables.now c.attached_units.new.tables c.marks_of_units.new.tables c.marks_of_units.result
          (λ _ k found. AreContentsMarks k c.args.container found.items)
          (λ _ k found. AreWholeMarksOfEach k.forest c.deref.result.now found.items) looked
          (λ o k it before.
          let got = c.in_ok-units.ensures.units before k it.catalogue.units it.catalogue.housings in
          let is = c.deref.ensures.value ∙ got.2 in
          record {
            part = o;
            share = k;
            shown = subst (λ (db : Database). represents db o k) (sym (looked.same before)) it;
            turn = λ found each_one. (got.0, got.1, subst (λ (l : List ℕ). AreWholeMarksOfEach k.forest l found.items) is each_one);
            allowed = λ may kept. (tt, kept);
          })
          c.marks_of_units.ensures.answers;
    }
