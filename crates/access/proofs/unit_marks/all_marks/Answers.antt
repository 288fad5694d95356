use Rattle.std.proofs.Common.{subst, sym, arith}
use Rattle.access.proofs.Common.{AreWalkMarks, cut_after, tells_well}
use Rattle.access.proofs.FewMarks.{few_marks}
use Rattle.access.proofs.unit_marks.all_marks.Goals as goal

pub returns-then-len-gt-MOST_MARKS-clause-answers : goal.returns-then-len-gt-MOST_MARKS-clause-answers
returns-then-len-gt-MOST_MARKS-clause-answers g c =
    let told = c.in_ok-marks.ensures.answers in
    record {
      answers = λ clean o k it. tt;
      looks = tt;
      aborts = cut_after told.looks.goes.on;
      faults = λ o k it may kept clean free.
          let few = few_marks k c.in_ok-marks.marks.items kept (told.answers clean o k it) in
          absurd (omega (arith, few, c.len.ensures, c.in_ok-marks.marks.ok.0, c.if-len-gt-MOST_MARKS.true));
    }

pub returns-clause-answers : goal.returns-clause-answers
returns-clause-answers g c =
    let told = c.in_ok-marks.ensures.answers in
    tells_well told.looks (λ clean o k it. subst (AreWalkMarks k.forest) (sym c.in_ok-new.ensures) (told.answers clean o k it))
