use Rattle.std.proofs.Common.{subst, sym}
use Rattle.refinement.proofs.Doings.{catalogue_passed}
use Rattle.office.proofs.Common.{TellOf, does_then, early, office_of, state, went}
use Rattle.office.proofs.KeptMarks.{touches_after}
use Rattle.office.proofs.commands.perform_keeping.Goals as goal

pub returns-in_err-forest-clause-performs : goal.returns-in_err-forest-clause-performs
returns-in_err-forest-clause-performs g c = let told = c.in_err-forest.ensures.answers in catalogue_passed _ c.from_residual.ensures told.aborts told.faults

pub returns-clause-performs : goal.returns-clause-performs
returns-clause-performs g c =
    let told = c.in_ok-forest.ensures.answers in
    does_then told.looks c.perform_knowing-done.ensures.performs
    (λ clean s sound so it. record {
      office = so;
      walk = told.answers clean (office_of s) s.catalogue it.catalogue
          (subst (TellOf s.catalogue) (sym c.take.ensures.value) (c.requires.marks (early told.looks.goes.on.crash clean) (office_of s) s.catalogue it.catalogue));
    })

pub returns-clause-only : goal.returns-clause-only
returns-clause-only g c clean =
    let b = state g.S.Store c.kept_or_read.new.tables in
    let d = state g.S.Store c.perform_knowing-done.new.tables in
    let does = c.perform_knowing-done.ensures.performs in
    touches_after (state g.S.Store c.args.tables.now) b d c.perform_knowing-done.result c.in_ok-forest.ensures.answers.looks
    (early (went c.perform_knowing-done.result b d does.goes does.aborts) clean) (c.perform_knowing-done.ensures.only clean)

pub returns-clause-stays : goal.returns-clause-stays
returns-clause-stays g c clean before row k it =
    let told = c.in_ok-forest.ensures.answers in
    let b = state g.S.Store c.kept_or_read.new.tables in
    let d = state g.S.Store c.perform_knowing-done.new.tables in
    let does = c.perform_knowing-done.ensures.performs in
    let at_b = early (went c.perform_knowing-done.result b d does.goes does.aborts) clean in
    told.answers at_b row k it (subst (TellOf k) (sym c.take.ensures.value) (before row k it))
