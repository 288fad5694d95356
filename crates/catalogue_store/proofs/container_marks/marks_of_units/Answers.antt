use Rattle.std.proofs.Common.{List, ℕ, [], ◌∷◌, ◌++◌, take, sym, subst, ap, ◌∙◌, arith}
use Rattle.catalogue_store.proofs.Common.{AreWholeMarksOfEach, Database, Represents, cut_after, early, looks_nowhere}
use Rattle.catalogue_store.proofs.Common.{looks_then, same_fault, spares_full, take_all, take_more, tells_cut}
use Rattle.catalogue_store.proofs.Common.{tells_not, tells_well}
use Rattle.catalogue_store.proofs.ContentsMarks.{whole_more}
use Rattle.catalogue_store.proofs.container_marks.marks_of_units.Goals as goal

pub loop-unit-init : goal.loop-unit-init
loop-unit-init g c = record {
  looks = looks_nowhere;
  so_far = λ clean o k it. subst (AreWholeMarksOfEach k.forest []) (sym c.new-found.ensures.items) tt;
}

pub loop-unit-preserved : goal.loop-unit-preserved
loop-unit-preserved g c =
    let units = c.args.units.now in
    let i = c.loop-unit.unit-index in
    let id = c.unit-item.result in
    let before = c.loop-unit.invariant in
    let above = c.in_ok-path.ensures.answers in
    let below = c.in_ok-branch.ensures.answers in
    let looked = looks_then before.looks above.looks in
    let represents = Represents g.P.Places.represents g.P.Versioned.version in
    record {
      looks = looks_then looked below.looks;
      so_far = λ clean o k it.
          let at_d = early below.looks.goes.on.crash clean in
          let at_b = early above.looks.goes.on.crash at_d in
          let it_b = subst (λ (db : Database). represents db o k) (sym (before.looks.same at_b)) it in
          let it_d = subst (λ (db : Database). represents db o k) (sym (looked.same at_d)) it in
          whole_more k.forest units i id c.loop-unit.found.items c.push.new.self.items _ c.loop-unit-test.true
          (take_more units i id c.loop-unit-test.true ∙ ap (λ n. take i units ++ n ∷ []) (sym c.unit-item.is)) (before.so_far at_b o k it)
          (above.answers at_d o k it_b, below.answers clean o k it_d) c.in_ok-push.ensures.items;
    }

pub returns-in_err-path : goal.returns-in_err-path
returns-in_err-path g c =
    let looked = c.loop-unit.invariant.looks in
    let why = c.in_err-path.ensures.answers in
    let represents = Represents g.P.Places.represents g.P.Versioned.version in
    record { answers = tells_cut (same_fault c.from_residual.ensures) looked why.aborts why.spares (λ o k it all kept at_b clean free. why.faults o k (subst (λ (db : Database). represents db o k) (sym (looked.same at_b)) it) tt kept clean free) }

pub returns-in_err-branch : goal.returns-in_err-branch
returns-in_err-branch g c =
    let looked = looks_then c.loop-unit.invariant.looks c.in_ok-path.ensures.answers.looks in
    let why = c.in_err-branch.ensures.answers in
    let represents = Represents g.P.Places.represents g.P.Versioned.version in
    record { answers = tells_cut (same_fault c.from_residual-in_err-branch.ensures) looked why.aborts why.spares (λ o k it all kept at_b clean free. why.faults o k (subst (λ (db : Database). represents db o k) (sym (looked.same at_b)) it) tt kept clean free) }

pub returns-in_err-push : goal.returns-in_err-push
returns-in_err-push g c =
    let looked = looks_then (looks_then c.loop-unit.invariant.looks c.in_ok-path.ensures.answers.looks) c.in_ok-branch.ensures.answers.looks in
    record { answers = tells_not (same_fault c.from_residual-in_err-push.ensures) (cut_after looked.goes.on) (spares_full looked) (λ o k it all kept clean free. tt) }

pub returns : goal.returns
returns g c =
    record {
      answers = tells_well c.loop-unit.invariant.looks (λ clean o k it.
          subst (λ (units : List ℕ). AreWholeMarksOfEach k.forest units c.loop-unit.found.items) (take_all c.loop-unit.unit-index c.args.units.now (omega (arith, c.loop-unit-test.false)))
          (c.loop-unit.invariant.so_far clean o k it));
    }
