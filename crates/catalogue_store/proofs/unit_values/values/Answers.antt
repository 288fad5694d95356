use Rattle.std.proofs.Common.{refl, sym, subst, ◌∙◌}
use Rattle.std.specs.Prelude.{find}
use Rattle.catalogue_store.proofs.Common.{Database, RepresentsValues, Unit, early, has_id, looks_then, nodes, same_fault}
use Rattle.catalogue_store.proofs.Common.{tells_cut, tells_not, tells_well}
use Rattle.catalogue_store.proofs.UnitTold.{none_told, told_of, values_told}
use Rattle.catalogue_store.proofs.unit_values.values.Goals as goal

pub returns-in_err-level : goal.returns-in_err-level
returns-in_err-level g c =
    let why = c.in_err-level.ensures.answers in
    record { answers = tells_not (same_fault c.from_residual.ensures) why.aborts why.spares (λ o k it knows kept clean free. why.faults o k it tt kept clean free) }

pub returns-in_default : goal.returns-in_default
returns-in_default g c =
    let told = c.in_ok-level.ensures.answers in
    record {
      answers = tells_well told.looks (λ clean o k it.
          let none = none_told (λ (u : Unit). u.values.level) (find (has_id c.args.unit) (nodes k.forest)) (sym (told.answers clean o k it) ∙ c.in_default.is) in
          rw none refl);
    }

pub returns-in_err-texts : goal.returns-in_err-texts
returns-in_err-texts g c =
    let looked = c.in_ok-level.ensures.answers.looks in
    let why = c.in_err-texts.ensures.answers in
    record { answers = tells_cut (same_fault c.from_residual-in_err-texts.ensures) looked why.aborts why.spares (λ o k it knows kept at_b clean free. why.faults o k (subst (λ (db : Database). RepresentsValues db o k) (sym (looked.same at_b)) it) tt kept clean free) }

pub returns-in_err-housed : goal.returns-in_err-housed
returns-in_err-housed g c =
    let looked = looks_then c.in_ok-level.ensures.answers.looks c.in_ok-texts.ensures.answers.looks in
    let why = c.in_err-housed.ensures.answers in
    record { answers = tells_cut (same_fault c.from_residual-in_err-housed.ensures) looked why.aborts why.spares (λ o k it knows kept at_d clean free. why.faults o k (subst (λ (db : Database). RepresentsValues db o k) (sym (looked.same at_d)) it) knows kept clean free) }

pub returns : goal.returns
returns g c =
    let first = c.in_ok-level.ensures.answers in
    let second = c.in_ok-texts.ensures.answers in
    let last = c.in_ok-housed.ensures.answers in
    let looked = looks_then first.looks second.looks in
    record {
      answers = tells_well (looks_then looked last.looks) (λ clean o k it.
          let at_d = early last.looks.goes.on.crash clean in
          let at_b = early second.looks.goes.on.crash at_d in
          let it_b = subst (λ (db : Database). RepresentsValues db o k) (sym (first.looks.same at_b)) it in
          let it_d = subst (λ (db : Database). RepresentsValues db o k) (sym (looked.same at_d)) it in
          let found = told_of (λ (u : Unit). u.values.level) (find (has_id c.args.unit) (nodes k.forest)) c.in-Some.level (sym (first.answers at_b o k it) ∙ c.in-Some.is) in
          let texts = second.answers at_d o k it_b in
          let housed = last.answers clean o k it_d in
          values_told k c.args.unit found.0 c.in-Some.level c.in_ok-texts.texts c.in_ok-housed.housed found.1 found.2 texts housed);
    }
