use Rattle.std.proofs.Common.{refl, sym, ap, subst, ◌∙◌}
use Rattle.isad_core.specs.declared.values.Values.{Values}
use Rattle.public_queries.proofs.Common.{Database, Represents, early, looks_then, tells_passed, tells_passed_later}
use Rattle.public_queries.proofs.Common.{tells_well}
use Rattle.public_queries.proofs.PageNeeds.{values_there}
use Rattle.public_queries.proofs.page_needs.read_unit.Goals as goal

pub returns-in_err-level : goal.returns-in_err-level
returns-in_err-level g c =
    let why = c.in_err-level.ensures.answers in
    record { answers = tells_passed _ c.from_residual.ensures why.aborts why.faults }

pub returns-in_err-texts : goal.returns-in_err-texts
returns-in_err-texts g c =
    let why = c.in_err-texts.ensures.answers in
    record {
      answers = tells_passed_later _ c.from_residual-in_err-texts.ensures c.in_ok-level.ensures.answers.looks why.aborts (λ o k it may kept.
          why.faults o k (record { version = g.P.Versioned.version; catalogue = it.catalogue; places = may.1.tellable.places }) tt kept);
    }

pub returns-in_err-housed : goal.returns-in_err-housed
returns-in_err-housed g c =
    let why = c.in_err-housed.ensures.answers in
    record { answers = tells_passed_later _ c.from_residual-in_err-housed.ensures (looks_then c.in_ok-level.ensures.answers.looks c.in_ok-texts.ensures.answers.looks) why.aborts why.faults }

pub returns : goal.returns
returns g c =
    let first = c.in_ok-level.ensures.answers in
    let second = c.in_ok-texts.ensures.answers in
    let last = c.in_ok-housed.ensures.answers in
    let looked = looks_then first.looks second.looks in
    let represents = Represents g.P.Places.represents g.P.Versioned.version in
    record {
      answers = tells_well (looks_then looked last.looks) (λ clean o k it u marked.
          let at_d = early last.looks.goes.on.crash clean in
          let at_b = early second.looks.goes.on.crash at_d in
          let it_b = subst (λ (db : Database). represents db o k) (sym (first.looks.same at_b)) it in
          let it_d = subst (λ (db : Database). represents db o k) (sym (looked.same at_d)) it in
          let level = first.answers at_b o k it u marked in
          let texts = second.answers at_d o k (record { version = g.P.Versioned.version; catalogue = it_b.catalogue; places = marked.tellable.places }) ∙ ap (λ (v : Values). v.texts) (values_there c.args.mark.now.id k u marked.found) in
          let housed = last.answers clean o k it_d u marked in
          rw (level, texts, housed) refl);
    }
