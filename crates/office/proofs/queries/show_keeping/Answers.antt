use Rattle.std.proofs.Common.{subst, sym}
use Rattle.public_queries.proofs.Knowings.{catalogue_passed}
use Rattle.public_queries.proofs.LaterKnowing.{knows_then}
use Rattle.public_queries.specs.KnownPaths.{RepresentsKnown}
use Rattle.office.proofs.Common.{KnowsKept, TellOf, asks_named, early, looked_crash, office_of, state}
use Rattle.office.proofs.queries.show_keeping.Goals as goal

pub returns-in_err-forest-clause-answers : goal.returns-in_err-forest-clause-answers
returns-in_err-forest-clause-answers g c = let told = c.in_err-forest.ensures.answers in catalogue_passed _ c.from_residual.ensures told.aborts told.faults

pub returns-clause-answers : goal.returns-clause-answers
returns-clause-answers g c =
    let told = c.in_ok-forest.ensures.answers in
    let a = state g.S.Store c.args.tables.now in
    let b = state g.S.Store c.kept_or_read.new.tables in
    let d = state g.S.Store c.show-answer.new.tables in
    knows_then g.P.Places.represents g.P.Versioned.version (KnowsKept c.args.row.now c.args.kept.now) (RepresentsKnown c.args.row.now c.in_ok-forest.forest) (asks_named c.args.query) a b d c.show-answer.result told.looks
    (λ clean s sound so it. record {
      office = so.office;
      walk = told.answers clean (office_of s) s.catalogue it.catalogue (subst (TellOf s.catalogue) (sym c.take.ensures.value) so.marks);
    })
    c.show-answer.ensures

pub returns-clause-stays : goal.returns-clause-stays
returns-clause-stays g c clean before row k it =
    let told = c.in_ok-forest.ensures.answers in
    let b = state g.S.Store c.kept_or_read.new.tables in
    let d = state g.S.Store c.show-answer.new.tables in
    let at_b = early (looked_crash c.show-answer.result b d c.show-answer.ensures.looks c.show-answer.ensures.aborts) clean in
    told.answers at_b row k it (subst (TellOf k) (sym c.take.ensures.value) (before row k it))
