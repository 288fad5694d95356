use Rattle.std.proofs.Common.{subst, sym}
use Rattle.office_core.specs.declared.query.Query.TheVariants as query
use Rattle.public_queries.proofs.Common.{AreMarks, RepresentsKnown, RepresentsMarked, has_id, looks_nowhere, path}
use Rattle.public_queries.proofs.Common.{same_fault, state}
use Rattle.public_queries.proofs.AidAnswers.{knows_all}
use Rattle.public_queries.proofs.Knowings.{knows_short}
use Rattle.public_queries.proofs.LaterKnowing.{knows_then}
use Rattle.public_queries.proofs.aids.aid.Goals as goal

pub returns-in_err-marks : goal.returns-in_err-marks
returns-in_err-marks g c =
    let a = state g.S.Store c.args.tables.now in
    knows_short g.P.Places.represents g.P.Versioned.version (RepresentsKnown c.args.known.now c.args.forest.now) (query.Aid c.args.unit) a a c.from_residual.result
    (same_fault c.from_residual.ensures) looks_nowhere

pub returns : goal.returns
returns g c =
    let a = state g.S.Store c.args.tables.now in
    let d = state g.S.Store c.aid_on_path.new.tables in
    knows_then g.P.Places.represents g.P.Versioned.version (RepresentsKnown c.args.known.now c.args.forest.now) (RepresentsMarked c.args.known.now c.args.forest.now c.args.unit c.as_slice.result.now) (query.Aid c.args.unit) a a d c.aid_on_path.result looks_nowhere
    (λ clean s sound so it. record {
      own = so;
      marks_are = subst (AreMarks (path (has_id c.args.unit) s.catalogue.forest)) (sym c.as_slice.ensures.value)
          (c.in_ok-marks.ensures s.catalogue.forest (knows_all s sound so.walk));
    })
    c.aid_on_path.ensures
