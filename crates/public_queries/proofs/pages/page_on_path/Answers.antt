use Rattle.std.proofs.Common.{sym, ap, ◌∙◌}
use Rattle.office_core.specs.declared.query.Query.TheVariants as query
use Rattle.public_queries.proofs.Common.{OfficeRow, RepresentsMarked, RepresentsStub, RepresentsWay, Unknown}
use Rattle.public_queries.proofs.Common.{UnknownUnit, ends_closed, has_id, looks_nowhere, path, same_fault, state}
use Rattle.public_queries.proofs.Knowings.{knows_by, knows_short}
use Rattle.public_queries.proofs.LaterKnowing.{knows_then}
use Rattle.public_queries.proofs.MarkedPaths.{ids_same}
use Rattle.public_queries.proofs.PageAnswers.{hidden, is_closed_by, is_open_by, judged_marked}
use Rattle.public_queries.proofs.pages.page_on_path.Goals as goal

pub returns-then-not-shows_last : goal.returns-then-not-shows_last
returns-then-not-shows_last g c =
    let a = state g.S.Store c.args.tables.now in
    knows_by g.P.Places.represents g.P.Versioned.version (RepresentsMarked c.args.known.now c.args.forest.now c.args.unit c.args.marks.now) (query.Page c.args.unit) a a (Unknown UnknownUnit) looks_nowhere
    (λ clean s sound so it.
    hidden s sound c.args.unit
    (judged_marked s sound c.args.unit c.args.known.now c.args.marks.now so.own.office so.marks_are ∙ sym c.shows_last.ensures ∙ c.if-not-shows_last.true))

pub returns-in_err-way : goal.returns-in_err-way
returns-in_err-way g c =
    let a = state g.S.Store c.args.tables.now in
    knows_short g.P.Places.represents g.P.Versioned.version (RepresentsMarked c.args.known.now c.args.forest.now c.args.unit c.args.marks.now) (query.Page c.args.unit) a a c.from_residual.result
    (same_fault c.from_residual.ensures) looks_nowhere

pub returns-then-is_last_closed : goal.returns-then-is_last_closed
returns-then-is_last_closed g c =
    let a = state g.S.Store c.args.tables.now in
    let d = state g.S.Store c.stub_page.new.tables in
    knows_then g.P.Places.represents g.P.Versioned.version (RepresentsMarked c.args.known.now c.args.forest.now c.args.unit c.args.marks.now) (RepresentsStub c.args.known.now c.args.unit c.as_slice.result.now) (query.Page c.args.unit) a a d c.stub_page.result looks_nowhere
    (λ clean s sound so it.
    let shown = judged_marked s sound c.args.unit c.args.known.now c.args.marks.now so.own.office so.marks_are ∙ sym c.shows_last.ensures ∙ c.if-not-shows_last.false in
    record {
      at = record {
        office = so.own.office;
        way_is = c.as_slice.ensures.value ∙ c.in_ok-way.ensures ∙ ids_same (path (has_id c.args.unit) s.catalogue.forest) c.args.marks.now so.marks_are;
        shown = shown;
      };
      closed = is_closed_by s sound c.args.unit shown c.args.marks.now so.marks_are
          (ap (λ (o : OfficeRow). ends_closed o.day c.args.marks.now) (sym so.own.office) ∙ sym c.is_last_closed.ensures ∙ c.if-is_last_closed.true);
    })
    c.stub_page.ensures

pub returns : goal.returns
returns g c =
    let a = state g.S.Store c.args.tables.now in
    let d = state g.S.Store c.told_page.new.tables in
    knows_then g.P.Places.represents g.P.Versioned.version (RepresentsMarked c.args.known.now c.args.forest.now c.args.unit c.args.marks.now) (RepresentsWay c.args.known.now c.args.forest.now c.args.unit c.args.marks.now) (query.Page c.args.unit) a a d c.told_page.result looks_nowhere
    (λ clean s sound so it.
    let shown = judged_marked s sound c.args.unit c.args.known.now c.args.marks.now so.own.office so.marks_are ∙ sym c.shows_last.ensures ∙ c.if-not-shows_last.false in
    record {
      marked = so;
      shown = shown;
      open_is = is_open_by s sound c.args.unit shown c.args.marks.now so.marks_are
          (ap (λ (o : OfficeRow). ends_closed o.day c.args.marks.now) (sym so.own.office) ∙ sym c.is_last_closed.ensures ∙ c.if-is_last_closed.false);
    })
    c.told_page.ensures
