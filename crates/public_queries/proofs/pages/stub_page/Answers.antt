use Rattle.std.proofs.Common.{sym, ◌∙◌}
use Rattle.office_core.specs.declared.query.Query.TheVariants as query
use Rattle.public_queries.proofs.Common.{RepresentsStub, Text, Unknown, UnknownUnit, office_of, same_fault, state}
use Rattle.public_queries.proofs.Knowings.{catalogue_passed, knows_by, knows_short}
use Rattle.public_queries.proofs.PageAnswers.{answers_closed, heads_of_path, hidden, judged, no_heads}
use Rattle.public_queries.proofs.pages.stub_page.Goals as goal

pub returns-in_err-heads : goal.returns-in_err-heads
returns-in_err-heads g c = let told = c.in_err-heads.ensures.answers in catalogue_passed _ c.from_residual.ensures told.aborts told.faults

pub returns-in_default : goal.returns-in_default
returns-in_default g c =
    let a = state g.S.Store c.args.tables.now in
    let b = state g.S.Store c.public_heads.new.tables in
    let told = c.in_ok-heads.ensures.answers in
    knows_by g.P.Places.represents g.P.Versioned.version (RepresentsStub c.args.known.now c.args.unit c.args.way.now) (query.Page c.args.unit) a b (Unknown UnknownUnit) told.looks
    (λ clean s sound so it.
    let heads = told.answers clean (office_of s) s.catalogue it.catalogue ∙ heads_of_path s sound c.args.unit so.at.shown c.args.way.now so.at.way_is in
    hidden s sound c.args.unit
    (judged s sound c.args.unit c.args.known.now c.deref.result.now so.at.office (c.deref.ensures.value ∙ heads)
    ∙ no_heads s sound c.args.unit c.args.known.now.day c.deref.result.now c.in_default.ensures.cases))

pub returns-in_err-text : goal.returns-in_err-text
returns-in_err-text g c =
    let a = state g.S.Store c.args.tables.now in
    let b = state g.S.Store c.public_heads.new.tables in
    knows_short g.P.Places.represents g.P.Versioned.version (RepresentsStub c.args.known.now c.args.unit c.args.way.now) (query.Page c.args.unit) a b c.from_residual-in_err-text.result
    (same_fault c.from_residual-in_err-text.ensures) c.in_ok-heads.ensures.answers.looks

pub returns : goal.returns
returns g c =
    let a = state g.S.Store c.args.tables.now in
    let b = state g.S.Store c.public_heads.new.tables in
    let told = c.in_ok-heads.ensures.answers in
    knows_by g.P.Places.represents g.P.Versioned.version (RepresentsStub c.args.known.now c.args.unit c.args.way.now) (query.Page c.args.unit) a b (Text c.in_ok-text.text) told.looks
    (λ clean s sound so it.
    let heads = told.answers clean (office_of s) s.catalogue it.catalogue ∙ heads_of_path s sound c.args.unit so.at.shown c.args.way.now so.at.way_is in
    answers_closed s sound c.args.unit so.at.shown c.args.known.now c.as_slice.result.now c.in-Some._above.now c.in-Some.last.now c.in_ok-text.text so.at.office
    (c.as_slice.ensures.value ∙ heads) (c.as_slice.ensures.value ∙ sym c.deref.ensures.value ∙ c.in-Some.ensures.cases.0) so.closed c.in_ok-text.ensures)
