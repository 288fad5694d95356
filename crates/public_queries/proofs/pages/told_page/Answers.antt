use Rattle.std.proofs.Common.{ℕ, List, ◌∙◌}
use Rattle.office_core.specs.State.{State}
use Rattle.office_core.specs.declared.query.Query.TheVariants as query
use Rattle.public_queries.proofs.Common.{AreMarks, AreMarksOf, IsSoundOffice, Mark, RepresentsWay, Text, early}
use Rattle.public_queries.proofs.Common.{has_id, looks_then, office_kept, office_of, path, same_fault, state, still_shown}
use Rattle.public_queries.proofs.AidAnswers.{knows_all, tellable}
use Rattle.public_queries.proofs.Knowings.{knows_by, knows_passed, knows_passed_later, knows_short}
use Rattle.public_queries.proofs.PageAnswers.{answers_told, path_found}
use Rattle.public_queries.proofs.pages.told_page.Goals as goal

abbrev marks_of : (s : State) → IsSoundOffice s → (unit : ℕ) (way : List Mark)
    → AreMarks (path (has_id unit) s.catalogue.forest) way → AreMarksOf s.catalogue way
marks_of s sound unit way are =
    record { units = path (has_id unit) s.catalogue.forest; found = path_found s sound unit; are = are }

pub returns-in_err-told : goal.returns-in_err-told
returns-in_err-told g c =
    let told = c.in_err-told.ensures.answers in
    knows_passed _ c.from_residual.ensures told.aborts
    (λ s sound so it. told.faults (office_of s) s.catalogue it.catalogue (tellable s sound, marks_of s sound c.args.unit c.args.way.now so.marked.marks_are) (office_kept s sound))

pub returns-in_err-heads : goal.returns-in_err-heads
returns-in_err-heads g c =
    let told = c.in_err-heads.ensures.answers in
    knows_passed_later _ c.from_residual-in_err-heads.ensures c.in_ok-told.ensures.answers.looks told.aborts
    (λ s sound so it. told.faults (office_of s) s.catalogue it.catalogue tt (office_kept s sound))

pub returns-in_err-text : goal.returns-in_err-text
returns-in_err-text g c =
    let a = state g.S.Store c.args.tables.now in
    let d = state g.S.Store c.public_heads_below.new.tables in
    knows_short g.P.Places.represents g.P.Versioned.version (RepresentsWay c.args.known.now c.args.forest.now c.args.unit c.args.way.now) (query.Page c.args.unit) a d c.from_residual-in_err-text.result
    (same_fault c.from_residual-in_err-text.ensures)
    (looks_then c.in_ok-told.ensures.answers.looks c.in_ok-heads.ensures.answers.looks)

pub returns : goal.returns
returns g c =
    let a = state g.S.Store c.args.tables.now in
    let b = state g.S.Store c.read_path.new.tables in
    let d = state g.S.Store c.public_heads_below.new.tables in
    let first = c.in_ok-told.ensures.answers in
    let last = c.in_ok-heads.ensures.answers in
    knows_by g.P.Places.represents g.P.Versioned.version (RepresentsWay c.args.known.now c.args.forest.now c.args.unit c.args.way.now) (query.Page c.args.unit) a d (Text c.in_ok-text.text) (looks_then first.looks last.looks)
    (λ clean s sound so it.
    let at_b = early last.looks.goes.on.crash clean in
    let shown = still_shown g.P.Places.represents g.P.Versioned.version a b first.looks at_b s it in
    let units = first.answers at_b (office_of s) s.catalogue it.catalogue (tellable s sound) (marks_of s sound c.args.unit c.args.way.now so.marked.marks_are) in
    let heads = c.as_slice.ensures.value ∙ last.answers clean (office_of s) s.catalogue shown.catalogue (knows_all s sound so.marked.own.walk) in
    answers_told s sound c.args.unit so.shown c.args.known.now c.args.way.now c.in_ok-told.told.items c.as_slice.result.now c.in_ok-text.text so.marked.own.office so.marked.marks_are so.open_is units heads c.in_ok-text.ensures)
