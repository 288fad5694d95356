use Rattle.std.proofs.Common.{List, ap, ◌∙◌}
use Rattle.office_core.specs.declared.query.Query.TheVariants as query
use Rattle.public_queries.proofs.Common.{Head, OfficeRow, RepresentsShown, Text, aid, before_last, early, has_id}
use Rattle.public_queries.proofs.Common.{head_identifiers, looks_then, office_kept, office_of, public_of, repository_of}
use Rattle.public_queries.proofs.Common.{shown_below, state, still_shown, tree}
use Rattle.public_queries.proofs.AidAnswers.{knows_all, shown, tellable}
use Rattle.public_queries.proofs.Knowings.{catalogue_passed, knows_by, knows_passed_later}
use Rattle.public_queries.proofs.PageAnswers.{heads_of_path}
use Rattle.public_queries.proofs.aids.shown_aid.Goals as goal

pub returns-in_err-heads : goal.returns-in_err-heads
returns-in_err-heads g c = let told = c.in_err-heads.ensures.answers in catalogue_passed _ c.from_residual.ensures told.aborts told.faults

pub returns-in_err-text : goal.returns-in_err-text
returns-in_err-text g c =
    let last = c.in_err-text.ensures.answers in
    knows_passed_later _ c.from_residual-in_err-text.ensures c.in_ok-heads.ensures.answers.looks last.aborts
    (λ s sound so it. last.faults (office_of s) s.catalogue it.catalogue (tellable s sound, knows_all s sound so.walk) (office_kept s sound))

pub returns : goal.returns
returns g c =
    let v = g.P.Versioned.version in
    let a = state g.S.Store c.args.tables.now in
    let d = state g.S.Store c.branch_text.new.tables in
    let first = c.in_ok-heads.ensures.answers in
    let last = c.in_ok-text.ensures.answers in
    knows_by g.P.Places.represents v (RepresentsShown c.args.known.now c.args.forest.now c.args.unit c.args.way.now) (query.Aid c.args.unit) a d (Text c.in_ok-text.text) (looks_then first.looks last.looks)
    (λ clean s sound so it.
    let at_b = early last.looks.goes.on.crash clean in
    let heads = first.answers at_b (office_of s) s.catalogue it.catalogue ∙ heads_of_path s sound c.args.unit so.at.shown c.args.way.now so.at.way_is in
    let it_b = still_shown g.P.Places.represents v a _ first.looks at_b s it in
    let text = last.answers clean (office_of s) s.catalogue it_b.catalogue (tellable s sound) (knows_all s sound so.walk) in
    let above = c.in_ok-above.ensures ∙ ap (λ (l : List Head). before_last (head_identifiers l)) (c.deref.ensures.value ∙ heads) in
    ap Text (text
    ∙ ap (λ (o : OfficeRow). aid (shown_below (repository_of o) s.catalogue.containers c.in_ok-above.above.items 0 (public_of o.day (tree (has_id c.args.unit) s.catalogue.forest)))) so.at.office
    ∙ ap (λ ids. aid (shown_below (repository_of (office_of s)) s.catalogue.containers ids 0 (public_of s.day (tree (has_id c.args.unit) s.catalogue.forest)))) above)
    ∙ shown s sound c.args.unit so.at.shown)
