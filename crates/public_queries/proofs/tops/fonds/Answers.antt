use Rattle.std.proofs.Common.{[], sym, ap, ◌∙◌}
use Rattle.office_core.specs.declared.query.Query.TheVariants as query
use Rattle.public_queries.proofs.Common.{OfficeRow, RepresentsKnown, Text, all_bare, office_of, repository_of, state}
use Rattle.public_queries.proofs.Common.{tops_text}
use Rattle.public_queries.proofs.AidAnswers.{knows_all}
use Rattle.public_queries.proofs.FondsPrinted.{fonds_printed}
use Rattle.public_queries.proofs.Knowings.{catalogue_passed, knows_by}
use Rattle.public_queries.proofs.tops.fonds.Goals as goal

pub returns-in_err-heads : goal.returns-in_err-heads
returns-in_err-heads g c = let told = c.in_err-heads.ensures.answers in catalogue_passed _ c.from_residual.ensures told.aborts told.faults

pub returns : goal.returns
returns g c =
    let b = state g.S.Store c.public_heads_below.new.tables in
    let told = c.in_ok-heads.ensures.answers in
    knows_by g.P.Places.represents g.P.Versioned.version (RepresentsKnown c.args.known.now c.args.forest.now) query.Fonds (state g.S.Store c.args.tables.now) b (Text c.in_ok-text.text) told.looks
    (λ clean s sound so it.
    let heads = c.as_slice.ensures.value ∙ told.answers clean (office_of s) s.catalogue it.catalogue (knows_all s sound so.walk) in
    ap Text (c.in_ok-text.ensures
    ∙ ap (λ (o : OfficeRow). tops_text (all_bare (repository_of o) [] o.day c.as_slice.result.now)) so.office
    ∙ ap (λ l. tops_text (all_bare (repository_of (office_of s)) [] s.day l)) heads)
    ∙ sym (fonds_printed s))
