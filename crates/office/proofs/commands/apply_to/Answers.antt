use Rattle.std.proofs.Common.{refl, subst, sym}
use Rattle.std.specs.Prelude.{IsOk}
use Rattle.office.proofs.Common.{early, state, went}
use Rattle.office.proofs.Applied.{applies, refused_whole}
use Rattle.office.proofs.KeptMarks.{kept_lent, kept_within}
use Rattle.office.proofs.Sights.{name_check_refuses}
use Rattle.office.proofs.commands.apply_to.Goals as goal

pub returns-in-Some-clause-applies : goal.returns-in-Some-clause-applies
returns-in-Some-clause-applies g c =
    let told = c.reply_of.ensures in
    refused_whole g.S.Store c.args.closed.now c.requires.office (λ s. name_check_refuses s c.args.command.now c.in-Some.why (sym c.in-Some.ensures)) told.same told.bytes told.memory

pub reply_to-outcome-requires-clause-marks : goal.reply_to-outcome-requires-clause-marks
reply_to-outcome-requires-clause-marks g c =
    let begun = c.in_ok-tables.ensures in
    kept_lent g.P.Places.represents g.P.Versioned.version (state g.S.Store c.args.closed.now) (state g.S.Store c.in_ok-tables.tables.now)
    (early begun.crash) begun.begun c.args.kept.now c.requires.marks

pub returns-clause-applies : goal.returns-clause-applies
returns-clause-applies g c =
    let given_back = c.begin.follows.holds c.reply_to-outcome.new.tables (subst IsOk (sym c.in_ok-tables.was) refl) in
    applies g.S.Store c.args.closed.now c.in_ok-tables.tables.now c.reply_to-outcome.new.tables c.settle.new.closed c.requires.office c.in_ok-tables.ensures.crash c.in_ok-tables.ensures.begun
    c.reply_to-outcome.ensures.replies (rw given_back at c.settle.ensures)

pub returns-clause-stays : goal.returns-clause-stays
returns-clause-stays g c =
    let given_back = c.begin.follows.holds c.reply_to-outcome.new.tables (subst IsOk (sym c.in_ok-tables.was) refl) in
    let last = rw given_back at c.settle.ensures in
    let b = state g.S.Store c.in_ok-tables.tables.now in
    let m = state g.S.Store c.reply_to-outcome.new.tables in
    let does = c.reply_to-outcome.ensures.replies in
    λ clean. kept_within g.P.Places.represents g.P.Versioned.version (state g.S.Store c.args.closed.now) b m
    (early (went c.reply_to-outcome.result b m does.goes does.aborts)) c.in_ok-tables.ensures.begun c.args.kept.now c.reply_to-outcome.new.kept
    c.reply_to-outcome.ensures.stays c.requires.marks (early last.crash clean)
