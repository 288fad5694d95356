use Rattle.std.proofs.Common.{IsOk, refl, rules, subst, sym}
use Rattle.office.proofs.Common.{HasCleanDisk, IsAsBefore, Survives, early, looked_crash, state}
use Rattle.office.proofs.KeptMarks.{answers_known, kept_as_before, kept_within}
use Rattle.office.proofs.queries.ask_in.Goals as goal

pub returns-clause-asks : goal.returns-clause-asks
returns-clause-asks g c =
    let b = state g.S.Store c.in_ok-tables.tables.now in
    let m = state g.S.Store c.answer_to-outcome.new.tables in
    let told = c.answer_to-outcome.ensures.answers in
    let does = answers_known c.args.kept.now (λ clean. early (looked_crash c.answer_to-outcome.result b m told.looks told.aborts) clean) (λ clean. early c.in_ok-tables.ensures.crash clean) c.in_ok-tables.ensures.begun c.requires.marks told in
    search (rules, does)

pub returns-in_err-tables-clause-marks : goal.returns-in_err-tables-clause-marks
returns-in_err-tables-clause-marks g c =
    let a = state g.S.Store c.args.closed.now in
    let z = state g.S.Store c.begin.follows.lender-at-none in
    let crash : Survives a z (λ _. ⊥) = search rules in
    let same : HasCleanDisk z → IsAsBefore a z = search rules in
    kept_as_before g.P.Places.represents g.P.Versioned.version c.args.kept.now a z (early crash) same (λ clean. c.requires.marks)

pub returns-clause-marks : goal.returns-clause-marks
returns-clause-marks g c =
    let a = state g.S.Store c.args.closed.now in
    let b = state g.S.Store c.in_ok-tables.tables.now in
    let m = state g.S.Store c.answer_to-outcome.new.tables in
    let z = state g.S.Store c.roll_back.new.self in
    let told = c.answer_to-outcome.ensures.answers in
    let given_back = c.begin.follows.holds c.answer_to-outcome.new.tables (subst IsOk (sym c.in_ok-tables.was) refl) in
    let crash : Survives m z (λ _. ⊥) = rw given_back at c.roll_back.ensures.crash in
    let same : HasCleanDisk z → IsAsBefore a z = search rules in
    let clean_b : HasCleanDisk m → HasCleanDisk b = early (looked_crash c.answer_to-outcome.result b m told.looks told.aborts) in
    kept_as_before g.P.Places.represents g.P.Versioned.version c.answer_to-outcome.new.kept a z
    (λ clean. early c.in_ok-tables.ensures.crash (clean_b (early crash clean))) same
    (λ clean. kept_within g.P.Places.represents g.P.Versioned.version a b m clean_b c.in_ok-tables.ensures.begun c.args.kept.now
    c.answer_to-outcome.new.kept c.answer_to-outcome.ensures.stays c.requires.marks (early crash clean))
