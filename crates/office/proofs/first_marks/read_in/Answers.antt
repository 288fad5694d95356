use Rattle.std.proofs.Common.{IsOk, refl, rules, subst, sym, ◌∙◌}
use Rattle.office.proofs.Common.{Database, HasCleanDisk, IsAsBefore, Represents, Survives, early, looked_crash, state}
use Rattle.office.proofs.KeptMarks.{marks_read}
use Rattle.office.proofs.first_marks.read_in.Goals as goal

pub returns-clause-marks : goal.returns-clause-marks
returns-clause-marks g c =
    let a = state g.S.Store c.args.closed.now in
    let b = state g.S.Store c.in_ok-tables.tables.now in
    let m = state g.S.Store c.all_marks-marks.new.tables in
    let z = state g.S.Store c.roll_back.new.self in
    let told = c.all_marks-marks.ensures.answers in
    let given_back = c.begin.follows.holds c.all_marks-marks.new.tables (subst IsOk (sym c.in_ok-tables.was) refl) in
    let crash : Survives m z (λ _. ⊥) = rw given_back at c.roll_back.ensures.crash in
    let same : HasCleanDisk z → IsAsBefore a z = search rules in
    let clean_b : HasCleanDisk m → HasCleanDisk b = early (looked_crash c.all_marks-marks.result b m told.looks told.aborts) in
    marks_read g.P.Places.represents g.P.Versioned.version z c.all_marks-marks.result
    (λ clean opened row k shown.
    let at_m = early crash clean in
    let begun = c.in_ok-tables.ensures.begun (clean_b at_m) in
    told.answers at_m row k (subst (λ (db : Database). Represents g.P.Places.represents g.P.Versioned.version db row k) ((same clean).now opened ∙ sym begun.now_is) shown))
