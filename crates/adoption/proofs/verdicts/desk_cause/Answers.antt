use Rattle.std.proofs.Common.{◌≡◌, Some, sym, ap, subst, ◌∙◌}
use Rattle.row_decoding.proofs.ReadCalls.{before}
use Rattle.adoption.proofs.Common.{AreGoodTables, Database, day_is_broken, looks_then, own_row_of, rows_in, state}
use Rattle.adoption.proofs.CauseLemmas.{told_desk, good_tables, broken_day, kept_day}
use Rattle.adoption.proofs.JudgmentEnds.{judged, passes_later, still_known}
use Rattle.adoption.proofs.verdicts.desk_cause.Goals as goal

pub returns-in-Some : goal.returns-in-Some
returns-in-Some g c = judged c.in_ok-defect.ensures.reads.looks (λ clean known.
    let db = (state g.S.Store c.args.tables.now).now.trees in
    ap Some c.cause.ensures
    ∙ sym (told_desk g.P.Versioned.version db c.args.own.now (sym known.own_row) known.catalogue c.in-Some.defect (sym c.in-Some.is ∙ c.in_ok-defect.ensures.answers clean)))

pub returns-in_err-breaks_day_rules : goal.returns-in_err-breaks_day_rules
returns-in_err-breaks_day_rules g c =
    let v = g.P.Versioned.version in
    let one = c.in_ok-defect.ensures in
    passes_later c.from_residual-in_err-breaks_day_rules.ensures one.reads.looks c.in_err-breaks_day_rules.ensures (λ clean known.
    still_known (AreGoodTables v) one.reads.looks clean (good_tables v (state g.S.Store c.args.tables.now).now c.args.own.now known (sym c.in_default.is ∙ one.answers clean)))

pub returns-then-branch : goal.returns-then-branch
returns-then-branch g c =
    let v = g.P.Versioned.version in
    let db = (state g.S.Store c.args.tables.now).now in
    let own = c.args.own.now in
    let one = c.in_ok-defect.ensures in
    let two = c.in_ok-breaks_day_rules.ensures in
    judged (looks_then one.reads.looks two.reads.looks) (λ clean known.
    let clean_mid = before _ _ two.reads.looks clean in
    let good = good_tables v db own known (sym c.in_default.is ∙ one.answers clean_mid) in
    let told = subst (λ (db : Database). own_row_of v db.trees ≡ Some own → AreGoodTables v db → c.in_ok-breaks_day_rules.field-0 ≡ day_is_broken (rows_in v db.trees)) (one.reads.looks.same clean_mid) (two.answers clean) in
    sym (broken_day v db.trees good.catalogue good.desk (sym (told known.own_row good) ∙ c.if-branch.true)))

pub returns : goal.returns
returns g c =
    let v = g.P.Versioned.version in
    let db = (state g.S.Store c.args.tables.now).now in
    let own = c.args.own.now in
    let one = c.in_ok-defect.ensures in
    let two = c.in_ok-breaks_day_rules.ensures in
    judged (looks_then one.reads.looks two.reads.looks) (λ clean known.
    let clean_mid = before _ _ two.reads.looks clean in
    let good = good_tables v db own known (sym c.in_default.is ∙ one.answers clean_mid) in
    let told = subst (λ (db : Database). own_row_of v db.trees ≡ Some own → AreGoodTables v db → c.in_ok-breaks_day_rules.field-0 ≡ day_is_broken (rows_in v db.trees)) (one.reads.looks.same clean_mid) (two.answers clean) in
    sym (kept_day v db.trees good.catalogue good.desk (sym (told known.own_row good) ∙ c.if-branch.false)))
