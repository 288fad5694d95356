use Rattle.std.proofs.Common.{◌≡◌, Some, sym, ap, subst, ◌∙◌}
use Rattle.integrity_checks.proofs.ExaminationEnds.{earlier, still}
use Rattle.adoption.proofs.Common.{Database, HasCleanDisk, HasGoodCatalogueTables, StandInOrder, cell_cause, looks_then}
use Rattle.adoption.proofs.Common.{own_row_of, state}
use Rattle.adoption.proofs.CauseLemmas.{no_own_row, told_catalogue, fine_catalogue}
use Rattle.adoption.proofs.JudgmentEnds.{as_judged, judged, judged_last, passes_later, still_known}
use Rattle.adoption.proofs.verdicts.least_cause.Goals as goal

pub returns-in_default : goal.returns-in_default
returns-in_default g c =
    let one = c.in_ok-own.ensures in
    judged one.reads.looks (λ clean ordered. sym (no_own_row g.P.Versioned.version (state g.S.Store c.args.tables.now).now.trees (sym c.in_default.is ∙ (one.answers clean).2 ordered)))

pub returns-in_err-defect : goal.returns-in_err-defect
returns-in_err-defect g c = passes_later c.from_residual-in_err-defect.ensures c.in_ok-own.ensures.reads.looks (as_judged c.in_err-defect.ensures) (λ _ _. tt)

pub returns-in-Some-2 : goal.returns-in-Some-2
returns-in-Some-2 g c =
    let v = g.P.Versioned.version in
    let own = c.in-Some.own in
    let old = state g.S.Store c.args.tables.now in
    let one = c.in_ok-own.ensures in
    let two = c.in_ok-defect.ensures in
    judged (looks_then one.reads.looks two.reads.looks) (λ clean ordered.
    let is : Some own ≡ own_row_of v old.now.trees = sym c.in-Some.is ∙ (one.answers (earlier two clean)).2 ordered in
    ap Some c.cause.ensures ∙ sym (told_catalogue v old.now.trees own is c.in-Some-2.defect (sym c.in-Some-2.is ∙ still one.reads.looks two clean)))

pub returns : goal.returns
returns g c =
    let v = g.P.Versioned.version in
    let own = c.in-Some.own in
    let old = state g.S.Store c.args.tables.now in
    let one = c.in_ok-own.ensures in
    let two = c.in_ok-defect.ensures in
    let looked = looks_then one.reads.looks two.reads.looks in
    let good = λ (clean : HasCleanDisk (state g.S.Store c.load_check.new.tables)) (ordered : StandInOrder old.now).
    let first = one.answers (earlier two clean) in
    let is : Some own ≡ own_row_of v old.now.trees = sym c.in-Some.is ∙ first.2 ordered in
    let here : HasGoodCatalogueTables v own old.now = record { schema_is = first.0; live = first.1; ordered = ordered; own_row = sym is; catalogue = fine_catalogue v old.now.trees own is (sym c.in_default-2.is ∙ still one.reads.looks two clean) } in
    still_known (HasGoodCatalogueTables v own) looked clean here in
    judged_last looked c.desk_cause.ensures good (λ clean cause answers ordered. subst (λ (db : Database). cause ≡ cell_cause v db.trees) (looked.same clean) (answers (good clean ordered)))
