use Rattle.std.proofs.Common.{sym, ◌∙◌}
use Rattle.integrity_checks.proofs.Common.{looks_then, state}
use Rattle.integrity_checks.proofs.DeskDefects.{bad_holdings, bad_runs, no_defect}
use Rattle.integrity_checks.proofs.ExaminationEnds.{earlier, examined, still}
use Rattle.integrity_checks.proofs.desk_check.check_past.Goals as goal

pub returns-then-not-branch : goal.returns-then-not-branch
returns-then-not-branch g c =
    let one = c.in_ok-holdings_are_good.ensures in
    examined one.reads.looks (λ clean a held are fine. bad_holdings a (state g.S.Store c.args.tables.now).now.trees (sym (one.answers clean a held are fine) ∙ c.if-not-branch.true))

pub returns-then-not-branch-2 : goal.returns-then-not-branch-2
returns-then-not-branch-2 g c =
    let one = c.in_ok-holdings_are_good.ensures in
    let two = c.in_ok-runs_are_good.ensures in
    examined (looks_then one.reads.looks two.reads.looks) (λ clean a held are fine.
    bad_runs a (state g.S.Store c.args.tables.now).now.trees (sym (one.answers (earlier two clean) a held are fine) ∙ c.if-not-branch.false) (sym (still one.reads.looks two clean a held are fine) ∙ c.if-not-branch-2.true))

pub returns : goal.returns
returns g c =
    let one = c.in_ok-holdings_are_good.ensures in
    let two = c.in_ok-runs_are_good.ensures in
    examined (looks_then one.reads.looks two.reads.looks) (λ clean a held are fine.
    no_defect a (state g.S.Store c.args.tables.now).now.trees (sym (one.answers (earlier two clean) a held are fine) ∙ c.if-not-branch.false) (sym (still one.reads.looks two clean a held are fine) ∙ c.if-not-branch-2.false))
