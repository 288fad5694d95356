use Rattle.std.proofs.Common.{sym, ◌∙◌}
use Rattle.integrity_checks.proofs.Common.{looks_then, state}
use Rattle.integrity_checks.proofs.CatalogueDefects.{bad_elements, bad_containment, no_defect}
use Rattle.integrity_checks.proofs.ExaminationEnds.{earlier, examined, still}
use Rattle.integrity_checks.proofs.catalogue_check.check_contents.Goals as goal

pub returns-then-not-branch : goal.returns-then-not-branch
returns-then-not-branch g c =
    let one = c.in_ok-elements_are_good.ensures in
    examined one.reads.looks (λ clean version read. bad_elements version (state g.S.Store c.args.tables.now).now.trees (sym (one.answers clean version read) ∙ c.if-not-branch.true))

pub returns-then-not-branch-2 : goal.returns-then-not-branch-2
returns-then-not-branch-2 g c =
    let one = c.in_ok-elements_are_good.ensures in
    let two = c.in_ok-containers_are_good.ensures in
    examined (looks_then one.reads.looks two.reads.looks) (λ clean version read.
    bad_containment version (state g.S.Store c.args.tables.now).now.trees (sym (one.answers (earlier two clean) version read) ∙ c.if-not-branch.false) (sym (still one.reads.looks two clean version read) ∙ c.if-not-branch-2.true))

pub returns : goal.returns
returns g c =
    let one = c.in_ok-elements_are_good.ensures in
    let two = c.in_ok-containers_are_good.ensures in
    examined (looks_then one.reads.looks two.reads.looks) (λ clean version read.
    no_defect version (state g.S.Store c.args.tables.now).now.trees (sym (one.answers (earlier two clean) version read) ∙ c.if-not-branch.false) (sym (still one.reads.looks two clean version read) ∙ c.if-not-branch-2.false))
