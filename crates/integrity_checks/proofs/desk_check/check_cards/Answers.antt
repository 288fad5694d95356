use Rattle.std.proofs.Common.{sym, ◌∙◌}
use Rattle.integrity_checks.proofs.Common.{looks_then, state}
use Rattle.integrity_checks.proofs.DeskDefects.{bad_seats, bad_permits, good_cards}
use Rattle.integrity_checks.proofs.ExaminationEnds.{earlier, examined, examined_last, still}
use Rattle.integrity_checks.proofs.desk_check.check_cards.Goals as goal

pub returns-then-not-branch : goal.returns-then-not-branch
returns-then-not-branch g c =
    let one = c.in_ok-seats_are_good.ensures in
    examined one.reads.looks (λ clean a held. bad_seats a (state g.S.Store c.args.tables.now).now.trees (sym (one.answers clean a held) ∙ c.if-not-branch.true))

pub returns-then-not-branch-2 : goal.returns-then-not-branch-2
returns-then-not-branch-2 g c =
    let one = c.in_ok-seats_are_good.ensures in
    let two = c.in_ok-permits_are_good.ensures in
    examined (looks_then one.reads.looks two.reads.looks) (λ clean a held.
    bad_permits a (state g.S.Store c.args.tables.now).now.trees (sym (one.answers (earlier two clean) a held) ∙ c.if-not-branch.false) (sym (still one.reads.looks two clean a held) ∙ c.if-not-branch-2.true))

pub returns : goal.returns
returns g c =
    let one = c.in_ok-seats_are_good.ensures in
    let two = c.in_ok-permits_are_good.ensures in
    examined_last (looks_then one.reads.looks two.reads.looks) c.check_orders.ensures (λ clean told follows a held.
    follows a held
    ∙ good_cards a (state g.S.Store c.args.tables.now).now.trees (sym (one.answers (earlier two clean) a held) ∙ c.if-not-branch.false) (sym (still one.reads.looks two clean a held) ∙ c.if-not-branch-2.false))
