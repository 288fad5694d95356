use Rattle.std.proofs.Common.{◌∙◌, ap, not}
use Rattle.office.proofs.Common.{Inspects}
use Rattle.office.proofs.Adoptions.{found_open, found_shut}
use Rattle.office.proofs.HandedOn.{handed_on}
use Rattle.office.proofs.inspection.look_over.Goals as goal

pub returns-in_err-verdict-clause-looks : goal.returns-in_err-verdict-clause-looks
returns-in_err-verdict-clause-looks g c = handed_on (Inspects g.S.Store c.args.conn.now c.judge_apart.new.conn g.P.Versioned.version) _ _ c.from_residual.ensures c.in_err-verdict.ensures

pub returns-in_err-confirm_open-clause-looks : goal.returns-in_err-confirm_open-clause-looks
returns-in_err-confirm_open-clause-looks g c =
    let judged = c.in_ok-verdict.ensures in
    handed_on (Inspects g.S.Store c.args.conn.now c.confirm_open.new.conn g.P.Versioned.version) _ _ c.from_residual-in_err-confirm_open.ensures
    (found_shut judged (λ clean. c.is_autocommit.ensures.settled (c.is_autocommit.ensures.value ∙ ap not (judged.back clean).ended)) c.in_err-confirm_open.ensures)

pub returns-clause-looks : goal.returns-clause-looks
returns-clause-looks g c = found_open c.in_ok-verdict.ensures c.in_ok-confirm_open.ensures

pub returns-clause-kept : goal.returns-clause-kept
returns-clause-kept g c clean = (c.in_ok-confirm_open.ensures.still_open clean).is_open
