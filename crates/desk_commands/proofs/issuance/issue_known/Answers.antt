use Rattle.std.proofs.Common.{ap, sym, ◌∙◌}
use Rattle.desk_commands.proofs.Common.{WaitingOrder, judged_now, looks_then, option_map}
use Rattle.desk_commands.proofs.Spared.{after_look, desk_passed, does_then, is_refused, office_passed}
use Rattle.desk_commands.proofs.Issued.{decided_as, first_order}
use Rattle.desk_commands.proofs.OneStep.{both_told}
use Rattle.desk_commands.proofs.issuance.issue_known.Goals as goal

pub returns-in_err-who : goal.returns-in_err-who
returns-in_err-who g c = let told = c.in_err-who.ensures.answers in desk_passed _ c.from_residual.ensures told.aborts told.faults

pub returns-in_err-is_open : goal.returns-in_err-is_open
returns-in_err-is_open g c =
    let told = c.in_err-is_open.ensures.answers in
    after_look c.in_ok-who.ensures.answers.looks (office_passed _ c.from_residual-in_err-is_open.ensures told.aborts told.faults)

pub returns-in-Err : goal.returns-in-Err
returns-in-Err g c =
    let who = c.in_ok-who.ensures.answers.call in
    let opened = c.in_ok-is_open.ensures.answers in
    is_refused (looks_then who.looks opened.looks) (λ clean s sound so it.
    let told = both_told who opened clean s it in
    sym (c.in-Err.ensures.refused ∙ decided_as g.P.Versioned.version c.args.ticket sound so.0 so.1 so.2 told.0 (told.1 (judged_now s sound) so.0 so.3)))

pub returns-in-Ok : goal.returns-in-Ok
returns-in-Ok g c =
    let who = c.in_ok-who.ensures.answers.call in
    let opened = c.in_ok-is_open.ensures.answers in
    does_then (looks_then who.looks opened.looks) c.lend.ensures (λ clean s sound so it.
    let told = both_told who opened clean s it in (
      sym (c.in-Ok.ensures.refused ∙ decided_as g.P.Versioned.version c.args.ticket sound so.0 so.1 so.2 told.0 (told.1 (judged_now s sound) so.0 so.3)),
      first_order s c.args.container c.in-Ok.order (ap (option_map (λ (x : WaitingOrder). x.order)) (sym so.2.is_first) ∙ c.in-Ok.ensures.order),
    ))
