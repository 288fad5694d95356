use Rattle.std.proofs.Common.{Some, sym, ap, ◌∙◌}
use Rattle.sqlite.specs.Value.{owned}
use Rattle.integrity_checks.proofs.Common.{says_nothing, says_text, text_in}
use Rattle.integrity_checks.proofs.cells.text_in.Goals as goal

pub returns-in-Ok : goal.returns-in-Ok
returns-in-Ok c =
    let is = c.in-Ok.ensures.cases in
    ap Some is.0 ∙ sym (says_text c.in-Text.bytes.now is.1) ∙ ap (λ v. text_in (owned v)) (sym c.in-Text.is)

pub returns-in-Err : goal.returns-in-Err
returns-in-Err c = sym (says_nothing c.in-Text.bytes.now c.in-Err.ensures.cases.0) ∙ ap (λ v. text_in (owned v)) (sym c.in-Text.is)
