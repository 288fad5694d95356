use Rattle.std.proofs.Common.{false, sym, ap, ◌∙◌}
use Rattle.sqlite.specs.Value.{owned}
use Rattle.desk_core.specs.Names.{is_name}
use Rattle.integrity_checks.proofs.Common.{option_map_or, says_nothing, says_text, text_in}
use Rattle.integrity_checks.proofs.readers.is_name_text.Goals as goal

pub returns-in-Ok : goal.returns-in-Ok
returns-in-Ok c =
    let is = c.in-Ok.ensures.cases in
    let said = says_text c.in-Text.bytes.now is.1 in
    c.is_name.ensures ∙ ap is_name is.0 ∙ ap (λ o. option_map_or is_name o false) (sym said ∙ ap (λ v. text_in (owned v)) (sym c.in-Text.is))

pub returns-in-Err : goal.returns-in-Err
returns-in-Err c =
    let said = says_nothing c.in-Text.bytes.now c.in-Err.ensures.cases.0 in
    ap (λ o. option_map_or is_name o false) (sym said ∙ ap (λ v. text_in (owned v)) (sym c.in-Text.is))
