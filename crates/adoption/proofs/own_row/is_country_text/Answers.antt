use Rattle.std.proofs.Common.{false, sym, ap, ◌∙◌}
use Rattle.sqlite.specs.Value.{owned}
use Rattle.adoption.proofs.Common.{is_country, option_map_or, says_nothing, says_text, text_in}
use Rattle.adoption.proofs.own_row.is_country_text.Goals as goal

pub returns-in-Ok : goal.returns-in-Ok
returns-in-Ok c =
    let is = c.in-Ok.ensures.cases in
    let said = says_text c.in-Text.bytes.now is.1 in
    c.is_country.ensures ∙ ap is_country is.0 ∙ ap (λ o. option_map_or is_country o false) (sym said ∙ ap (λ v. text_in (owned v)) (sym c.in-Text.is))

pub returns-in-Err : goal.returns-in-Err
returns-in-Err c =
    let said = says_nothing c.in-Text.bytes.now c.in-Err.ensures.cases.0 in
    ap (λ o. option_map_or is_country o false) (sym said ∙ ap (λ v. text_in (owned v)) (sym c.in-Text.is))
