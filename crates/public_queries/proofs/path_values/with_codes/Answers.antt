use Rattle.std.proofs.Common.{◌≡◌, ◌++◌, ◌∷◌, [], map, sym, ap, ◌∙◌}
use Rattle.public_queries.proofs.Common.{UnitValues, code_of, identifier, map-append, repository_of, reverse, unwrap_or}
use Rattle.public_queries.proofs.CodedWays.{coded_more}
use Rattle.public_queries.proofs.path_values.with_codes.Goals as goal

pub loop-unit-preserved : goal.loop-unit-preserved
loop-unit-preserved c =
    let at = repository_of c.args.known.now in
    let us = c.loop-unit.yielded in
    let u : UnitValues = c.in-Some.unit in
    let id_of = λ (v : UnitValues). identifier v.values in
    let inv = c.loop-unit.invariant in
    let text : c.in_ok-text_or_empty.field-0 ≡ identifier u.values = c.in_ok-text_or_empty.ensures ∙ ap (λ o. unwrap_or o []) c.text.ensures in
    let ids : c.push.new.self.items ≡ map id_of us ++ identifier u.values ∷ [] = c.in_ok-push.ensures.items ∙ ap (λ l. l ++ c.in_ok-text_or_empty.field-0 ∷ []) inv.ids ∙ ap (λ t. map id_of us ++ t ∷ []) text in
    let code : c.in_ok-code.code ≡ code_of at.country at.repo (map id_of us ++ identifier u.values ∷ []) =
    c.in_ok-code.ensures ∙ ap (λ a. code_of a c.as_str-in-loop-unit.result.now c.as_slice.result.now) c.as_str.ensures
    ∙ ap (λ r. code_of at.country r c.as_slice.result.now) c.as_str-in-loop-unit.ensures
    ∙ ap (λ l. code_of at.country at.repo l) (c.as_slice.ensures.value ∙ ids)
    in
    record {
      units = ap reverse c.in_ok-push-2.ensures.items ∙ coded_more at c.loop-unit.units.items us u c.in_ok-code.code inv.units code;
      ids = ids ∙ sym (map-append id_of us (u ∷ []));
    }
