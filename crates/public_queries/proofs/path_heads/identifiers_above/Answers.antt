use Rattle.std.proofs.Common.{◌≡◌, List, [], ◌∷◌, ◌++◌, refl, sym, ap, subst, ◌∙◌}
use Rattle.public_queries.proofs.Common.{Bytes, Head, IfOk, before_last, head_identifiers}
use Rattle.public_queries.proofs.path_heads.identifiers_above.Goals as goal

-- those of all but the last
all_but : (above : List Head) (last : Head) → before_last (head_identifiers (above ++ last ∷ [])) ≡ head_identifiers above
all_but [] last = refl
all_but (head ∷ []) last = refl
all_but (head ∷ next ∷ above) last = ap (λ l. head.identifier ∷ l) (all_but (next ∷ above) last)

pub returns-in-Some : goal.returns-in-Some
returns-in-Some c =
    let same = ap (λ (l : List Head). before_last (head_identifiers l)) c.in-Some.ensures.cases.0 ∙ all_but c.in-Some.above.now c.in-Some._last.now in
    subst (λ (l : List Bytes). IfOk c.identifiers.result (λ ids. ids.items ≡ l)) (sym same) c.identifiers.ensures
