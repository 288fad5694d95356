use Rattle.std.proofs.Common.{◌≡◌, ℕ, length, List, [], ◌∷◌, map, rules, refl, sym, ap, subst, ◌∙◌}
use Rattle.std.proofs.lemmas.Iterator.Adapters.{YieldsList-from_vec}
use Rattle.std.proofs.lemmas.Iterator.Consumers.{YieldsList-end, YieldsList-turn}
use Rattle.catalogue_statements.proofs.TextReads.{AreTold, cell_of, all_told, one_told}
use Rattle.catalogue_store.proofs.Common.{Bytes, Has, has_at, has_map}
use Rattle.catalogue_store.proofs.ValueCauses.{place_there}
use Rattle.catalogue_store.proofs.unit_values.texts_by_element.Goals as goal

same_items : {A : Type 0} (xs : List A) → map (λ x. x) xs ≡ xs
same_items [] = refl
same_items (x ∷ xs) = ap (λ l. x ∷ l) (same_items xs)

pub loop-element-preserved-in-Some-place_of : goal.loop-element-preserved-in-Some-place_of
loop-element-preserved-in-Some-place_of c =
    one_told c.loop-element.texts c.loop-element.yielded c.in-Some.element c.in-Some-place_of.place c.in-Some-place_of.ensures.small c.in-Some-place_of.ensures.place c.loop-element.invariant

pub loop-element-preserved : goal.loop-element-preserved
loop-element-preserved c =
    one_told c.loop-element.texts c.loop-element.yielded c.in-Some.element c.in-Some-place_of.place c.in-Some-place_of.ensures.small c.in-Some-place_of.ensures.place c.loop-element.invariant

pub returns-clause-value : goal.returns-clause-value
returns-clause-value c values long are =
    let given = c.args.elements.items in
    let t = YieldsList-end (YieldsList-from_vec given (search rules) (search rules)) c.loop-element.yielded c.loop-element.element-iterator c.loop-element.yielded_by c.next.result c.next.new.self c.in-None.is c.next.ensures.steps in
    let all : c.loop-element.yielded ≡ given = sym (same_items c.loop-element.yielded) ∙ t.0 in
    all_told c.loop-element.texts given values long are (subst (AreTold c.loop-element.texts) all c.loop-element.invariant)

pub returns-in_default-clause-places : goal.returns-in_default-clause-places
returns-in_default-clause-places c values long are =
    let given = c.args.elements.items in
    let turn = YieldsList-turn (YieldsList-from_vec given (search rules) (search rules)) c.loop-element.yielded c.loop-element.element-iterator c.loop-element.yielded_by c.next.result c.next.new.self c.in-Some.element c.in-Some.is c.next.ensures.steps in
    let cell : Has (map cell_of given) (cell_of c.in-Some.element) = has_map cell_of given c.in-Some.element (has_at given (length c.loop-element.yielded) c.in-Some.element turn.0 turn.1) in
    let place = place_there values long (cell_of c.in-Some.element) (subst (λ (l : List (ℕ × Bytes)). Has l (cell_of c.in-Some.element)) are cell) in
    absurd (c.in_default.ensures.none place.0 place.1 place.2)
