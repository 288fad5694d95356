-- One more element among those that a unit may have.
use Rattle.std.proofs.Common.{◌≡◌, ℕ, ◌+◌, ◌<◌, ◌++◌, ◌∷◌, [], List, length, take, get_or, ap, refl, ◌∙◌, Option, Some}
use Rattle.std.proofs.Common.{None}
use Rattle.std.proofs.lemmas.List.{take_more}
use Rattle.std.proofs.lemmas.List.Elements.{filter_map-append}
use Rattle.std.specs.Option.{option_to_list}
use Rattle.isad_core.specs.Values.{element_line, lines_among}
use Rattle.isad_core.specs.declared.element.Element.{Element}
use Rattle.isad_core.specs.declared.values.Values.{Values}
use Rattle.isad_core.proofs.Common.{Bytes, cons_option}

one_line_of : {X : Type 0} → (o : Option X) → cons_option o [] ≡ option_to_list o
one_line_of None = refl
one_line_of (Some x) = refl

pub lines_among_more : (values : Values) (elements : List Element) (i : ℕ) (d : Element) → i < length elements
    → lines_among (take (i + 1) elements) values ≡ lines_among (take i elements) values ++ option_to_list (element_line values (get_or elements i d))
lines_among_more values elements i d within =
    ap (λ (some : List Element). lines_among some values) (take_more elements i d within)
    ∙ filter_map-append (element_line values) (take i elements) (get_or elements i d ∷ [])
    ∙ ap (λ (last : List (Element × Bytes)). lines_among (take i elements) values ++ last) (one_line_of (element_line values (get_or elements i d)))
