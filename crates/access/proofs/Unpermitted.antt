-- Marks in memory have no permits: they are those of a reader without permits.
use Rattle.std.proofs.Common.{◌≡◌, ℕ, Bool, false, List, [], ◌∷◌, map, refl, sym, ap, ap₂, ◌∙◌}
use Rattle.access.proofs.Common.{AreMarks, AreWalkMarks, Forest, Mark, Unit, mark_of, nodes, nodes-each, with_permit}
use Rattle.access.proofs.Common.{without_number}

abbrev pub never : ℕ → Bool
never u = false

one_unpermitted : (m : Mark) (u : Unit) → without_number m ≡ mark_of u → m ≡ with_permit never m
one_unpermitted m u e =
    let none : m.permit ≡ false = ap (λ (x : Mark). x.permit) e in ap (λ b. record m { permit = b }) none

pub unpermitted : (units : List Unit) (marks : List Mark) → AreMarks units marks → marks ≡ map (with_permit never) marks
unpermitted [] [] e = refl
unpermitted [] (m ∷ ms) e = absurd (let bad : without_number m ∷ map without_number ms ≡ [] = e in cc)
unpermitted (u ∷ us) [] e = refl
unpermitted (u ∷ us) (m ∷ ms) e =
    let both : without_number m ∷ map without_number ms ≡ mark_of u ∷ map mark_of us = e in
    let here : without_number m ≡ mark_of u = cc in
    let rest : map without_number ms ≡ map mark_of us = cc in
    ap₂ ◌∷◌ (one_unpermitted m u here) (unpermitted us ms rest)

-- the marks in walk order, without their numbers
walk_marks : (f : Forest Unit) (marks : List Mark) → AreWalkMarks f marks → AreMarks (nodes f) marks
walk_marks f marks it =
    ap (map without_number) it.walked ∙ sym (nodes-each without_number it.forest) ∙ ap nodes it.theirs ∙ nodes-each mark_of f

pub walk_unpermitted : (f : Forest Unit) (marks : List Mark) → AreWalkMarks f marks
    → marks ≡ map (with_permit never) marks
walk_unpermitted f marks it = unpermitted (nodes f) marks (walk_marks f marks it)
