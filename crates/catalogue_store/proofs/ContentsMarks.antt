-- One unit more, and its marks.
use Rattle.std.proofs.Common.{◌≡◌, ℕ, ◌+◌, ◌<◌, List, [], ◌∷◌, ◌++◌, length, take, sym, subst}
use Rattle.tree_places.specs.Attachments.{AreWholeMarksOf}
use Rattle.tree_places.specs.declared.attached.Attached.{Attached}
use Rattle.catalogue_store.proofs.Common.{AreWholeMarksOfEach, Forest, Unit}

each_more : (f : Forest Unit) (ids : List ℕ) (id : ℕ) (found : List Attached) (one : Attached)
    → AreWholeMarksOfEach f ids found → AreWholeMarksOf f id one → AreWholeMarksOfEach f (ids ++ id ∷ []) (found ++ one ∷ [])
each_more f [] id [] one h own = (own, tt)
each_more f [] id (two ∷ found) one h own = absurd h
each_more f (x ∷ ids) id [] one h own = absurd h
each_more f (x ∷ ids) id (two ∷ found) one h own = (h.0, each_more f ids id found one h.1 own)

pub whole_more : (f : Forest Unit) (units : List ℕ) (i id : ℕ) (found more : List Attached) (one : Attached)
    → i < length units → take (i + 1) units ≡ take i units ++ id ∷ [] → AreWholeMarksOfEach f (take i units) found
    → AreWholeMarksOf f id one → more ≡ found ++ one ∷ []
    → AreWholeMarksOfEach f (take (i + 1) units) more
whole_more f units i id found more one low next so_far own pushed =
    subst (AreWholeMarksOfEach f (take (i + 1) units)) (sym pushed)
    (subst (λ (ids : List ℕ). AreWholeMarksOfEach f ids (found ++ one ∷ [])) (sym next) (each_more f (take i units) id found one so_far own))
