-- Containers that stand once, one more at a time.
use Rattle.std.proofs.Common.{◌≡◌, ◌∙◌, ◌++◌, ◌∷◌, [], Bool, true, false, List, refl, sym, ap, ap₂, cond}
use Rattle.std.proofs.lemmas.List.Elements.{filter-append}
use Rattle.std.proofs.lemmas.List.Folds.{list_any-append}
use Rattle.std.proofs.lemmas.Slice.Eq.{bytes_eq-Decides}
use Rattle.std.specs.Prelude.{◌&&◌, ◌||◌, not, filter, if◌then◌else◌}
use Rattle.std.specs.Str.{bytes_eq}
use Rattle.isad_core.specs.Boxes.{distinct, is_same_box}
use Rattle.isad_core.specs.declared.values.BoxKey.{BoxKey}
use Rattle.isad_core.proofs.Common.{Bytes, list_any}

bytes_eq_sym : (a b : Bytes) → bytes_eq a b ≡ bytes_eq b a
bytes_eq_sym a b = go (bytes_eq a b) (bytes_eq b a) refl refl
  where
    go : (x y : Bool) → bytes_eq a b ≡ x → bytes_eq b a ≡ y → x ≡ y
    go true true e f = refl
    go false false e f = refl
    go true false e f =
        let yes : bytes_eq b a ≡ true = (bytes_eq-Decides b a).1 (sym ((bytes_eq-Decides a b).0 e)) in
        sym yes ∙ f
    go false true e f =
        let yes : bytes_eq a b ≡ true = (bytes_eq-Decides a b).1 (sym ((bytes_eq-Decides b a).0 f)) in
        sym e ∙ yes

pub same_sym : (a b : BoxKey) → is_same_box a b ≡ is_same_box b a
same_sym a b =
    ap₂ (λ x y. x && y) (bytes_eq_sym a.name b.name) (ap₂ (λ x y. x && y) (bytes_eq_sym a.location b.location) (bytes_eq_sym a.kind b.kind))

or_false : (a : Bool) → (a || false) ≡ a
or_false true = refl
or_false false = refl

or_comm : (a b : Bool) → (a || b) ≡ (b || a)
or_comm true true = refl
or_comm true false = refl
or_comm false true = refl
or_comm false false = refl

-- a container that stood already adds nothing
pub distinct_more : (bs : List BoxKey) (b : BoxKey)
    → distinct (bs ++ b ∷ []) ≡ distinct bs ++ (if list_any (is_same_box b) bs then [] else b ∷ [])
distinct_more [] b = refl
distinct_more (c ∷ bs) b =
    ap (λ ds. c ∷ filter (λ later. not (is_same_box c later)) ds) (distinct_more bs b)
    ∙ (ap (λ ds. c ∷ ds) (filter-append (λ later. not (is_same_box c later)) (distinct bs) (if list_any (is_same_box b) bs then [] else b ∷ []))
    ∙ ap (λ ds. distinct (c ∷ bs) ++ ds) (go (list_any (is_same_box b) bs) (is_same_box b c) (same_sym c b)))
  where
    go : (any same : Bool) → is_same_box c b ≡ same
        → filter (λ later. not (is_same_box c later)) (if any then [] else b ∷ []) ≡ (if same || any then [] else b ∷ [])
    go true true e = refl
    go true false e = refl
    go false true e = ap (λ (s : Bool). cond (not s) (b ∷ []) []) e
    go false false e = ap (λ (s : Bool). cond (not s) (b ∷ []) []) e

-- what stood, with one more
pub stood_more : (bs : List BoxKey) (b q : BoxKey)
    → list_any (is_same_box q) (bs ++ b ∷ []) ≡ (is_same_box b q || list_any (is_same_box q) bs)
stood_more bs b q =
    list_any-append (is_same_box q) bs (b ∷ [])
    ∙ (ap (λ s. list_any (is_same_box q) bs || s) (or_false (is_same_box q b) ∙ same_sym q b) ∙ or_comm (list_any (is_same_box q) bs) (is_same_box b q))
