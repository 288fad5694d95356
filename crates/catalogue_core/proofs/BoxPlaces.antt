-- The number of a container is its place.
use Rattle.std.proofs.Common.{◌≡◌, ℕ, zero, suc, Bool, true, false, cond, not, List, [], ◌∷◌, Some, refl, sym, ap, ◌∙◌}
use Rattle.std.proofs.Common.{subst}
use Rattle.std.specs.Prelude.{filter}
use Rattle.catalogue_core.proofs.Common.{AllByRecursion, BoxKey, NumbersArePlaces, distinct, is_same_box, not-true}
use Rattle.catalogue_core.proofs.Common.{number_among, option_map, slice_get, unwrap_or}
use Rattle.catalogue_core.proofs.Imported.{distinct_filter}
use Rattle.catalogue_core.proofs.ImportedAgain.{box_itself}

abbrev Pass : (BoxKey → Bool) → List BoxKey → Type 0
Pass p xs = AllByRecursion (λ x. p x ≡ true) xs

filtered_pass : (p : BoxKey → Bool) (xs : List BoxKey) → Pass p (filter p xs)
filtered_pass p [] = tt
filtered_pass p (x ∷ xs) = at (p x) refl (filtered_pass p xs)
  where
    at : (b : Bool) → p x ≡ b → Pass p (filter p xs) → Pass p (cond b (x ∷ filter p xs) (filter p xs))
    at true e h = (e, h)
    at false e h = h

all_kept : (p : BoxKey → Bool) (xs : List BoxKey) → Pass p xs → filter p xs ≡ xs
all_kept p [] h = refl
all_kept p (x ∷ xs) h = ap (λ b. cond b (x ∷ filter p xs) (filter p xs)) h.0 ∙ ap (λ l. x ∷ l) (all_kept p xs h.1)

passes_at : (p : BoxKey → Bool) (xs : List BoxKey) (i : ℕ) (b : BoxKey) → Pass p xs → slice_get xs i ≡ Some b
    → p b ≡ true
passes_at p [] i b h e = absurd (cc)
passes_at p (x ∷ xs) zero b h e = let same : x ≡ b = cc in subst (λ y. p y ≡ true) same h.0
passes_at p (x ∷ xs) (suc i) b h e = passes_at p xs i b h.1 e

tail_of : {X : Type 0} (x y : X) (xs ys : List X) → x ∷ xs ≡ y ∷ ys → xs ≡ ys
tail_of x y xs ys e = cc

place_in : (xs : List BoxKey) (i : ℕ) (b : BoxKey) → distinct xs ≡ xs → slice_get xs i ≡ Some b
    → number_among xs b ≡ Some (suc i)
place_in [] i b d e = absurd (cc)
place_in (x ∷ xs) zero b d e =
    let same : x ≡ b = cc in
    ap (λ t. cond t (Some 1) (option_map suc (number_among xs b))) (ap (is_same_box x) (sym same) ∙ box_itself x)
place_in (x ∷ xs) (suc i) b d e =
    let p : BoxKey → Bool = λ later. not (is_same_box x later) in
    let rest : filter p (distinct xs) ≡ xs = tail_of x x (filter p (distinct xs)) xs d in
    let pass : Pass p xs = subst (Pass p) rest (filtered_pass p (distinct xs)) in
    let again : distinct xs ≡ xs = ap distinct (sym (all_kept p xs pass)) ∙ (distinct_filter p xs ∙ rest) in
    ap (λ t. cond t (Some 1) (option_map suc (number_among xs b))) (not-true (is_same_box x b) (passes_at p xs i b pass e))
    ∙ ap (option_map suc) (place_in xs i b again e)

pub numbers_are_places : NumbersArePlaces
numbers_are_places containers i box d e = ap (λ n. unwrap_or n 0) (place_in containers i box d e)
