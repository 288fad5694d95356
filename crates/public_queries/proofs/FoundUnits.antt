-- Units that are found by their numbers.
use Rattle.std.proofs.Common.{◌≡◌, Bool, true, false, cond, List, [], ◌∷◌, Some, refl, ap, ◌∙◌, nat_eq, eq-eqb}
use Rattle.std.specs.List.{IsDistinct, find}
use Rattle.std.specs.Prelude.{map}
use Rattle.tree_core.proofs.Lists.{eqb_comm}
use Rattle.public_queries.proofs.Common.{AllByRecursion, Empty, Forest, Node, Unit, all_split, has, has_id, nodes}
use Rattle.public_queries.proofs.Common.{path}

pub path_all : (P : Unit → Type 0) (is : Unit → Bool) (f : Forest Unit) → AllByRecursion P (nodes f)
    → AllByRecursion P (path is f)
path_all P is Empty h = tt
path_all P is (Node a c o) h =
    let r = all_split P (nodes c) (nodes o) h.1 in
    at (is a) (has is c) (path_all P is c r.0) (path_all P is o r.1)
  where
    at : (b d : Bool) → AllByRecursion P (path is c) → AllByRecursion P (path is o)
        → AllByRecursion P (cond b (a ∷ []) (cond d (a ∷ path is c) (path is o)))
    at true d x y = (h.0, tt)
    at false true x y = (h.0, x)
    at false false x y = y

found_later : (y : Unit) (ys zs : List Unit) → AllByRecursion (λ n. nat_eq y.id n ≡ false) (map (λ (u : Unit). u.id) zs)
    → AllByRecursion (λ (z : Unit). find (has_id z.id) ys ≡ Some z) zs
    → AllByRecursion (λ (z : Unit). find (has_id z.id) (y ∷ ys) ≡ Some z) zs
found_later y ys [] h k = tt
found_later y ys (z ∷ zs) h k =
    (ap (λ b. cond b (Some y) (find (has_id z.id) ys)) (eqb_comm z.id y.id ∙ h.0) ∙ k.0, found_later y ys zs h.1 k.1)

-- where no two have one number, each is found by its own
pub found_each : (xs : List Unit) → IsDistinct nat_eq (map (λ (u : Unit). u.id) xs)
    → AllByRecursion (λ (x : Unit). find (has_id x.id) xs ≡ Some x) xs
unfolding IsDistinct
found_each [] d = tt
found_each (y ∷ ys) d = (ap (λ b. cond b (Some y) (find (has_id y.id) ys)) (eq-eqb y.id y.id refl), found_later y ys ys d.0 (found_each ys d.1))
