-- The path of the unit that a source has under a number.
use Rattle.std.proofs.Common.{◌≡◌, ℕ, suc, ◌+◌, Bool, true, false, not, cond, ◌||◌, List, [], ◌∷◌, length, map, Option}
use Rattle.std.proofs.Common.{Some, None, refl, sym, ap, ap₂, ◌∙◌, nat_eq, arith}
use Rattle.refinement.proofs.Paths.{path_there}
use Rattle.csv_import.proofs.Common.{AllByRecursion, AreGoodUnits, Bytes, Catalogue, Empty, Forest, KnowsDepths, Node}
use Rattle.csv_import.proofs.Common.{Row, Unit, all_split, depth_under, each, eqb-true, find, found_numbers, has}
use Rattle.csv_import.proofs.Common.{has_id, is_from, length-map, list_any, nodes, or_there, path, path-each}

-- ---- paths

-- two tests that agree on each unit find one path
same_any : (p q : Unit → Bool) (us : List Unit) → AllByRecursion (λ (u : Unit). p u ≡ q u) us
    → list_any p us ≡ list_any q us
same_any p q [] h = refl
same_any p q (u ∷ us) h = ap₂ (λ (a b : Bool). a || b) h.0 (same_any p q us h.1)

pub same_path : (p q : Unit → Bool) (f : Forest Unit) → AllByRecursion (λ (u : Unit). p u ≡ q u) (nodes f)
    → path p f ≡ path q f
same_path p q Empty h = refl
same_path p q (Node u c o) h =
    let parts = all_split (λ (u : Unit). p u ≡ q u) (nodes c) (nodes o) h.1 in
    ap (λ (b : Bool). cond b (u ∷ []) (cond (has p c) (u ∷ path p c) (path p o))) h.0
    ∙ (ap (λ (b : Bool). cond (q u) (u ∷ []) (cond b (u ∷ path p c) (path p o))) (same_any p q (nodes c) parts.0)
    ∙ ap₂ (λ (x y : List Unit). cond (q u) (u ∷ []) (cond (has q c) (u ∷ x) y)) (same_path p q c parts.0) (same_path p q o parts.1))

no_length : {A : Type 0} (xs : List A) → nat_eq (length xs) 0 ≡ true → xs ≡ []
no_length [] h = refl
no_length (x ∷ xs) h = absurd (let e = eqb-true (suc (length xs)) 0 h in omega (arith, e))

pub none_path : (is : Unit → Bool) (f : Forest Unit) → has is f ≡ false → path is f ≡ []
none_path is f h = no_length (path is f) (path_there is f ∙ ap not h)

-- the path of a unit that is found, by its number
pub path_by_number : (c : Catalogue) (source legacy : Bytes) (v : Unit) → AreGoodUnits c
    → find (is_from source legacy) (nodes c.forest) ≡ Some v
    → path (nat_eq v.id) (each (λ (u : Unit). u.id) c.forest) ≡ map (λ (u : Unit). u.id) (path (is_from source legacy) c.forest)
path_by_number c source legacy v good found =
    path-each (nat_eq v.id) (λ (u : Unit). u.id) c.forest
    ∙ ap (map (λ (u : Unit). u.id)) (same_path (has_id v.id) (is_from source legacy) c.forest (found_numbers source legacy (nodes c.forest) v good.ids good.pairs found))

-- ---- depths

-- how deep a row lies that names a catalogued unit, by the length of the unit's path
pub depth_found : (f : Forest Unit) (source legacy : Bytes) (n : ℕ) (b : Bool)
    → length (path (is_from source legacy) f) ≡ n → nat_eq n 0 ≡ b
    → depth_under f source (Some legacy) [] ≡ cond b None (Some (n + 1))
depth_found f source legacy n b long zero =
    let there = turned (has (is_from source legacy) f) b (sym (path_there (is_from source legacy) f) ∙ (ap (λ k. nat_eq k 0) long ∙ zero)) in
    ap₂ (λ (h : Bool) k. cond h (Some (k + 1)) None) there long ∙ swapped b
  where
    turned : (h b : Bool) → not h ≡ b → h ≡ not b
    turned true b e = ap not e
    turned false b e = ap not e

    swapped : (b : Bool) → cond (not b) (Some (n + 1)) None ≡ cond b None (Some (n + 1))
    swapped true = refl
    swapped false = refl

-- the same by the numbers on the path, as they were read
pub read_depth : (f : Forest Unit) (source legacy : Bytes) (n : ℕ) (b : Bool) {ids : List ℕ}
    → ids ≡ map (λ (u : Unit). u.id) (path (is_from source legacy) f) → length ids ≡ n → nat_eq n 0 ≡ b
    → depth_under f source (Some legacy) [] ≡ cond b None (Some (n + 1))
read_depth f source legacy n b are long zero =
    depth_found f source legacy n b (sym (length-map (path (is_from source legacy) f) (λ (u : Unit). u.id)) ∙ (sym (ap length are) ∙ long)) zero

-- how deep a row lies whose parent is none of the new rows above it
pub depth_here : (f : Forest Unit) (source p : Bytes) (above : List Row) (below : Bytes → Option ℕ) {o : Option Bytes} {depth : Option ℕ}
    → KnowsDepths f source above below → below p ≡ None → depth_under f source (Some p) [] ≡ depth → o ≡ Some p
    → depth ≡ depth_under f source o above
depth_here f source p above below knows none deep is =
    sym (ap (λ (q : Option Bytes). depth_under f source q above) is ∙ (knows p ∙ (ap (λ (o : Option ℕ). or_there o (depth_under f source (Some p) [])) none ∙ deep)))
