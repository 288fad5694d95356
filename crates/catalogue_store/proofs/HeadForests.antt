-- The heads of some units of a forest.
use Rattle.std.proofs.Common.{◌≡◌, inl, inr, ℕ, List, [], ◌∷◌, ◌++◌, map, Option, Some, None, option_map, true, nat_eq}
use Rattle.std.proofs.Common.{refl, sym, ap, ◌∙◌}
use Rattle.std.proofs.Math.Bool.{or-true}
use Rattle.std.specs.List.{find}
use Rattle.isad_core.specs.Values.{identifier, title}
use Rattle.tree_core.specs.Tops.{tops, below_first, part_below}
use Rattle.catalogue_core.proofs.EachOf.{all_split}
use Rattle.catalogue_statements.specs.Standings.{standing_of}
use Rattle.catalogue_statements.specs.declared.row_types.Standing.{Standing}
use Rattle.tree_places.proofs.MarkForests.{all_here, has_right, tree_in}
use Rattle.catalogue_store.specs.Heads.{head_of}
use Rattle.catalogue_store.specs.declared.heads.Head.{Head}
use Rattle.catalogue_store.proofs.Common.{AllByRecursion, Bytes, Empty, Forest, Has, Node, Unit, all_has, all_weaker}
use Rattle.catalogue_store.proofs.Common.{eq-eqb, has_id, has_unit, list_any, nodes, tree}

abbrev id_of : Unit → ℕ
id_of u = u.id

-- ---- what stands right below a unit stands in the forest

tops_in : {A : Type 0} (f : Forest A) → AllByRecursion (Has (nodes f)) (tops f)
tops_in Empty = tt
tops_in (Node a c o) = (inl refl, all_weaker (Has (nodes o)) (Has (a ∷ (nodes c ++ nodes o))) (λ x h. inr (has_right (nodes c) (nodes o) x h)) (tops o) (tops_in o))

first_below : {A : Type 0} (P : A → Type 0) (f : Forest A) → AllByRecursion P (nodes f)
    → AllByRecursion P (nodes (below_first f))
first_below P Empty h = tt
first_below P (Node a c o) h = (all_split P (nodes c) (nodes o) h.1).0

part_in : (unit : Option ℕ) (f : Forest Unit) → AllByRecursion (Has (nodes f)) (nodes (part_below has_id unit f))
part_in None f = all_here f
part_in (Some id) f = first_below (Has (nodes f)) (tree (has_id id) f) (tree_in (has_id id) f)

pub below_in : (unit : Option ℕ) (f : Forest Unit) → AllByRecursion (Has (nodes f)) (tops (part_below has_id unit f))
below_in unit f =
    let part = part_below has_id unit f in
    all_weaker (Has (nodes part)) (Has (nodes f)) (λ x h. all_has (Has (nodes f)) (nodes part) x (part_in unit f) h) (tops part) (tops_in part)

-- ---- heads one by one

has_some : (f : Forest Unit) (u : Unit) (units : List Unit) → Has units u → list_any (has_id u.id) units ≡ true
has_some f u (v ∷ units) (inl e) = rw (eq-eqb u.id v.id (ap id_of e)) refl
has_some f u (v ∷ units) (inr h) = rw (has_some f u units h) (or-true (nat_eq u.id v.id))
has_some f u [] h = absurd h

-- each of them is there
pub all_there : (f : Forest Unit) (units : List Unit) → AllByRecursion (Has (nodes f)) units
    → AllByRecursion (λ id. has_unit f id ≡ true) (map (λ (u : Unit). u.id) units)
all_there f [] h = tt
all_there f (u ∷ units) h = (has_some f u (nodes f) h.0, all_there f units h.1)

-- ---- one head

same_head : (n : ℕ) (u : Unit) (s : Standing) (code name : Bytes) → n ≡ u.id → s ≡ standing_of u
    → code ≡ identifier u.values → name ≡ title u.values
    → (let h : Head = record { id = n; level = s.level; identifier = code; title = name; draft = s.draft; until = s.until } in h) ≡ head_of u
same_head n u s code name id is a b = rw (id, is, a, b) refl

-- what is read of a unit is its head
pub head_told : (f : Forest Unit) (n : ℕ) (u : Unit) (s : Standing) (code name : Bytes) → n ≡ u.id
    → find (has_id n) (nodes f) ≡ Some u → s ≡ standing_of u → code ≡ identifier u.values → name ≡ title u.values
    → Some (let h : Head = record { id = n; level = s.level; identifier = code; title = name; draft = s.draft; until = s.until } in h) ≡ option_map head_of (find (has_id n) (nodes f))
head_told f n u s code name id found is a b =
    ap Some (same_head n u s code name id is a b) ∙ sym (ap (option_map head_of) found)
