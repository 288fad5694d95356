-- Which units are there after a change, and which numbers the new ones have.
use Rattle.std.proofs.Common.{◌≡◌, ℕ, ◌+◌, ◌<◌, ◌≤◌, Bool, true, false, cond, ◌||◌, List, [], ◌∷◌, length, Option, Some}
use Rattle.std.proofs.Common.{None, refl, sym, ap, ◌∙◌, subst, inl, inr, ◌⊎◌, arith}
use Rattle.std.specs.Prelude.{ℤ, nat_eq}
use Rattle.catalogue_core.proofs.Common.{AllByRecursion, Bytes, Catalogue, Empty, Forest, New, Node, Row, Unit}
use Rattle.catalogue_core.proofs.Common.{cases_Bool, cut, each, eq-eqb, eqb-true, false≢true, has, has-each, has_id}
use Rattle.catalogue_core.proofs.Common.{has_unit, join, list_any, merged_forest, move_last, nodes, numbered_from}
use Rattle.catalogue_core.proofs.Common.{or_cases, or_left, or_right, put_below, put_last, revised, tree}
use Rattle.catalogue_core.proofs.Imported.{new_rows}
use Rattle.catalogue_core.proofs.Rooted.{or_each, has_node, has-join, revised_id}
use Rattle.catalogue_core.proofs.DistinctLists.{all_so}
use Rattle.catalogue_core.proofs.ImportedAgain.{all_merged}

-- what holds of the number of each unit holds of each number that a unit has
pub of_number : (P : ℕ → Type 0) (us : List Unit) (v : ℕ) → AllByRecursion (λ u. P u.id) us
    → list_any (has_id v) us ≡ true → P v
of_number P [] v h e = absurd (false≢true e)
of_number P (u ∷ us) v h e =
    elim (or_cases (nat_eq v u.id) (list_any (has_id v) us) e) [ inl s ↦ subst P (sym (eqb-true v u.id s)) h.0 | inr r ↦ of_number P us v h.1 r ]

pub each_there : (us all : List Unit) → ((v : ℕ) → list_any (has_id v) us ≡ true → list_any (has_id v) all ≡ true)
    → AllByRecursion (λ u. list_any (has_id u.id) all ≡ true) us
each_there [] all f = tt
each_there (u ∷ us) all f =
    (f u.id (or_left (nat_eq u.id u.id) (list_any (has_id u.id) us) (eq-eqb u.id u.id refl)), each_there us all (λ v h. f v (or_right (nat_eq v u.id) (list_any (has_id v) us) h)))

-- the numbers of new units

pub length-numbered : (f : Forest Unit) (source : Bytes) (n : ℕ) (above news : List Row)
    → length (numbered_from f source n above news) ≡ length news
length-numbered f source n above [] = refl
length-numbered f source n above (row ∷ news) =
    ap Rattle.std.specs.Prelude.suc (length-numbered f source (n + 1) (row ∷ above) news)

pub ids_between : (f : Forest Unit) (source : Bytes) (n : ℕ) (above news : List Row)
    → AllByRecursion (λ x. (n ≤ x.id) × (x.id < n + length (numbered_from f source n above news))) (numbered_from f source n above news)
ids_between f source n above [] = tt
ids_between f source n above (row ∷ news) =
    let l : List New = numbered_from f source (n + 1) (row ∷ above) news in (
      (omega arith, omega arith),
      all_so (λ x. (n + 1 ≤ x.id) × (x.id < n + 1 + length l)) (λ x. (n ≤ x.id) × (x.id < n + Rattle.std.specs.Prelude.suc (length l))) (λ x h. (let a = h.0 in omega (arith, a), let b = h.1 in omega (arith, b))) l (ids_between f source (n + 1) (row ∷ above) news),
    )

-- the unit was there, or has one of these numbers
abbrev pub OldOrNew : Forest Unit → ℕ → ℕ → ℕ → Type 0
OldOrNew f low high v = (has_unit f v ≡ true) ⊎ ((low ≤ v) × (v < high))

pub merged_units : (c : Catalogue) (source : Bytes) (rows : List Row) → let new = numbered_from c.forest source c.next [] (new_rows c source rows) in AllByRecursion (λ u. OldOrNew c.forest c.next (c.next + length new) u.id) (nodes (merged_forest source rows new c.forest))
merged_units c source rows =
    let new : List New = numbered_from c.forest source c.next [] (new_rows c source rows) in
    all_merged (λ u. OldOrNew c.forest c.next (c.next + length new) u.id) source rows new c.forest
    (all_so (λ x. (c.next ≤ x.id) × (x.id < c.next + length new)) (λ x. OldOrNew c.forest c.next (c.next + length new) x.id) (λ x h. inr h) new (ids_between c.forest source c.next [] (new_rows c source rows)))
    (all_so (λ u. has_unit c.forest u.id ≡ true) (λ u. OldOrNew c.forest c.next (c.next + length new) (revised source rows u).id) (λ u h. inl (subst (λ n. has_unit c.forest n ≡ true) (sym (revised_id source rows u)) h)) (nodes c.forest) (each_there (nodes c.forest) (nodes c.forest) (λ v h. h)))

-- changes that make no unit

same_any : {X : Type 0} (p q : X → Bool) → ((x : X) → p x ≡ q x) → (xs : List X) → list_any p xs ≡ list_any q xs
same_any p q e [] = refl
same_any p q e (x ∷ xs) = ap (λ b. b || list_any p xs) (e x) ∙ ap (λ b. q x || b) (same_any p q e xs)

pub each_units : (g : Unit → Unit) (f : Forest Unit) (v : ℕ) → ((u : Unit) → (g u).id ≡ u.id)
    → has_unit (each g f) v ≡ has_unit f v
each_units g f v k = has-each (has_id v) g f ∙ same_any (λ u. has_id v (g u)) (has_id v) (λ u. ap (nat_eq v) (k u)) (nodes f)

pub status_id : (b : Bool) (draft : Bool) (u : Unit) → (cond b (record u { draft = draft }) u).id ≡ u.id
status_id true draft u = refl
status_id false draft u = refl

pub closure_id : (b : Bool) (until : Option ℤ) (u : Unit) → (cond b (record u { until = until }) u).id ≡ u.id
closure_id true until u = refl
closure_id false until u = refl

has_parts : (is : Unit → Bool) (a : Unit) (c o c' o' : Forest Unit) → (has is c ≡ true → has is c' ≡ true)
    → (has is o ≡ true → has is o' ≡ true) → has is (Node a c o) ≡ true → has is (Node a c' o') ≡ true
has_parts is a c o c' o' f g h =
    has_node is a c' o'
    ∙ or_each (is a) (has is c) (has is o) (is a) (has is c') (has is o') (λ k. k) f g (sym (has_node is a c o) ∙ h)

has_later : (is : Unit → Bool) (a : Unit) (c o : Forest Unit) → has is o ≡ true → has is (Node a c o) ≡ true
has_later is a c o h = has_node is a c o ∙ or_right (is a) (has is c || has is o) (or_right (has is c) (has is o) h)

has_lower : (is : Unit → Bool) (a : Unit) (c o : Forest Unit) → has is c ≡ true → has is (Node a c o) ≡ true
has_lower is a c o h = has_node is a c o ∙ or_right (is a) (has is c || has is o) (or_left (has is c) (has is o) h)

pub has_cut : (is gone : Unit → Bool) (f : Forest Unit) → has is (cut gone f) ≡ true → has is f ≡ true
has_cut is gone Empty h = h
has_cut is gone (Node a c o) h = at (gone a) h (has_cut is gone c) (has_cut is gone o)
  where
    at : (b : Bool) → has is (cond b (cut gone o) (Node a (cut gone c) (cut gone o))) ≡ true
        → (has is (cut gone c) ≡ true → has is c ≡ true) → (has is (cut gone o) ≡ true → has is o ≡ true)
        → has is (Node a c o) ≡ true
    at true k f g = has_later is a c o (g k)
    at false k f g = has_parts is a (cut gone c) (cut gone o) c o f g k

pub has_tree : (is head : Unit → Bool) (f : Forest Unit) → has is (tree head f) ≡ true → has is f ≡ true
has_tree is head Empty h = h
has_tree is head (Node a c o) h = at (head a) (has head c) h (has_tree is head c) (has_tree is head o)
  where
    at : (b d : Bool) → has is (cond b (Node a c Empty) (cond d (tree head c) (tree head o))) ≡ true
        → (has is (tree head c) ≡ true → has is c ≡ true) → (has is (tree head o) ≡ true → has is o ≡ true)
        → has is (Node a c o) ≡ true
    at true d k f g = has_parts is a c Empty c o (λ x. x) (λ x. absurd (false≢true x)) k
    at false true k f g = has_lower is a c o (f k)
    at false false k f g = has_later is a c o (g k)

either_of : (is : Unit → Bool) (f g : Forest Unit) → has is (join f g) ≡ true → (has is f ≡ true) ⊎ (has is g ≡ true)
either_of is f g h = or_cases (has is f) (has is g) (sym (has-join is f g) ∙ h)

has_put : (is at_it : Unit → Bool) (g f : Forest Unit) → has is g ≡ false → has is (put_below at_it g f) ≡ true
    → has is f ≡ true
has_put is at_it g Empty n h = h
has_put is at_it g (Node a c o) n h =
    has_parts is a (cond (at_it a) (join c g) (put_below at_it g c)) (put_below at_it g o) c o (at (at_it a) (has_put is at_it g c n)) (has_put is at_it g o n) h
  where
    at : (b : Bool) → (has is (put_below at_it g c) ≡ true → has is c ≡ true)
        → has is (cond b (join c g) (put_below at_it g c)) ≡ true → has is c ≡ true
    at true f k = elim (either_of is c g k) [ inl x ↦ x | inr y ↦ absurd (false≢true (sym n ∙ y)) ]
    at false f k = f k

has_put_last : (is : Unit → Bool) (p : Option ℕ) (g f : Forest Unit) → has is g ≡ false
    → has is (put_last has_id p g f) ≡ true → has is f ≡ true
has_put_last is None g f n h = elim (either_of is f g h) [ inl x ↦ x | inr y ↦ absurd (false≢true (sym n ∙ y)) ]
has_put_last is (Some p) g f n h = has_put is (has_id p) g f n h

pub has_moved : (is : Unit → Bool) (u : ℕ) (p : Option ℕ) (f : Forest Unit) → has is (move_last has_id u p f) ≡ true
    → has is f ≡ true
has_moved is u p f h =
    elim (cases_Bool (has is (tree (has_id u) f))) [
      | inl there ↦ has_tree is (has_id u) f there
      | inr none ↦ has_cut is (has_id u) f (has_put_last is p (tree (has_id u) f) (cut (has_id u) f) none h)
    ]
