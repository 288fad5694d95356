-- Every new row of an import gets its unit, and no unit goes.
use Rattle.std.proofs.Common.{◌≡◌, ℕ, ◌+◌, ◌-◌, Bool, true, false, cond, ◌||◌, List, [], ◌∷◌, ◌++◌, Option, Some, None}
use Rattle.std.proofs.Common.{refl, sym, ap, ◌∙◌, subst, inl, inr, ◌⊎◌, arith, append_assoc}
use Rattle.std.specs.Prelude.{nat_eq}
use Rattle.catalogue_core.proofs.Common.{AllByRecursion, Bytes, Empty, Forest, New, Node, Row, StandsIn, Unit, branches}
use Rattle.catalogue_core.proofs.Common.{bytes_eq, each, eq-eqb, false≢true, find, grown, has, has-each, has_legacy}
use Rattle.catalogue_core.proofs.Common.{is_from, join, list_any, list_any-append, merged_forest, new_unit, new_units}
use Rattle.catalogue_core.proofs.Common.{nodes, numbered_from, option_and_then, option_eq, option_map, or_left}
use Rattle.catalogue_core.proofs.Common.{or_right, parent_number, revised}

-- ---- a new row among its siblings

-- the new row stands in the forest, with all that names it below it
abbrev Occurs : New → List New → Forest New → Type 0
Occurs x rest Empty = ⊥
Occurs x rest (Node y c o) = ((y ≡ x) × (c ≡ branches (Some x.id) rest)) ⊎ (Occurs x rest c ⊎ Occurs x rest o)

top : (p : Option ℕ) (front : List New) (x : New) (rest : List New) → option_eq nat_eq x.parent p ≡ true
    → Occurs x rest (branches p (front ++ x ∷ rest))
top p [] x rest e = at (option_eq nat_eq x.parent p) e
  where
    at : (b : Bool) → b ≡ true
        → Occurs x rest (cond b (Node x (branches (Some x.id) rest) (branches p rest)) (branches p rest))
    at true h = inl (refl, refl)
    at false h = absurd (false≢true h)
top p (y ∷ front) x rest e = at (option_eq nat_eq y.parent p) (top p front x rest e)
  where
    at : (b : Bool) → Occurs x rest (branches p (front ++ x ∷ rest))
        → Occurs x rest (cond b (Node y (branches (Some y.id) (front ++ x ∷ rest)) (branches p (front ++ x ∷ rest))) (branches p (front ++ x ∷ rest)))
    at true h = inr (inr h)
    at false h = h

through : (m : New) (tail : List New) (x : New) (rest : List New) (f : Forest New) → Occurs m tail f
    → Occurs x rest (branches (Some m.id) tail) → Occurs x rest f
through m tail x rest Empty h k = absurd h
through m tail x rest (Node y c o) (inl w) k = inr (inl (subst (Occurs x rest) (sym w.1) k))
through m tail x rest (Node y c o) (inr (inl h)) k = inr (inl (through m tail x rest c h k))
through m tail x rest (Node y c o) (inr (inr h)) k = inr (inr (through m tail x rest o h k))

-- the new row stands among the tops, or below a unit that was there
abbrev Rooted : Forest Unit → List New → New → List New → Type 0
Rooted f all x rest = Occurs x rest (branches None all) ⊎ ((v : Unit) × StandsIn v (nodes f) × Occurs x rest (branches (Some v.id) all))

rooted_below : (f : Forest Unit) (all : List New) (m : New) (tail : List New) (x : New) (rest : List New)
    → Rooted f all m tail → Occurs x rest (branches (Some m.id) tail) → Rooted f all x rest
rooted_below f all m tail x rest (inl h) k = inl (through m tail x rest (branches None all) h k)
rooted_below f all m tail x rest (inr w) k = inr (w.0, w.1, through m tail x rest (branches (Some w.0.id) all) w.2 k)

-- the rows above, of which the nearest has the number before n; below it stands `tail`
AllRooted : Forest Unit → List New → ℕ → List Row → List New → Type 0
AllRooted f all n [] tail = Prim.Unit {0}
AllRooted f all n (row ∷ above) tail =
    (m : New) × (m.id ≡ n - 1) × Rooted f all m tail × AllRooted f all (n - 1) above (m ∷ tail)

same_parent : (p q : Option ℕ) → p ≡ q → option_eq nat_eq p q ≡ true
same_parent p q e = subst (λ r. option_eq nat_eq p r ≡ true) e (itself p)
  where
    itself : (r : Option ℕ) → option_eq nat_eq r r ≡ true
    itself None = refl
    itself (Some n) = eq-eqb n n refl

found_in : (p : Unit → Bool) (us : List Unit) (v : Unit) → find p us ≡ Some v → StandsIn v us
found_in p [] v e = absurd (cc)
found_in p (u ∷ us) v e = at (p u) e (found_in p us v)
  where
    at : (b : Bool) → cond b (Some u) (find p us) ≡ Some v → (find p us ≡ Some v → StandsIn v us) → StandsIn v (u ∷ us)
    at true h k = inl (let s : u ≡ v = cc in sym s)
    at false h k = inr (k h)

as_top : (f : Forest Unit) (all whole : List New) (x : New) (rest : List New) → all ≡ whole ++ x ∷ rest
    → x.parent ≡ None → Rooted f all x rest
as_top f all whole x rest e p =
    inl (subst (λ l. Occurs x rest (branches None l)) (sym e) (top None whole x rest (same_parent x.parent None p)))

under_known : (f : Forest Unit) (source legacy : Bytes) (all whole : List New) (x : New) (rest : List New) (r : Option Unit)
    → find (is_from source legacy) (nodes f) ≡ r → all ≡ whole ++ x ∷ rest → x.parent ≡ option_map (λ unit. unit.id) r
    → Rooted f all x rest
under_known f source legacy all whole x rest None h e p = as_top f all whole x rest e p
under_known f source legacy all whole x rest (Some v) h e p =
    inr (v, found_in (is_from source legacy) (nodes f) v h, subst (λ l. Occurs x rest (branches (Some v.id) l)) (sym e) (top (Some v.id) whole x rest (same_parent x.parent (Some v.id) p)))

place : (f : Forest Unit) (source : Bytes) (all : List New) (n : ℕ) (above : List Row) (tail front : List New) (x : New) (rest : List New) (legacy : Bytes) (whole : List New)
    → tail ≡ front ++ x ∷ rest → all ≡ whole ++ x ∷ rest → AllRooted f all n above tail
    → x.parent ≡ parent_number f source n above legacy → Rooted f all x rest
unfolding AllRooted
place f source all n [] tail front x rest legacy whole et e h p =
    under_known f source legacy all whole x rest (find (is_from source legacy) (nodes f)) refl e p
place f source all n (row ∷ above) tail front x rest legacy whole et e h p =
    at (has_legacy legacy row) p (place f source all (n - 1) above (h.0 ∷ tail) (h.0 ∷ front) x rest legacy whole (ap (λ l. h.0 ∷ l) et) e h.3)
  where
    at : (b : Bool) → x.parent ≡ cond b (Some (n - 1)) (parent_number f source (n - 1) above legacy)
        → (x.parent ≡ parent_number f source (n - 1) above legacy → Rooted f all x rest) → Rooted f all x rest
    at true q k = rooted_below f all h.0 tail x rest h.2 (subst (λ l. Occurs x rest (branches (Some h.0.id) l)) (sym et) (top (Some h.0.id) front x rest (same_parent x.parent (Some h.0.id) (q ∙ ap Some (sym h.1)))))
    at false q k = k q

abbrev RootedSomewhere : Forest Unit → List New → New → Type 0
RootedSomewhere f all x = (rest : List New) × Rooted f all x rest

one_rooted : (f : Forest Unit) (source : Bytes) (all whole : List New) (n : ℕ) (above : List Row) (x : New) (rest : List New) (p : Option Bytes)
    → x.parent ≡ option_and_then (parent_number f source n above) p → all ≡ whole ++ x ∷ rest
    → AllRooted f all n above (x ∷ rest) → Rooted f all x rest
one_rooted f source all whole n above x rest None ep e h = as_top f all whole x rest e ep
one_rooted f source all whole n above x rest (Some legacy) ep e h =
    place f source all n above (x ∷ rest) [] x rest legacy whole refl e h ep

all_rooted : (f : Forest Unit) (source : Bytes) (all whole : List New) (n : ℕ) (above rows : List Row)
    → all ≡ whole ++ numbered_from f source n above rows → AllRooted f all n above (numbered_from f source n above rows)
    → AllByRecursion (RootedSomewhere f all) (numbered_from f source n above rows)
unfolding AllRooted
all_rooted f source all whole n above [] e h = tt
all_rooted f source all whole n above (row ∷ rows) e h =
    let x : New = record { id = n; parent = option_and_then (parent_number f source n above) row.parent; row = row } in
    let rest = numbered_from f source (n + 1) (row ∷ above) rows in
    let r = one_rooted f source all whole n above x rest row.parent refl e h in
    let back : n ≡ n + 1 - 1 = omega arith in (
      (rest, r),
      all_rooted f source all (whole ++ x ∷ []) (n + 1) (row ∷ above) rows (e ∙ sym (append_assoc whole (x ∷ []) rest)) (x, back, r, subst (λ k. AllRooted f all k above (x ∷ rest)) back h),
    )

pub every_rooted : (f : Forest Unit) (source : Bytes) (n : ℕ) (rows : List Row)
    → AllByRecursion (RootedSomewhere f (numbered_from f source n [] rows)) (numbered_from f source n [] rows)
unfolding AllRooted
every_rooted f source n rows = all_rooted f source (numbered_from f source n [] rows) [] n [] rows refl tt

-- ---- a unit in a forest

pub has_node : {A : Type 0} (is : A → Bool) (a : A) (c o : Forest A)
    → has is (Node a c o) ≡ (is a || (has is c || has is o))
has_node is a c o = ap (λ b. is a || b) (list_any-append is (nodes c) (nodes o))

pub nodes-join : {A : Type 0} (f g : Forest A) → nodes (join f g) ≡ nodes f ++ nodes g
nodes-join Empty g = refl
nodes-join (Node a c o) g =
    ap (λ l. a ∷ l) (ap (λ l. nodes c ++ l) (nodes-join o g) ∙ sym (append_assoc (nodes c) (nodes o) (nodes g)))

pub has-join : {A : Type 0} (is : A → Bool) (f g : Forest A) → has is (join f g) ≡ (has is f || has is g)
has-join is f g = ap (list_any is) (nodes-join f g) ∙ list_any-append is (nodes f) (nodes g)

pub or_each : (a b c a' b' c' : Bool) → (a ≡ true → a' ≡ true) → (b ≡ true → b' ≡ true) → (c ≡ true → c' ≡ true)
    → (a || (b || c)) ≡ true → (a' || (b' || c')) ≡ true
or_each true b c a' b' c' f g h e = or_left a' (b' || c') (f refl)
or_each false true c a' b' c' f g h e = or_right a' (b' || c') (or_left b' c' (g refl))
or_each false false c a' b' c' f g h e = or_right a' (b' || c') (or_right b' c' (h e))

occurs_has : (is : New → Bool) (x : New) (rest : List New) (f : Forest New) → Occurs x rest f → is x ≡ true
    → has is f ≡ true
occurs_has is x rest Empty h e = absurd h
occurs_has is x rest (Node y c o) (inl w) e = has_node is y c o ∙ or_left (is y) (has is c || has is o) (subst (λ z. is z ≡ true) (sym w.0) e)
occurs_has is x rest (Node y c o) (inr (inl h)) e = has_node is y c o ∙ or_right (is y) (has is c || has is o) (or_left (has is c) (has is o) (occurs_has is x rest c h e))
occurs_has is x rest (Node y c o) (inr (inr h)) e = has_node is y c o ∙ or_right (is y) (has is c || has is o) (or_right (has is c) (has is o) (occurs_has is x rest o h e))

-- what was there is there still
pub grown_keeps : (source : Bytes) (new : List New) (is : Unit → Bool) (f : Forest Unit) → has is f ≡ true
    → has is (grown source new f) ≡ true
grown_keeps source new is Empty h = h
grown_keeps source new is (Node u c o) h =
    has_node is u (join (grown source new c) (new_units source (Some u.id) new)) (grown source new o)
    ∙ or_each (is u) (has is c) (has is o) (is u) (has is (join (grown source new c) (new_units source (Some u.id) new))) (has is (grown source new o)) (λ k. k)
    (λ k. has-join is (grown source new c) (new_units source (Some u.id) new) ∙ or_left (has is (grown source new c)) (has is (new_units source (Some u.id) new)) (grown_keeps source new is c k))
    (grown_keeps source new is o) (sym (has_node is u c o) ∙ h)

stands_parts : (v : Unit) (xs ys : List Unit) → StandsIn v (xs ++ ys) → StandsIn v xs ⊎ StandsIn v ys
stands_parts v [] ys h = inr h
stands_parts v (x ∷ xs) ys (inl e) = inl (inl e)
stands_parts v (x ∷ xs) ys (inr h) = elim (stands_parts v xs ys h) [ inl a ↦ inl (inr a) | inr b ↦ inr b ]

-- what is put below a unit is there
grown_new : (source : Bytes) (new : List New) (is : Unit → Bool) (g : Unit → Unit) (f : Forest Unit) (v : Unit)
    → ((u : Unit) → (g u).id ≡ u.id) → StandsIn v (nodes f) → has is (new_units source (Some v.id) new) ≡ true
    → has is (grown source new (each g f)) ≡ true
grown_new source new is g Empty v k s h = absurd s
grown_new source new is g (Node u c o) v k (inl e) h =
    has_node is (g u) (join (grown source new (each g c)) (new_units source (Some (g u).id) new)) (grown source new (each g o))
    ∙ or_right (is (g u)) _ (or_left (has is (join (grown source new (each g c)) (new_units source (Some (g u).id) new))) (has is (grown source new (each g o)))
    (has-join is (grown source new (each g c)) (new_units source (Some (g u).id) new)
    ∙ or_right (has is (grown source new (each g c))) (has is (new_units source (Some (g u).id) new)) (subst (λ n. has is (new_units source (Some n) new) ≡ true) (ap (λ w. w.id) e ∙ sym (k u)) h)))
grown_new source new is g (Node u c o) v k (inr s) h =
    has_node is (g u) (join (grown source new (each g c)) (new_units source (Some (g u).id) new)) (grown source new (each g o))
    ∙ or_right (is (g u)) _ (elim (stands_parts v (nodes c) (nodes o) s) [
      | inl a ↦ or_left (has is (join (grown source new (each g c)) (new_units source (Some (g u).id) new))) (has is (grown source new (each g o))) (has-join is (grown source new (each g c)) (new_units source (Some (g u).id) new) ∙ or_left (has is (grown source new (each g c))) (has is (new_units source (Some (g u).id) new)) (grown_new source new is g c v k a h))
      | inr b ↦ or_right (has is (join (grown source new (each g c)) (new_units source (Some (g u).id) new))) (has is (grown source new (each g o))) (grown_new source new is g o v k b h)
    ])

pub revised_id : (source : Bytes) (rows : List Row) (u : Unit) → (revised source rows u).id ≡ u.id
revised_id source rows u = at (bytes_eq u.source source)
  where
    at : (b : Bool)
        → (cond b (record u { values = Rattle.std.specs.Prelude.unwrap_or (option_map (λ row. row.values) (find (has_legacy u.legacy) rows)) u.values }) u).id ≡ u.id
    at true = refl
    at false = refl

-- the unit of a new row is there
rooted_has : (f : Forest Unit) (source : Bytes) (rows : List Row) (all : List New) (is : Unit → Bool) (x : New)
    → RootedSomewhere f all x → is (new_unit source x) ≡ true → has is (merged_forest source rows all f) ≡ true
rooted_has f source rows all is x (rest, inl h) e =
    has-join is (grown source all (each (revised source rows) f)) (new_units source None all)
    ∙ or_right (has is (grown source all (each (revised source rows) f))) (has is (new_units source None all)) (has-each is (new_unit source) (branches None all) ∙ occurs_has (λ n. is (new_unit source n)) x rest (branches None all) h e)
rooted_has f source rows all is x (rest, inr w) e =
    has-join is (grown source all (each (revised source rows) f)) (new_units source None all)
    ∙ or_left (has is (grown source all (each (revised source rows) f))) (has is (new_units source None all))
    (grown_new source all is (revised source rows) f w.0 (revised_id source rows) w.1 (has-each is (new_unit source) (branches (Some w.0.id) all) ∙ occurs_has (λ n. is (new_unit source n)) x rest (branches (Some w.0.id) all) w.2 e))

pub new_there : (f : Forest Unit) (source : Bytes) (rows : List Row) (n : ℕ) (news : List Row) (is : Unit → Bool)
    → AllByRecursion (λ x. is (new_unit source x) ≡ true → has is (merged_forest source rows (numbered_from f source n [] news) f) ≡ true) (numbered_from f source n [] news)
new_there f source rows n news is =
    go (numbered_from f source n [] news) (numbered_from f source n [] news) (every_rooted f source n news)
  where
    go : (all xs : List New) → AllByRecursion (RootedSomewhere f all) xs
        → AllByRecursion (λ x. is (new_unit source x) ≡ true → has is (merged_forest source rows all f) ≡ true) xs
    go all [] h = tt
    go all (x ∷ xs) h = (rooted_has f source rows all is x h.0, go all xs h.1)
