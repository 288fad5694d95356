-- The units of a merged forest, up to order: those that were there, and one for each new row.
use Rattle.std.proofs.Common.{◌≡◌, ℕ, ◌+◌, ◌-◌, ◌<◌, Bool, true, false, cond, ◌||◌, List, [], ◌∷◌, ◌++◌, Option, Some}
use Rattle.std.proofs.Common.{None, refl, sym, ap, ◌∙◌, subst, arith, append_assoc, map}
use Rattle.std.specs.List.{IsDistinct}
use Rattle.std.specs.Prelude.{nat_eq}
use Rattle.catalogue_core.proofs.Common.{AllByRecursion, Bytes, Empty, Forest, IsPermutation, IsPermutation-append}
use Rattle.catalogue_core.proofs.Common.{IsPermutation-append_comm, IsPermutation-append_left}
use Rattle.catalogue_core.proofs.Common.{IsPermutation-append_right, IsPermutation-cons, IsPermutation-map}
use Rattle.catalogue_core.proofs.Common.{IsPermutation-middle, IsPermutation-refl, IsPermutation-trans, New, Node, Row}
use Rattle.catalogue_core.proofs.Common.{Unit, branches, each, eq-eqb, eqb-true, false≢true, find, flat_map, grown, has}
use Rattle.catalogue_core.proofs.Common.{has_id, has_legacy, has_unit, if◌then◌else◌, is_from, join, list_any}
use Rattle.catalogue_core.proofs.Common.{map-append, merged_forest, ne_eqb, new_unit, new_units, nodes, nodes-each}
use Rattle.catalogue_core.proofs.Common.{numbered_from, option_and_then, option_eq, option_map, or_left, or_parts}
use Rattle.catalogue_core.proofs.Common.{or_right, parent_number, revised}
use Rattle.catalogue_core.proofs.EachOf.{all_and, all_true, all_of_found}
use Rattle.catalogue_core.proofs.UnitsAfter.{each_units}
use Rattle.catalogue_core.proofs.Rooted.{nodes-join, has-join, grown_keeps, revised_id}

-- ---- the places below which a row may stand

-- the rows that stand below these places, or below a row that does, in file order
abbrev pub reached : List (Option ℕ) → List New → List New
reached places [] = []
reached places (x ∷ rest) =
    if list_any (option_eq nat_eq x.parent) places then x ∷ reached (Some x.id ∷ places) rest else reached places rest

-- the rows below each of these places
abbrev pub below_all : List (Option ℕ) → List New → List New
below_all places new = flat_map (λ p. nodes (branches p new)) places

-- no place is the number n, or one above it
abbrev pub IsBefore : ℕ → Option ℕ → Type 0
IsBefore n None = Prim.Unit {0}
IsBefore n (Some k) = k < n

-- the rows have these numbers
abbrev pub AreNumberedFrom : ℕ → List New → Type 0
AreNumberedFrom n [] = Prim.Unit {0}
AreNumberedFrom n (x ∷ rest) = (x.id ≡ n) × AreNumberedFrom (n + 1) rest

pub same_place : (p q : Option ℕ) → option_eq nat_eq p q ≡ true → p ≡ q
same_place None None e = refl
same_place None (Some n) e = absurd (false≢true e)
same_place (Some m) None e = absurd (false≢true e)
same_place (Some m) (Some n) e = ap Some (eqb-true m n e)

other_place : (n : ℕ) (p : Option ℕ) → IsBefore n p → option_eq nat_eq (Some n) p ≡ false
other_place n None h = refl
other_place n (Some k) h = ne_eqb n k (λ e. omega (arith, e, h))

other_places : (n : ℕ) (ps : List (Option ℕ)) → AllByRecursion (IsBefore n) ps
    → AllByRecursion (λ p. option_eq nat_eq (Some n) p ≡ false) ps
other_places n [] h = tt
other_places n (p ∷ ps) h = (other_place n p h.0, other_places n ps h.1)

before_more : (n : ℕ) (p : Option ℕ) → IsBefore n p → IsBefore (n + 1) p
before_more n None h = tt
before_more n (Some k) h = omega (arith, h)

all_before_more : (n : ℕ) (ps : List (Option ℕ)) → AllByRecursion (IsBefore n) ps → AllByRecursion (IsBefore (n + 1)) ps
all_before_more n [] h = tt
all_before_more n (p ∷ ps) h = (before_more n p h.0, all_before_more n ps h.1)

-- ---- one row more

below_none : (x : New) (rest : List New) (ps : List (Option ℕ)) → list_any (option_eq nat_eq x.parent) ps ≡ false
    → below_all ps (x ∷ rest) ≡ below_all ps rest
below_none x rest [] e = refl
below_none x rest (p ∷ ps) e =
    let r = or_parts (option_eq nat_eq x.parent p) (list_any (option_eq nat_eq x.parent) ps) e in
    ap (λ b. nodes (cond b (Node x (branches (Some x.id) rest) (branches p rest)) (branches p rest)) ++ below_all ps (x ∷ rest)) r.0
    ∙ ap (λ l. nodes (branches p rest) ++ l) (below_none x rest ps r.1)

-- a place that differs from each of these is none of them
none_of : (p q : Option ℕ) (ps : List (Option ℕ)) → option_eq nat_eq q p ≡ true
    → AllByRecursion (λ r. option_eq nat_eq p r ≡ false) ps → list_any (option_eq nat_eq q) ps ≡ false
none_of p q ps e h = subst (λ r. list_any (option_eq nat_eq r) ps ≡ false) (sym (same_place q p e)) (go ps h)
  where
    go : (rs : List (Option ℕ)) → AllByRecursion (λ r. option_eq nat_eq p r ≡ false) rs
        → list_any (option_eq nat_eq p) rs ≡ false
    go [] k = refl
    go (r ∷ rs) k = ap (λ b. b || list_any (option_eq nat_eq p) rs) k.0 ∙ go rs k.1

-- what stands between goes behind
past : {X : Type 0} (b : List X) (x : X) (a c : List X) → IsPermutation (b ++ x ∷ (a ++ c)) (x ∷ (a ++ (b ++ c)))
past b x a c =
    IsPermutation-trans (b ++ x ∷ (a ++ c)) (x ∷ (b ++ (a ++ c))) (x ∷ (a ++ (b ++ c))) (IsPermutation-middle b x (a ++ c))
    (IsPermutation-cons x (b ++ (a ++ c)) (a ++ (b ++ c))
    (subst (λ l. IsPermutation l (a ++ (b ++ c))) (append_assoc b a c)
    (subst (IsPermutation ((b ++ a) ++ c)) (append_assoc a b c) (IsPermutation-append_left c (b ++ a) (a ++ b) (IsPermutation-append_comm b a)))))

below_one : (x : New) (rest : List New) (ps : List (Option ℕ)) → IsDistinct (option_eq nat_eq) ps
    → list_any (option_eq nat_eq x.parent) ps ≡ true
    → IsPermutation (below_all ps (x ∷ rest)) (x ∷ below_all (Some x.id ∷ ps) rest)
unfolding IsDistinct
below_one x rest [] d e = absurd (false≢true e)
below_one x rest (p ∷ ps) d e = at (option_eq nat_eq x.parent p) refl e (below_one x rest ps d.1)
  where
    low : List New
    low = nodes (branches (Some x.id) rest)

    at : (b : Bool) → option_eq nat_eq x.parent p ≡ b → (b || list_any (option_eq nat_eq x.parent) ps) ≡ true
        → (list_any (option_eq nat_eq x.parent) ps ≡ true → IsPermutation (below_all ps (x ∷ rest)) (x ∷ (nodes (branches (Some x.id) rest) ++ below_all ps rest)))
        → IsPermutation (nodes (cond b (Node x (branches (Some x.id) rest) (branches p rest)) (branches p rest)) ++ below_all ps (x ∷ rest)) (x ∷ (nodes (branches (Some x.id) rest) ++ (nodes (branches p rest) ++ below_all ps rest)))
    at true h k f =
        subst (λ l. IsPermutation ((x ∷ (low ++ nodes (branches p rest))) ++ l) (x ∷ (low ++ (nodes (branches p rest) ++ below_all ps rest)))) (sym (below_none x rest ps (none_of p x.parent ps h d.0)))
        (subst (λ l. IsPermutation (x ∷ l) (x ∷ (low ++ (nodes (branches p rest) ++ below_all ps rest)))) (sym (append_assoc low (nodes (branches p rest)) (below_all ps rest)))
        (IsPermutation-refl (x ∷ (low ++ (nodes (branches p rest) ++ below_all ps rest)))))
    at false h k f =
        IsPermutation-trans (nodes (branches p rest) ++ below_all ps (x ∷ rest)) (nodes (branches p rest) ++ x ∷ (low ++ below_all ps rest)) (x ∷ (low ++ (nodes (branches p rest) ++ below_all ps rest)))
        (IsPermutation-append_right (nodes (branches p rest)) (below_all ps (x ∷ rest)) (x ∷ (low ++ below_all ps rest)) (f k))
        (past (nodes (branches p rest)) x low (below_all ps rest))

-- ---- all rows

-- below distinct places each row stands once, where its parent is one of them or a row that stands there
pub below_reached : (n : ℕ) (ps : List (Option ℕ)) (new : List New) → IsDistinct (option_eq nat_eq) ps
    → AllByRecursion (IsBefore n) ps → AreNumberedFrom n new → IsPermutation (below_all ps new) (reached ps new)
unfolding IsDistinct
below_reached n ps [] d b a = subst (λ l. IsPermutation l []) (sym (nothing ps)) (IsPermutation-refl [])
  where
    nothing : (qs : List (Option ℕ)) → below_all qs [] ≡ []
    nothing [] = refl
    nothing (q ∷ qs) = nothing qs
below_reached n ps (x ∷ rest) d b a =
    let e = a.0 in
    let next : x.id < n + 1 = omega (arith, e) in
    let apart = subst (λ k. AllByRecursion (λ p. option_eq nat_eq (Some k) p ≡ false) ps) (sym e) (other_places n ps b) in
    at (list_any (option_eq nat_eq x.parent) ps) refl
    (below_reached (n + 1) (Some x.id ∷ ps) rest (apart, d) (next, all_before_more n ps b) a.1)
    (below_reached (n + 1) ps rest d (all_before_more n ps b) a.1)
  where
    at : (c : Bool) → list_any (option_eq nat_eq x.parent) ps ≡ c
        → IsPermutation (below_all (Some x.id ∷ ps) rest) (reached (Some x.id ∷ ps) rest)
        → IsPermutation (below_all ps rest) (reached ps rest)
        → IsPermutation (below_all ps (x ∷ rest)) (cond c (x ∷ reached (Some x.id ∷ ps) rest) (reached ps rest))
    at true e h k =
        IsPermutation-trans (below_all ps (x ∷ rest)) (x ∷ below_all (Some x.id ∷ ps) rest) (x ∷ reached (Some x.id ∷ ps) rest) (below_one x rest ps d e)
        (IsPermutation-cons x (below_all (Some x.id ∷ ps) rest) (reached (Some x.id ∷ ps) rest) h)
    at false e h k = subst (λ l. IsPermutation l (reached ps rest)) (sym (below_none x rest ps e)) k

-- ---- the forest

abbrev pub place_of : Unit → Option ℕ
place_of u = Some u.id

shuffled : {X : Type 0} (c n b o m : List X) → IsPermutation (((c ++ n) ++ b) ++ (o ++ m)) ((c ++ o) ++ (b ++ (n ++ m)))
shuffled c n b o m =
    subst (λ l. IsPermutation l ((c ++ o) ++ (b ++ (n ++ m)))) (sym left)
    (subst (IsPermutation (c ++ ((n ++ b) ++ (o ++ m)))) (sym (append_assoc c o (b ++ (n ++ m))))
    (IsPermutation-append_right c ((n ++ b) ++ (o ++ m)) (o ++ (b ++ (n ++ m))) inner))
  where
    left : ((c ++ n) ++ b) ++ (o ++ m) ≡ c ++ ((n ++ b) ++ (o ++ m))
    left = ap (λ l. l ++ (o ++ m)) (append_assoc c n b) ∙ append_assoc c (n ++ b) (o ++ m)

    turned : IsPermutation (((n ++ b) ++ o) ++ m) ((o ++ (b ++ n)) ++ m)
    turned =
        IsPermutation-append_left m ((n ++ b) ++ o) (o ++ (b ++ n))
        (IsPermutation-trans ((n ++ b) ++ o) (o ++ (n ++ b)) (o ++ (b ++ n)) (IsPermutation-append_comm (n ++ b) o) (IsPermutation-append_right o (n ++ b) (b ++ n) (IsPermutation-append_comm n b)))

    inner : IsPermutation ((n ++ b) ++ (o ++ m)) (o ++ (b ++ (n ++ m)))
    inner =
        subst (λ l. IsPermutation l (o ++ (b ++ (n ++ m)))) (append_assoc (n ++ b) o m)
        (subst (IsPermutation (((n ++ b) ++ o) ++ m)) (append_assoc o (b ++ n) m ∙ ap (λ l. o ++ l) (append_assoc b n m)) turned)

flat-append : {X A : Type 0} (f : X → List A) (xs ys : List X) → flat_map f (xs ++ ys) ≡ flat_map f xs ++ flat_map f ys
flat-append f [] ys = refl
flat-append f (x ∷ xs) ys =
    ap (λ l. f x ++ l) (flat-append f xs ys) ∙ sym (append_assoc (f x) (flat_map f xs) (flat_map f ys))

-- the units for the rows below these places
abbrev units_below : Bytes → List (Option ℕ) → List New → List Unit
units_below source ps new = map (new_unit source) (below_all ps new)

units_beside : (source : Bytes) (ps qs : List (Option ℕ)) (new : List New)
    → units_below source (ps ++ qs) new ≡ units_below source ps new ++ units_below source qs new
units_beside source ps qs new =
    ap (map (new_unit source)) (flat-append (λ p. nodes (branches p new)) ps qs)
    ∙ map-append (new_unit source) (below_all ps new) (below_all qs new)

pub grown_nodes : (source : Bytes) (new : List New) (f : Forest Unit)
    → IsPermutation (nodes (grown source new f)) (nodes f ++ units_below source (map place_of (nodes f)) new)
grown_nodes source new Empty = IsPermutation-refl []
grown_nodes source new (Node u c o) =
    let n = units_below source (map place_of (nodes c)) new in
    let m = units_below source (map place_of (nodes o)) new in
    let b = map (new_unit source) (nodes (branches (Some u.id) new)) in
    IsPermutation-cons u (nodes (join (grown source new c) (new_units source (Some u.id) new)) ++ nodes (grown source new o)) ((nodes c ++ nodes o) ++ units_below source (Some u.id ∷ map place_of (nodes c ++ nodes o)) new)
    (subst (λ l. IsPermutation (l ++ nodes (grown source new o)) ((nodes c ++ nodes o) ++ units_below source (Some u.id ∷ map place_of (nodes c ++ nodes o)) new)) (sym joined)
    (subst (λ l. IsPermutation ((nodes (grown source new c) ++ b) ++ nodes (grown source new o)) ((nodes c ++ nodes o) ++ l)) (sym parted)
    (IsPermutation-trans ((nodes (grown source new c) ++ b) ++ nodes (grown source new o)) (((nodes c ++ n) ++ b) ++ (nodes o ++ m)) ((nodes c ++ nodes o) ++ (b ++ (n ++ m)))
    (IsPermutation-append (nodes (grown source new c) ++ b) ((nodes c ++ n) ++ b) (nodes (grown source new o)) (nodes o ++ m)
    (IsPermutation-append_left b (nodes (grown source new c)) (nodes c ++ n) (grown_nodes source new c)) (grown_nodes source new o))
    (shuffled (nodes c) n b (nodes o) m))))
  where
    low : List Unit
    low = map (new_unit source) (nodes (branches (Some u.id) new))

    joined : nodes (join (grown source new c) (new_units source (Some u.id) new)) ≡ nodes (grown source new c) ++ low
    joined =
        nodes-join (grown source new c) (new_units source (Some u.id) new)
        ∙ ap (λ l. nodes (grown source new c) ++ l) (nodes-each (new_unit source) (branches (Some u.id) new))

    parted : units_below source (Some u.id ∷ map place_of (nodes c ++ nodes o)) new ≡ low ++ (units_below source (map place_of (nodes c)) new ++ units_below source (map place_of (nodes o)) new)
    parted =
        map-append (new_unit source) (nodes (branches (Some u.id) new)) (below_all (map place_of (nodes c ++ nodes o)) new)
        ∙ ap (λ l. low ++ l) (ap (λ ps. units_below source ps new) (map-append place_of (nodes c) (nodes o)) ∙ units_beside source (map place_of (nodes c)) (map place_of (nodes o)) new)

-- ---- the merged forest

same_places : (source : Bytes) (rows : List Row) (us : List Unit)
    → map place_of (map (revised source rows) us) ≡ map place_of us
same_places source rows [] = refl
same_places source rows (u ∷ us) =
    ap (λ n. Some n ∷ map place_of (map (revised source rows) us)) (revised_id source rows u)
    ∙ ap (λ l. Some u.id ∷ l) (same_places source rows us)

-- numbers that differ are places that differ
number_places : (us : List Unit) → IsDistinct nat_eq (map (λ (u : Unit). u.id) us)
    → IsDistinct (option_eq nat_eq) (map place_of us)
unfolding IsDistinct
number_places [] d = tt
number_places (u ∷ us) d = (one us d.0, number_places us d.1)
  where
    one : (vs : List Unit) → AllByRecursion (λ n. nat_eq u.id n ≡ false) (map (λ (v : Unit). v.id) vs)
        → AllByRecursion (λ p. option_eq nat_eq (Some u.id) p ≡ false) (map place_of vs)
    one [] h = tt
    one (v ∷ vs) h = (h.0, one vs h.1)

all_places : (us : List Unit) → IsDistinct nat_eq (map (λ (u : Unit). u.id) us)
    → IsDistinct (option_eq nat_eq) (None ∷ map place_of us)
unfolding IsDistinct
all_places us d = (none us, number_places us d)
  where
    none : (vs : List Unit) → AllByRecursion (λ p. option_eq nat_eq None p ≡ false) (map place_of vs)
    none [] = tt
    none (v ∷ vs) = (refl, none vs)

before_places : (n : ℕ) (us : List Unit) → AllByRecursion (λ (u : Unit). u.id < n) us
    → AllByRecursion (IsBefore n) (map place_of us)
before_places n [] h = tt
before_places n (u ∷ us) h = (h.0, before_places n us h.1)

-- ---- each row names a parent that is there, or none

-- a parent that is found has one of these places
HasParents : Forest Unit → Bytes → ℕ → List Row → List (Option ℕ) → Type 0
HasParents f source n above ps =
    (legacy : Bytes) → list_any (option_eq nat_eq (parent_number f source n above legacy)) ps ≡ true

-- so each new row stands below one of them, or below a row further up
all_reached : (f : Forest Unit) (source : Bytes) (n : ℕ) (above rows : List Row) (ps : List (Option ℕ))
    → list_any (option_eq nat_eq None) ps ≡ true → HasParents f source n above ps
    → reached ps (numbered_from f source n above rows) ≡ numbered_from f source n above rows
unfolding HasParents
all_reached f source n above [] ps top h = refl
all_reached f source n above (row ∷ rows) ps top h =
    ap (λ b. cond b (x ∷ reached (Some n ∷ ps) rest) (reached ps rest)) (there row.parent)
    ∙ ap (λ l. x ∷ l) (all_reached f source (n + 1) (row ∷ above) rows (Some n ∷ ps) top more)
  where
    x : New
    x = record { id = n; parent = option_and_then (parent_number f source n above) row.parent; row = row }

    rest : List New
    rest = numbered_from f source (n + 1) (row ∷ above) rows

    there : (p : Option Bytes) → list_any (option_eq nat_eq (option_and_then (parent_number f source n above) p)) ps ≡ true
    there None = top
    there (Some legacy) = h legacy

    back : n + 1 - 1 ≡ n
    back = omega arith

    more : (legacy : Bytes)
        → list_any (option_eq nat_eq (cond (has_legacy legacy row) (Some (n + 1 - 1)) (parent_number f source (n + 1 - 1) above legacy))) (Some n ∷ ps) ≡ true
    more legacy = subst (λ m. list_any (option_eq nat_eq (cond (has_legacy legacy row) (Some m) (parent_number f source m above legacy))) (Some n ∷ ps) ≡ true) (sym back) (at (has_legacy legacy row))
      where
        at : (b : Bool)
            → list_any (option_eq nat_eq (cond b (Some n) (parent_number f source n above legacy))) (Some n ∷ ps) ≡ true
        at true = or_left (nat_eq n n) (list_any (option_eq nat_eq (Some n)) ps) (eq-eqb n n refl)
        at false = or_right (option_eq nat_eq (parent_number f source n above legacy) (Some n)) (list_any (option_eq nat_eq (parent_number f source n above legacy)) ps) (h legacy)

unit_places : (f : Forest Unit) (source legacy : Bytes)
    → list_any (option_eq nat_eq (option_map (λ (unit : Unit). unit.id) (find (is_from source legacy) (nodes f)))) (None ∷ map place_of (nodes f)) ≡ true
unit_places f source legacy = at (find (is_from source legacy) (nodes f)) refl
  where
    stands : (us : List Unit)
        → AllByRecursion (λ (u : Unit). list_any (option_eq nat_eq (Some u.id)) (map place_of us) ≡ true) us
    stands [] = tt
    stands (u ∷ us) = (
      or_left (nat_eq u.id u.id) (list_any (option_eq nat_eq (Some u.id)) (map place_of us)) (eq-eqb u.id u.id refl),
      all_and (λ (v : Unit). list_any (option_eq nat_eq (Some v.id)) (map place_of us) ≡ true) (λ v. Prim.Unit {0}) (λ v. list_any (option_eq nat_eq (Some v.id)) (map place_of (u ∷ us)) ≡ true)
          (λ v h w. or_right (nat_eq v.id u.id) (list_any (option_eq nat_eq (Some v.id)) (map place_of us)) h) us (stands us) (all_true (λ v. Prim.Unit {0}) (λ v. tt) us),
    )

    at : (r : Option Unit) → find (is_from source legacy) (nodes f) ≡ r
        → list_any (option_eq nat_eq (option_map (λ (unit : Unit). unit.id) r)) (None ∷ map place_of (nodes f)) ≡ true
    at None e = refl
    at (Some v) e = all_of_found (λ (u : Unit). list_any (option_eq nat_eq (Some u.id)) (map place_of (nodes f)) ≡ true) (is_from source legacy) (nodes f) v e (stands (nodes f))

every_row : (f : Forest Unit) (source : Bytes) (n : ℕ) (rows : List Row)
    → reached (None ∷ map place_of (nodes f)) (numbered_from f source n [] rows) ≡ numbered_from f source n [] rows
unfolding HasParents
every_row f source n rows = all_reached f source n [] rows (None ∷ map place_of (nodes f)) refl (unit_places f source)

pub numbered_are : (f : Forest Unit) (source : Bytes) (n : ℕ) (above rows : List Row)
    → AreNumberedFrom n (numbered_from f source n above rows)
numbered_are f source n above [] = tt
numbered_are f source n above (row ∷ rows) = (refl, numbered_are f source (n + 1) (row ∷ above) rows)

-- ---- the units after an import

-- Where the catalogued units have different numbers, all before n: up to order the units are the catalogued ones, revised,
-- and one for each new row.
pub merged_nodes : (source : Bytes) (rows : List Row) (n : ℕ) (news : List Row) (f : Forest Unit)
    → IsDistinct nat_eq (map (λ (u : Unit). u.id) (nodes f)) → AllByRecursion (λ (u : Unit). u.id < n) (nodes f)
    → IsPermutation (nodes (merged_forest source rows (numbered_from f source n [] news) f)) (map (revised source rows) (nodes f) ++ map (new_unit source) (numbered_from f source n [] news))
merged_nodes source rows n news f d b =
    subst (λ l. IsPermutation l (old ++ map (new_unit source) new)) (sym parts)
    (IsPermutation-trans (nodes (grown source new g) ++ tops) (old ++ units_below source places new) (old ++ map (new_unit source) new)
    (subst (λ l. IsPermutation (nodes (grown source new g) ++ tops) (old ++ l)) (sym low) sided)
    (IsPermutation-append_right old (units_below source places new) (map (new_unit source) new)
    (IsPermutation-map (new_unit source) (below_all places new) new
    (subst (IsPermutation (below_all places new)) (every_row f source n news) (below_reached n places new (all_places (nodes f) d) (tt, before_places n (nodes f) b) (numbered_are f source n [] news))))))
  where
    new : List New
    new = numbered_from f source n [] news

    g : Forest Unit
    g = each (revised source rows) f

    old : List Unit
    old = map (revised source rows) (nodes f)

    places : List (Option ℕ)
    places = None ∷ map place_of (nodes f)

    tops : List Unit
    tops = map (new_unit source) (nodes (branches None new))

    lower : List Unit
    lower = units_below source (map place_of (nodes f)) new

    parts : nodes (merged_forest source rows new f) ≡ nodes (grown source new g) ++ tops
    parts =
        nodes-join (grown source new g) (new_units source None new)
        ∙ ap (λ l. nodes (grown source new g) ++ l) (nodes-each (new_unit source) (branches None new))

    low : units_below source places new ≡ tops ++ lower
    low = map-append (new_unit source) (nodes (branches None new)) (below_all (map place_of (nodes f)) new)

    grew : IsPermutation (nodes (grown source new g)) (old ++ lower)
    grew =
        subst (λ l. IsPermutation (nodes (grown source new g)) (old ++ units_below source l new)) (same_places source rows (nodes f))
        (subst (λ l. IsPermutation (nodes (grown source new g)) (l ++ units_below source (map place_of l) new)) (nodes-each (revised source rows) f) (grown_nodes source new g))

    sided : IsPermutation (nodes (grown source new g) ++ tops) (old ++ (tops ++ lower))
    sided =
        IsPermutation-trans (nodes (grown source new g) ++ tops) ((old ++ lower) ++ tops) (old ++ (tops ++ lower)) (IsPermutation-append_left tops (nodes (grown source new g)) (old ++ lower) grew)
        (subst (λ l. IsPermutation l (old ++ (tops ++ lower))) (sym (append_assoc old lower tops)) (IsPermutation-append_right old (lower ++ tops) (tops ++ lower) (IsPermutation-append_comm lower tops)))

-- a unit that was there is there
pub still_there : (source : Bytes) (rows : List Row) (new : List New) (f : Forest Unit) (u : ℕ) → has_unit f u ≡ true
    → has_unit (merged_forest source rows new f) u ≡ true
still_there source rows new f u h =
    has-join (has_id u) (grown source new (each (revised source rows) f)) (new_units source None new)
    ∙ or_left (has (has_id u) (grown source new (each (revised source rows) f))) (has (has_id u) (new_units source None new))
    (grown_keeps source new (has_id u) (each (revised source rows) f) (each_units (revised source rows) f u (revised_id source rows) ∙ h))
