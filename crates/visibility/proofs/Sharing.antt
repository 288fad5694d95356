-- Which units share the containers above them, and who may see all of these.
use Rattle.std.proofs.Common.{if◌then◌else◌, ◌≡◌, ℕ, ℤ, Bool, true, false, cond, not, ◌&&◌, ◌||◌, List, [], ◌∷◌, ◌++◌}
use Rattle.std.proofs.Common.{refl, sym, ap, ◌∙◌, nat_eq, inl, inr, map, append_assoc, subst}
use Rattle.std.proofs.Math.Bool.{or-false}
use Rattle.std.proofs.lemmas.Bool.{cases_Bool, eq-eqb, false≢true, or_parts}
use Rattle.std.proofs.lemmas.List.{map-append}
use Rattle.std.proofs.lemmas.List.Folds.{list_any-append}
use Rattle.std.specs.List.{list_all, list_any}
use Rattle.tree_core.proofs.Adding.{Here, Below, Beside, place}
use Rattle.tree_core.proofs.EachLemmas.{has-each, nodes-each}
use Rattle.tree_core.proofs.LinkPaths.{parts, other_id}
use Rattle.tree_core.proofs.Lists.{In, In-append, In-append_left, In-append_right, In-map, any_from_In}
use Rattle.tree_core.specs.Forest.{Empty, Forest, HasDistinctIds, Node, each, has, nodes, path}
use Rattle.visibility.specs.Marks.{is_closed, withholds, contents_paths}
use Rattle.visibility.specs.Visibility.{sharing, sharing_paths}
use Rattle.visibility.specs.declared.marks.Mark.{Mark}
use Rattle.visibility.proofs.MarkWalks.{is_draft, has_permit, is_seen, is_boxed, list_all-append}

-- ---- by paths
-- what is not in the forest does not share either
shares_none : {A : Type 0} (boxed is : A → Bool) (f : Forest A) → has is f ≡ false
    → list_any is (sharing boxed f) ≡ false
shares_none boxed is Empty h = refl
shares_none boxed is (Node a c o) h =
    let all : (is a || (has is c || has is o)) ≡ false =
    ap (λ b. is a || b) (sym (list_any-append is (nodes c) (nodes o))) ∙ h in
    let p = or_parts (is a) (has is c || has is o) all in
    let q = or_parts (has is c) (has is o) p.1 in
    elim (boxed a) as (λ b. list_any is (if b then sharing boxed o else a ∷ (sharing boxed c ++ sharing boxed o)) ≡ false) [
      | true ↦ shares_none boxed is o q.1
      | false ↦ rw (p.0, list_any-append is (sharing boxed c) (sharing boxed o), shares_none boxed is c q.0) (shares_none boxed is o q.1)
    ]

-- a node shares exactly where no node of its path in the forest has a container
pub shares : {A : Type 0} (key : A → ℕ) (boxed : A → Bool) (x : ℕ) (f : Forest A) → HasDistinctIds (each key f)
    → has (λ a. nat_eq x (key a)) f ≡ true →
    list_any (λ a. nat_eq x (key a)) (sharing boxed f) ≡ not (list_any boxed (path (λ a. nat_eq x (key a)) f))
shares key boxed x Empty d h = absurd (false≢true h)
shares {A} key boxed x (Node a c o) d h =
    let is : A → Bool = λ b. nat_eq x (key b) in
    let p = parts (key a) (each key c) (each key o) d in
    elim (place x (key a) (each key c) (each key o) d (has-each (nat_eq x) key (Node a c o) ∙ h)) [
      | Here same not_c not_o ↦
          let no_o : has is o ≡ false = sym (has-each (nat_eq x) key o) ∙ not_o in
          rw (eq-eqb x (key a) same) (elim (boxed a) as (λ b. list_any is (if b then sharing boxed o else a ∷ (sharing boxed c ++ sharing boxed o)) ≡ not (b || false)) [
            | true ↦ shares_none boxed is o no_o
            | false ↦ rw (eq-eqb x (key a) same) refl
          ])
      | Below n in_c not_o ↦
          let yes_c : has is c ≡ true = sym (has-each (nat_eq x) key c) ∙ in_c in
          let no_o : has is o ≡ false = sym (has-each (nat_eq x) key o) ∙ not_o in
          let below = shares key boxed x c p.children_distinct yes_c in
          rw (n, yes_c) (elim (boxed a) as (λ b. list_any is (if b then sharing boxed o else a ∷ (sharing boxed c ++ sharing boxed o)) ≡ not (b || list_any boxed (path is c))) [
            | true ↦ shares_none boxed is o no_o
            | false ↦ rw (n, list_any-append is (sharing boxed c) (sharing boxed o), shares_none boxed is o no_o, or-false (list_any is (sharing boxed c))) below
          ])
      | Beside n not_c in_o ↦
          let no_c : has is c ≡ false = sym (has-each (nat_eq x) key c) ∙ not_c in
          let yes_o : has is o ≡ true = sym (has-each (nat_eq x) key o) ∙ in_o in
          let beside = shares key boxed x o p.others_distinct yes_o in
          rw (n, no_c) (elim (boxed a) as (λ b. list_any is (if b then sharing boxed o else a ∷ (sharing boxed c ++ sharing boxed o)) ≡ not (list_any boxed (path is o))) [
            | true ↦ beside
            | false ↦ rw (n, list_any-append is (sharing boxed c) (sharing boxed o), shares_none boxed is c no_c) beside
          ])
    ]

sharing_in : {A : Type 0} (boxed : A → Bool) (f : Forest A) (b : A) → In b (sharing boxed f) → In b (nodes f)
sharing_in boxed Empty b h = h
sharing_in {A} boxed (Node a c o) b h = elim (cases_Bool (boxed a)) [
  | inl t ↦ inr (In-append_right (nodes c) (nodes o) b (sharing_in boxed o b (subst (In b) (skipped t) h)))
  | inr f ↦ first (sharing boxed c) (sharing boxed o) (subst (In b) (taken f) h) (sharing_in boxed c b) (sharing_in boxed o b)
]
  where
    skipped : boxed a ≡ true → sharing boxed (Node a c o) ≡ sharing boxed o
    skipped t = rw t refl

    taken : boxed a ≡ false → sharing boxed (Node a c o) ≡ a ∷ (sharing boxed c ++ sharing boxed o)
    taken f = rw f refl

    joined : (xs ys : List A) → (In b xs → In b (nodes c)) → (In b ys → In b (nodes o)) → In b (xs ++ ys)
        → In b (nodes c ++ nodes o)
    joined xs ys f g i = elim (In-append xs ys b i) [ inl j ↦ In-append_left (nodes c) (nodes o) b (f j) | inr j ↦ In-append_right (nodes c) (nodes o) b (g j) ]

    first : (xs ys : List A) → In b (a ∷ (xs ++ ys)) → (In b xs → In b (nodes c)) → (In b ys → In b (nodes o))
        → In b (a ∷ (nodes c ++ nodes o))
    first xs ys (inl e) f g = inl e
    first xs ys (inr i) f g = inr (joined xs ys f g i)

map_same : {A B : Type 0} (f g : A → B) (xs : List A) → ((x : A) → In x xs → f x ≡ g x) → map f xs ≡ map g xs
map_same f g [] h = refl
map_same f g (x ∷ xs) h =
    ap (λ y. y ∷ map f xs) (h x (inl refl)) ∙ ap (λ ys. g x ∷ ys) (map_same f g xs (λ y i. h y (inr i)))

has_key : {A : Type 0} (key : A → ℕ) (f : Forest A) (b : A) → In b (nodes f) → has (nat_eq (key b)) (each key f) ≡ true
has_key key f b i =
    ap (list_any (nat_eq (key b))) (nodes-each key f)
    ∙ any_from_In (map key (nodes f)) (key b) (In-map key (nodes f) b i)

-- the paths of the sharing nodes are their paths in the forest
pub sharing_paths-are : {A : Type 0} (key : A → ℕ) (boxed : A → Bool) (above : List A) (f : Forest A)
    → HasDistinctIds (each key f)
    → sharing_paths boxed above f ≡ map (λ b. above ++ path (λ a. nat_eq (key b) (key a)) f) (sharing boxed f)
sharing_paths-are key boxed above Empty d = refl
sharing_paths-are {A} key boxed above (Node a c o) d =
    let p = parts (key a) (each key c) (each key o) d in
    let at : A → List A = λ b. above ++ path (λ x. nat_eq (key b) (key x)) (Node a c o) in
    let below : map (λ b. (above ++ a ∷ []) ++ path (λ x. nat_eq (key b) (key x)) c) (sharing boxed c) ≡ map at (sharing boxed c) =
    map_same (λ b. (above ++ a ∷ []) ++ path (λ x. nat_eq (key b) (key x)) c) at (sharing boxed c) (λ b i.
    let h = has_key key c b (sharing_in boxed c b i) in
    append_assoc above (a ∷ []) (path (λ x. nat_eq (key b) (key x)) c)
    ∙ ap (λ xs. above ++ xs) (sym (path_inside b (other_id (key a) (key b) (each key c) p.not_below h) (sym (has-each (nat_eq (key b)) key c) ∙ h)))) in
    let beside : map (λ b. above ++ path (λ x. nat_eq (key b) (key x)) o) (sharing boxed o) ≡ map at (sharing boxed o) =
    map_same (λ b. above ++ path (λ x. nat_eq (key b) (key x)) o) at (sharing boxed o) (λ b i.
    let h = has_key key o b (sharing_in boxed o b i) in
    ap (λ xs. above ++ xs) (sym (path_outside b (other_id (key a) (key b) (each key o) p.not_beside h) (sym (has-each (nat_eq (key b)) key c) ∙ not_in_first (key b) (each key c) (each key o) p.apart h)))) in
    elim (cases_Bool (boxed a)) [
      | inl t ↦ rw t (sharing_paths-are key boxed above o p.others_distinct ∙ beside)
      | inr n ↦
          rw n
          (ap (λ xs. (above ++ a ∷ []) ∷ xs)
          (ap (λ xs. xs ++ sharing_paths boxed above o) (sharing_paths-are key boxed (above ++ a ∷ []) c p.children_distinct ∙ below)
          ∙ ap (λ xs. map at (sharing boxed c) ++ xs) (sharing_paths-are key boxed above o p.others_distinct ∙ beside)
          ∙ sym (map-append at (sharing boxed c) (sharing boxed o)))
          ∙ ap (λ xs. xs ∷ map at (sharing boxed c ++ sharing boxed o)) (ap (λ xs. above ++ xs) (sym path_here)))
    ]
  where
    path_here : path (λ x. nat_eq (key a) (key x)) (Node a c o) ≡ a ∷ []
    path_here = rw (eq-eqb (key a) (key a) refl) refl

    path_inside : (b : A) → nat_eq (key b) (key a) ≡ false → has (λ x. nat_eq (key b) (key x)) c ≡ true
        → path (λ x. nat_eq (key b) (key x)) (Node a c o) ≡ a ∷ path (λ x. nat_eq (key b) (key x)) c
    path_inside b n h = rw (n, h) refl

    path_outside : (b : A) → nat_eq (key b) (key a) ≡ false → has (λ x. nat_eq (key b) (key x)) c ≡ false
        → path (λ x. nat_eq (key b) (key x)) (Node a c o) ≡ path (λ x. nat_eq (key b) (key x)) o
    path_outside b n h = rw (n, h) refl

    not_in_first : (x : ℕ) (c o : Forest ℕ) → ((y : ℕ) → has (nat_eq y) c ≡ true → has (nat_eq y) o ≡ false)
        → has (nat_eq x) o ≡ true → has (nat_eq x) c ≡ false
    not_in_first x c o apart h = elim (cases_Bool (has (nat_eq x) c)) [ inl t ↦ absurd (false≢true (sym (apart x t) ∙ h)) | inr n ↦ n ]

-- ---- who may see all of a unit's contents
-- one path, with what is above the unit and without: d, c and p say that a draft, a closed unit or a permit is above
seen_below : (d ds c cs p ps : Bool) → d ≡ false → (c && not (p || ps)) ≡ false
    → not (ds || (cs && not (p || ps))) ≡ not ((d || ds) || ((c || cs) && not (false || (p || ps))))
seen_below true ds c cs p ps e h = absurd (false≢true (sym e))
seen_below false true c cs p ps e h = refl
seen_below false false false cs p ps e h = refl
seen_below false false true cs true ps e h = and_any cs
  where
    and_any : (b : Bool) → not (b && false) ≡ true
    and_any true = refl
    and_any false = refl
seen_below false false true cs false true e h = and_any cs
  where
    and_any : (b : Bool) → not (b && false) ≡ true
    and_any true = refl
    and_any false = refl
seen_below false false true cs false false e h = absurd (false≢true (sym h))

seen_with : (today : ℤ) (above Q : List Mark) → list_any is_draft above ≡ false
    → (list_any (is_closed today) above && not (list_any has_permit above || list_any has_permit Q)) ≡ false
    → is_seen today (list_any has_permit above) Q ≡ is_seen today false (above ++ Q)
seen_with today above Q d h =
    seen_below (list_any is_draft above) (list_any is_draft Q) (list_any (is_closed today) above) (list_any (is_closed today) Q) (list_any has_permit above) (list_any has_permit Q) d h
    ∙ sym (rw (list_any-append is_draft above Q, list_any-append (is_closed today) above Q, list_any-append has_permit above Q) refl)

still_open : (c p ps q : Bool) → (c && not (p || ps)) ≡ false → (c && not (p || (ps || q))) ≡ false
still_open false p ps q h = refl
still_open true true ps q h = refl
still_open true false true q h = refl
still_open true false false q h = absurd (false≢true (sym h))

seen_paths : (today : ℤ) (above P : List Mark) (f : Forest Mark) → list_any is_draft above ≡ false
    → (list_any (is_closed today) above && not (list_any has_permit above || list_any has_permit P)) ≡ false
    → list_all (is_seen today (list_any has_permit above)) (sharing_paths is_boxed P f) ≡ list_all (λ Q. is_seen today false (above ++ Q)) (sharing_paths is_boxed P f)
seen_paths today above P Empty d h = refl
seen_paths today above P (Node m c o) d h =
    let Q = P ++ m ∷ [] in
    let open' : (list_any (is_closed today) above && not (list_any has_permit above || list_any has_permit Q)) ≡ false =
    ap (λ b. list_any (is_closed today) above && not (list_any has_permit above || b)) (list_any-append has_permit P (m ∷ [])) ∙ still_open (list_any (is_closed today) above) (list_any has_permit above) (list_any has_permit P) (m.permit || false) h in
    let below = seen_paths today above Q c d open' in
    let beside = seen_paths today above P o d h in
    let one : List Mark → Bool = is_seen today (list_any has_permit above) in
    let two : List Mark → Bool = λ X. is_seen today false (above ++ X) in
    let rest = sharing_paths is_boxed Q c ++ sharing_paths is_boxed P o in
    elim m.boxed as (λ b. list_all one (cond b (sharing_paths is_boxed P o) (Q ∷ rest)) ≡ list_all two (cond b (sharing_paths is_boxed P o) (Q ∷ rest))) [
      | true ↦ beside
      | false ↦
          ap (λ b. b && list_all one rest) (seen_with today above Q d open')
          ∙ ap (λ b. two Q && b)
          (list_all-append one (sharing_paths is_boxed Q c) (sharing_paths is_boxed P o)
          ∙ ap (λ b. b && list_all one (sharing_paths is_boxed P o)) below
          ∙ ap (λ b. list_all two (sharing_paths is_boxed Q c) && b) beside
          ∙ sym (list_all-append two (sharing_paths is_boxed Q c) (sharing_paths is_boxed P o)))
    ]

-- a unit's path and its contents are clean exactly where each unit of its contents is seen by its own path
pub open_by_paths : (today : ℤ) (above : List Mark) (unit : Mark) (below : Forest Mark) →
    (not (withholds today false (above ++ unit ∷ [])) && list_all (λ path. not (withholds today (list_any (λ (m : Mark). m.permit) above) path)) (contents_paths unit below)) ≡ list_all (λ path. not (withholds today false (above ++ path))) (contents_paths unit below)
open_by_paths today above unit below = elim (cases_Bool (is_seen today false (above ++ unit ∷ []))) [
  | inl t ↦
      let facts = seen_parts (list_any is_draft above) (list_any is_draft (unit ∷ [])) (list_any (is_closed today) above) (list_any (is_closed today) (unit ∷ [])) (list_any has_permit above) (list_any has_permit (unit ∷ []))
      (sym (rw (list_any-append is_draft above (unit ∷ []), list_any-append (is_closed today) above (unit ∷ []), list_any-append has_permit above (unit ∷ [])) refl) ∙ t) in
      rw t
      (ap (λ b. b && list_all (is_seen today (list_any has_permit above)) (sharing_paths is_boxed (unit ∷ []) below)) (seen_with today above (unit ∷ []) facts.0 facts.1)
      ∙ ap (λ b. is_seen today false (above ++ unit ∷ []) && b) (seen_paths today above (unit ∷ []) below facts.0 facts.1)
      ∙ rw t refl)
  | inr f ↦ rw f refl
]
  where
    seen_parts : (d ds c cs p ps : Bool) → not ((d || ds) || ((c || cs) && not (false || (p || ps)))) ≡ true
        → (d ≡ false) × ((c && not (p || ps)) ≡ false)
    seen_parts true ds c cs p ps t = absurd (false≢true t)
    seen_parts false true c cs p ps t = absurd (false≢true t)
    seen_parts false false false cs p ps t = (refl, refl)
    seen_parts false false true cs true ps t = (refl, refl)
    seen_parts false false true cs false true t = (refl, refl)
    seen_parts false false true cs false false t = absurd (false≢true t)
