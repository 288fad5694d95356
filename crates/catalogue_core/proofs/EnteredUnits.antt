-- What is found in a forest that one more unit came into: the others as before, and the unit itself below its parent.
use Rattle.std.proofs.Common.{◌≡◌, ℕ, suc, Bool, true, false, cond, ◌||◌, List, [], ◌∷◌, ◌++◌, length, map, Option}
use Rattle.std.proofs.Common.{Some, None, refl, sym, ap, ap₂, ◌∙◌, subst}
use Rattle.tree_core.proofs.SpanShifts.{none_of}
use Rattle.catalogue_core.proofs.Common.{Empty, Forest, Node, Unit, add, depth, each, false≢true, find, has, has-each}
use Rattle.catalogue_core.proofs.Common.{has_id, has_place, join, length-map, list_any, nodes, nodes-each, option_map}
use Rattle.catalogue_core.proofs.Common.{path, path-each, put_below}
use Rattle.catalogue_core.proofs.Branches.{put_none}
use Rattle.catalogue_core.proofs.Rooted.{has_node}

-- the first of two that is there
abbrev pub or_else : {X : Type 0} → Option X → Option X → Option X
or_else None y = y
or_else (Some x) y = Some x

pub find-append : {X : Type 0} (p : X → Bool) (xs ys : List X) → find p (xs ++ ys) ≡ or_else (find p xs) (find p ys)
find-append p [] ys = refl
find-append p (x ∷ xs) ys = at (p x) (find-append p xs ys)
  where
    at : (b : Bool) → find p (xs ++ ys) ≡ or_else (find p xs) (find p ys)
        → cond b (Some x) (find p (xs ++ ys)) ≡ or_else (cond b (Some x) (find p xs)) (find p ys)
    at true e = refl
    at false e = e

pub find_none : {X : Type 0} (p : X → Bool) (xs : List X) → list_any p xs ≡ false → find p xs ≡ None
find_none p [] e = refl
find_none p (x ∷ xs) e = at (p x) e (find_none p xs)
  where
    at : (b : Bool) → (b || list_any p xs) ≡ false → (list_any p xs ≡ false → find p xs ≡ None)
        → cond b (Some x) (find p xs) ≡ None
    at true h k = absurd (false≢true (sym h))
    at false h k = k h

-- ---- a search that goes as before

pub record Same (is : Unit → Bool) (f g : Forest Unit) : Type 0 where
  pub there : has is g ≡ has is f
  pub way : path is g ≡ path is f
  pub found : find is (nodes g) ≡ find is (nodes f)

node_same : (is : Unit → Bool) (a : Unit) (c o d p : Forest Unit) → Same is c d → Same is o p
    → Same is (Node a c o) (Node a d p)
node_same is a c o d p x y = record {
  there = has_node is a d p ∙ (ap₂ (λ m n. is a || (m || n)) x.there y.there ∙ sym (has_node is a c o));
  way = ap₂ (λ m n. cond (is a) (a ∷ []) (cond m n (path is p))) x.there (ap (λ l. a ∷ l) x.way) ∙ ap (λ l. cond (is a) (a ∷ []) (cond (has is c) (a ∷ path is c) l)) y.way;
  found = ap (cond (is a) (Some a)) (find-append is (nodes d) (nodes p) ∙ (ap₂ or_else x.found y.found ∙ sym (find-append is (nodes c) (nodes o))));
}

module _ (is : Unit → Bool) (u : Unit) (other : is u ≡ false) where
  abbrev leaf : Forest Unit
  leaf = Node u Empty Empty

  same_joined : (f : Forest Unit) → Same is f (join f leaf)
  same_joined Empty = record {
    there = ap (λ b. b || false) other;
    way = ap (λ (b : Bool). cond b (u ∷ []) []) other;
    found = ap (λ (b : Bool). cond b (Some u) None) other;
  }
  same_joined (Node a c o) =
      node_same is a c o c (join o leaf) (record { there = refl; way = refl; found = refl }) (same_joined o)

  same_put : (at_it : Unit → Bool) (f : Forest Unit) → Same is f (put_below at_it leaf f)
  same_put at_it Empty = record { there = refl; way = refl; found = refl }
  same_put at_it (Node a c o) = at (at_it a) (same_put at_it c) (same_put at_it o)
    where
      at : (b : Bool) → Same is c (put_below at_it leaf c) → Same is o (put_below at_it leaf o)
          → Same is (Node a c o) (Node a (cond b (join c leaf) (put_below at_it leaf c)) (put_below at_it leaf o))
      at true x y = node_same is a c o (join c leaf) (put_below at_it leaf o) (same_joined c) y
      at false x y = node_same is a c o (put_below at_it leaf c) (put_below at_it leaf o) x y

  pub same_added : (p : Option ℕ) (f : Forest Unit) → Same is f (add has_id p u f)
  same_added None f = same_joined f
  same_added (Some q) f = same_put (has_id q) f

-- ---- the unit itself

pub record Placed (is : Unit → Bool) (u : Unit) (g : Forest Unit) (n : ℕ) : Type 0 where
  pub there : has is g ≡ true
  pub deep : length (path is g) ≡ suc n
  pub found : find is (nodes g) ≡ Some u

-- beside a tree that has none
placed_beside : (is : Unit → Bool) (u a : Unit) (c g : Forest Unit) (n : ℕ) → is a ≡ false → has is c ≡ false
    → Placed is u g n → Placed is u (Node a c g) n
placed_beside is u a c g n x y h = record {
  there = has_node is a c g ∙ (ap₂ (λ m k. m || (k || has is g)) x y ∙ h.there);
  deep = ap₂ (λ (m k : Bool). length (cond m (a ∷ []) (cond k (a ∷ path is c) (path is g)))) x y ∙ h.deep;
  found = ap (λ (m : Bool). cond m (Some a) (find is (nodes c ++ nodes g))) x ∙ (find-append is (nodes c) (nodes g) ∙ (ap (λ r. or_else r (find is (nodes g))) (find_none is (nodes c) y) ∙ h.found));
}

placed_below : (is : Unit → Bool) (u a : Unit) (g o : Forest Unit) (n : ℕ) → is a ≡ false → Placed is u g n
    → Placed is u (Node a g o) (suc n)
placed_below is u a g o n x h = record {
  there = has_node is a g o ∙ ap₂ (λ m k. m || (k || has is o)) x h.there;
  deep = ap₂ (λ (m k : Bool). length (cond m (a ∷ []) (cond k (a ∷ path is g) (path is o)))) x h.there ∙ ap suc h.deep;
  found = ap (λ (m : Bool). cond m (Some a) (find is (nodes g ++ nodes o))) x ∙ (find-append is (nodes g) (nodes o) ∙ ap (λ r. or_else r (find is (nodes o))) h.found);
}

module _ (is : Unit → Bool) (u : Unit) (it : is u ≡ true) where
  placed_joined : (f : Forest Unit) → has is f ≡ false → Placed is u (join f (Node u Empty Empty)) 0
  placed_joined Empty none = record {
    there = ap (λ b. b || false) it;
    deep = ap (λ (b : Bool). length (cond b (u ∷ []) [])) it;
    found = ap (λ (b : Bool). cond b (Some u) None) it;
  }
  placed_joined (Node a c o) none =
      let n = none_of is a c o none in
      placed_beside is u a c (join o (Node u Empty Empty)) 0 n.0 n.1 (placed_joined o n.2)

  placed_put : (at_it : Unit → Bool) (f : Forest Unit) → has is f ≡ false → has at_it f ≡ true
      → Placed is u (put_below at_it (Node u Empty Empty) f) (length (path at_it f))
  placed_put at_it Empty none some = absurd (false≢true some)
  placed_put at_it (Node a c o) none some =
      let n = none_of is a c o none in
      at (at_it a) (has at_it c) refl refl n.0 n.1 n.2 (placed_put at_it c n.1) (placed_put at_it o n.2)
    where
      there_beside : at_it a ≡ false → has at_it c ≡ false → has at_it o ≡ true
      there_beside x y = sym (has_node at_it a c o ∙ ap₂ (λ m k. m || (k || has at_it o)) x y) ∙ some

      at : (b d : Bool) → at_it a ≡ b → has at_it c ≡ d → is a ≡ false → has is c ≡ false → has is o ≡ false
          → (has at_it c ≡ true → Placed is u (put_below at_it (Node u Empty Empty) c) (length (path at_it c)))
          → (has at_it o ≡ true → Placed is u (put_below at_it (Node u Empty Empty) o) (length (path at_it o)))
          → Placed is u (Node a (cond b (join c (Node u Empty Empty)) (put_below at_it (Node u Empty Empty) c)) (put_below at_it (Node u Empty Empty) o)) (length (cond b (a ∷ []) (cond d (a ∷ path at_it c) (path at_it o))))
      at true d e f x y z k l =
          placed_below is u a (join c (Node u Empty Empty)) (put_below at_it (Node u Empty Empty) o) 0 x (placed_joined c y)
      at false true e f x y z k l =
          placed_below is u a (put_below at_it (Node u Empty Empty) c) (put_below at_it (Node u Empty Empty) o) (length (path at_it c)) x (k f)
      at false false e f x y z k l =
          subst (λ g. Placed is u (Node a g (put_below at_it (Node u Empty Empty) o)) (length (path at_it o))) (sym (put_none at_it (Node u Empty Empty) c f))
          (placed_beside is u a c (put_below at_it (Node u Empty Empty) o) (length (path at_it o)) x y (l (there_beside e f)))

  pub placed_added : (p : Option ℕ) (f : Forest Unit) → has is f ≡ false → has_place has_id p f ≡ true
      → Placed is u (add has_id p u f) (depth p f)
  placed_added None f none some = placed_joined f none
  placed_added (Some q) f none some = placed_put (has_id q) f none some

-- ---- a search among units that changed, but not in what is looked for

pub record Alike (is : Unit → Bool) (f g : Forest Unit) : Type 0 where
  pub there : has is g ≡ has is f
  pub deep : length (path is g) ≡ length (path is f)
  pub number : option_map (λ (u : Unit). u.id) (find is (nodes g)) ≡ option_map (λ (u : Unit). u.id) (find is (nodes f))

numbers_stay : (is : Unit → Bool) (g : Unit → Unit) → ((u : Unit) → is (g u) ≡ is u) → ((u : Unit) → (g u).id ≡ u.id)
    → (us : List Unit)
    → option_map (λ (u : Unit). u.id) (find is (map g us)) ≡ option_map (λ (u : Unit). u.id) (find is us)
numbers_stay is g same id [] = refl
numbers_stay is g same id (u ∷ us) =
    ap (λ (b : Bool). option_map (λ (v : Unit). v.id) (cond b (Some (g u)) (find is (map g us)))) (same u) ∙ at (is u) (numbers_stay is g same id us)
  where
    at : (b : Bool)
        → option_map (λ (v : Unit). v.id) (find is (map g us)) ≡ option_map (λ (v : Unit). v.id) (find is us)
        → option_map (λ (v : Unit). v.id) (cond b (Some (g u)) (find is (map g us))) ≡ option_map (λ (v : Unit). v.id) (cond b (Some u) (find is us))
    at true e = ap Some (id u)
    at false e = e

pub alike_each : (is : Unit → Bool) (g : Unit → Unit) → ((u : Unit) → is (g u) ≡ is u) → ((u : Unit) → (g u).id ≡ u.id)
    → (f : Forest Unit) → Alike is f (each g f)
alike_each is g same id f = record {
  there = has-each is g f ∙ ap (λ (test : Unit → Bool). has test f) (λ i u. same u i);
  deep = ap length (path-each is g f) ∙ (length-map (path (λ u. is (g u)) f) g ∙ ap (λ (test : Unit → Bool). length (path test f)) (λ i u. same u i));
  number = ap (λ us. option_map (λ (u : Unit). u.id) (find is us)) (nodes-each g f) ∙ numbers_stay is g same id (nodes f);
}
