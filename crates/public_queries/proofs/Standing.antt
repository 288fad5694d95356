-- The public part of a forest, cut first, and the paths of the whole: where a unit stands.
use Rattle.std.proofs.Common.{◌≡◌, ℕ, Bool, true, false, not, ◌&&◌, ◌||◌, cond, List, [], ◌∷◌, ◌++◌, refl, sym, ap}
use Rattle.std.proofs.Common.{subst, ◌∙◌, nat_eq}
use Rattle.std.proofs.lemmas.List.Folds.{list_any-append}
use Rattle.std.specs.Prelude.{map}
use Rattle.tree_core.proofs.LinkPaths.{Parts, parts}
use Rattle.visibility.specs.Visibility.{public}
use Rattle.public_queries.proofs.Common.{Empty, Forest, HasDistinctIds, Node, PublicUnit, Unit, each, eqb-true}
use Rattle.public_queries.proofs.Common.{false≢true, has, has-each, has_id, has_public_number, head_of, is_open_on}
use Rattle.public_queries.proofs.Common.{is_unit_closed, known_of, list_any, nodes, number_known, path, public_of}
use Rattle.public_queries.proofs.Common.{public_unit, shows_last, tree, ℤ}

-- ---- what is found in a forest with a first node

module _ {A : Type 0} (is : A → Bool) where
  has_node : (a : A) (c o : Forest A) → has is (Node a c o) ≡ (is a || (has is c || has is o))
  has_node a c o = ap (λ b. is a || b) (list_any-append is (nodes c) (nodes o))

  none_of : (a b c : Bool) → (a || (b || c)) ≡ false → (a ≡ false) × (b ≡ false) × (c ≡ false)
  none_of true b c e = absurd (cc)
  none_of false true c e = absurd (cc)
  none_of false false c e = (refl, refl, e)

  pub nowhere : (f : Forest A) → has is f ≡ false → (path is f ≡ []) × (tree is f ≡ Empty)
  nowhere Empty e = (refl, refl)
  nowhere (Node a c o) e =
      let n = none_of (is a) (has is c) (has is o) (sym (has_node a c o) ∙ e) in
      let r = nowhere o n.2 in (
        ap (λ b. cond b (a ∷ []) (cond (has is c) (a ∷ path is c) (path is o))) n.0 ∙ ap (λ b. cond b (a ∷ path is c) (path is o)) n.1 ∙ r.0,
        ap (λ b. cond b (Node a c Empty) (cond (has is c) (tree is c) (tree is o))) n.0 ∙ ap (λ b. cond b (tree is c) (tree is o)) n.1 ∙ r.1,
      )

  -- the node that passes is found, with this path and this tree, or none is
  pub record Finds (f : Forest A) (there : Bool) (way : List A) (part : Forest A) : Type 0 where
    pub has_is : has is f ≡ there
    pub path_is : path is f ≡ cond there way []
    pub tree_is : tree is f ≡ cond there part Empty

  finds_none : (f : Forest A) (way : List A) (part : Forest A) → has is f ≡ false → Finds f false way part
  finds_none f way part e = let n = nowhere f e in record { has_is = e; path_is = n.0; tree_is = n.1 }

  finds_here : (a : A) (c o : Forest A) → is a ≡ true → Finds (Node a c o) true (a ∷ []) (Node a c Empty)
  finds_here a c o e = record {
    has_is = ap (λ b. b || list_any is (nodes c ++ nodes o)) e;
    path_is = ap (λ b. cond b (a ∷ []) (cond (has is c) (a ∷ path is c) (path is o))) e;
    tree_is = ap (λ b. cond b (Node a c Empty) (cond (has is c) (tree is c) (tree is o))) e;
  }

  finds_below : (a : A) (c o : Forest A) (there : Bool) (way : List A) (part : Forest A) → is a ≡ false
      → Finds c there way part → has is o ≡ false → Finds (Node a c o) there (a ∷ way) part
  finds_below a c o false way part e it none =
      finds_none (Node a c o) (a ∷ way) part (has_node a c o ∙ ap (λ b. b || (has is c || has is o)) e ∙ ap (λ b. b || has is o) it.has_is ∙ none)
  finds_below a c o true way part e it none = record {
    has_is = has_node a c o ∙ ap (λ b. b || (has is c || has is o)) e ∙ ap (λ b. b || has is o) it.has_is;
    path_is = ap (λ b. cond b (a ∷ []) (cond (has is c) (a ∷ path is c) (path is o))) e ∙ ap (λ b. cond b (a ∷ path is c) (path is o)) it.has_is ∙ ap (λ l. a ∷ l) it.path_is;
    tree_is = ap (λ b. cond b (Node a c Empty) (cond (has is c) (tree is c) (tree is o))) e ∙ ap (λ b. cond b (tree is c) (tree is o)) it.has_is ∙ it.tree_is;
  }

  finds_beside : (a : A) (c o : Forest A) (there : Bool) (way : List A) (part : Forest A) → is a ≡ false
      → has is c ≡ false → Finds o there way part → Finds (Node a c o) there way part
  finds_beside a c o there way part e none it = record {
    has_is = has_node a c o ∙ ap (λ b. b || (has is c || has is o)) e ∙ ap (λ b. b || has is o) none ∙ it.has_is;
    path_is = ap (λ b. cond b (a ∷ []) (cond (has is c) (a ∷ path is c) (path is o))) e ∙ ap (λ b. cond b (a ∷ path is c) (path is o)) none ∙ it.path_is;
    tree_is = ap (λ b. cond b (Node a c Empty) (cond (has is c) (tree is c) (tree is o))) e ∙ ap (λ b. cond b (tree is c) (tree is o)) none ∙ it.tree_is;
  }

  -- the path of a node that is there ends with it, and its tree begins with it
  pub record Stands (f : Forest A) : Type 0 where
    pub above : List A
    pub node : A
    pub children : Forest A
    pub way : path is f ≡ above ++ node ∷ []
    pub part : tree is f ≡ Node node children Empty
    pub passes : is node ≡ true

  pub stands : (f : Forest A) → has is f ≡ true → Stands f
  stands Empty e = absurd (false≢true e)
  stands (Node a c o) e = at (is a) refl (stands c) (stands o)
    where
      on : (b : Bool) → is a ≡ false → has is c ≡ b → (has is c ≡ true → Stands c) → (has is o ≡ true → Stands o)
          → Stands (Node a c o)
      on true n h in_c in_o =
          let it = in_c h in
          record {
            above = a ∷ it.above;
            node = it.node;
            children = it.children;
            way = ap (λ b. cond b (a ∷ []) (cond (has is c) (a ∷ path is c) (path is o))) n ∙ ap (λ b. cond b (a ∷ path is c) (path is o)) h ∙ ap (λ l. a ∷ l) it.way;
            part = ap (λ b. cond b (Node a c Empty) (cond (has is c) (tree is c) (tree is o))) n ∙ ap (λ b. cond b (tree is c) (tree is o)) h ∙ it.part;
            passes = it.passes;
          }
      on false n h in_c in_o =
          let it = in_o (sym (ap (λ b. b || has is o) h) ∙ sym (ap (λ b. b || (has is c || has is o)) n) ∙ sym (has_node a c o) ∙ e) in
          record {
            above = it.above;
            node = it.node;
            children = it.children;
            way = ap (λ b. cond b (a ∷ []) (cond (has is c) (a ∷ path is c) (path is o))) n ∙ ap (λ b. cond b (a ∷ path is c) (path is o)) h ∙ it.way;
            part = ap (λ b. cond b (Node a c Empty) (cond (has is c) (tree is c) (tree is o))) n ∙ ap (λ b. cond b (tree is c) (tree is o)) h ∙ it.part;
            passes = it.passes;
          }

      at : (b : Bool) → is a ≡ b → (has is c ≡ true → Stands c) → (has is o ≡ true → Stands o) → Stands (Node a c o)
      at true h in_c in_o = record {
        above = [];
        node = a;
        children = c;
        way = ap (λ b. cond b (a ∷ []) (cond (has is c) (a ∷ path is c) (path is o))) h;
        part = ap (λ b. cond b (Node a c Empty) (cond (has is c) (tree is c) (tree is o))) h;
        passes = h;
      }
      at false h in_c in_o = on (has is c) h refl in_c in_o

-- ---- the public part of a forest

module _ (day : ℤ) where
  pub public_draft : (a : Unit) (c o : Forest Unit) → a.draft ≡ true → public_of day (Node a c o) ≡ public_of day o
  public_draft a c o e =
      ap (λ b. each public_unit (cond b (public (λ (u : Unit). u.draft) (is_unit_closed day) o) (Node (a, is_unit_closed day a) (cond (is_unit_closed day a) Empty (public (λ (u : Unit). u.draft) (is_unit_closed day) c)) (public (λ (u : Unit). u.draft) (is_unit_closed day) o)))) e

  -- what the public knows below a unit
  abbrev pub seen_below : Bool → Forest Unit → Forest PublicUnit
  seen_below closed c = cond closed Empty (public_of day c)

  pub public_node : (a : Unit) (c o : Forest Unit) → a.draft ≡ false
      → public_of day (Node a c o) ≡ Node (known_of day a) (seen_below (is_unit_closed day a) c) (public_of day o)
  public_node a c o e =
      ap (λ b. each public_unit (cond b (public (λ (u : Unit). u.draft) (is_unit_closed day) o) (Node (a, is_unit_closed day a) (cond (is_unit_closed day a) Empty (public (λ (u : Unit). u.draft) (is_unit_closed day) c)) (public (λ (u : Unit). u.draft) (is_unit_closed day) o)))) e
      ∙ at (is_unit_closed day a)
    where
      at : (b : Bool)
          → each public_unit (Node (a, is_unit_closed day a) (cond b Empty (public (λ (u : Unit). u.draft) (is_unit_closed day) c)) (public (λ (u : Unit). u.draft) (is_unit_closed day) o)) ≡ Node (known_of day a) (seen_below b c) (public_of day o)
      at true = refl
      at false = refl

  module _ (u : ℕ) where
    is_told : (a : Unit) → has_public_number u (known_of day a) ≡ has_id u a
    is_told a = ap (nat_eq u) (number_known day a)

    absent : (f : Forest Unit) → has (has_id u) f ≡ false → has (has_public_number u) (public_of day f) ≡ false
    absent Empty e = refl
    absent (Node a c o) e = at a.draft refl (is_unit_closed day a) refl (absent c) (absent o)
      where
        n : (has_id u a ≡ false) × (has (has_id u) c ≡ false) × (has (has_id u) o ≡ false)
        n = none_of (has_id u) (has_id u a) (has (has_id u) c) (has (has_id u) o) (sym (has_node (has_id u) a c o) ∙ e)

        below : (b : Bool) → (has (has_id u) c ≡ false → has (has_public_number u) (public_of day c) ≡ false)
            → has (has_public_number u) (seen_below b c) ≡ false
        below true in_c = refl
        below false in_c = in_c n.1

        at : (b : Bool) → a.draft ≡ b → (k : Bool) → is_unit_closed day a ≡ k
            → (has (has_id u) c ≡ false → has (has_public_number u) (public_of day c) ≡ false)
            → (has (has_id u) o ≡ false → has (has_public_number u) (public_of day o) ≡ false)
            → has (has_public_number u) (public_of day (Node a c o)) ≡ false
        at true d k h in_c in_o = ap (has (has_public_number u)) (public_draft a c o d) ∙ in_o n.2
        at false d k h in_c in_o =
            ap (has (has_public_number u)) (public_node a c o d) ∙ has_node (has_public_number u) (known_of day a) (seen_below (is_unit_closed day a) c) (public_of day o)
            ∙ ap (λ b. b || (has (has_public_number u) (seen_below (is_unit_closed day a) c) || has (has_public_number u) (public_of day o))) (is_told a ∙ n.0)
            ∙ ap (λ b. b || has (has_public_number u) (public_of day o)) (below (is_unit_closed day a) in_c) ∙ in_o n.2

    -- whether the public is shown the unit, by its path in the whole forest
    abbrev pub shown_in : Forest Unit → Bool
    shown_in f = shows_last day (map head_of (path (has_id u) f))

    abbrev Seen : Forest Unit → Forest PublicUnit → Type 0
    Seen f g = Finds (has_public_number u) g (shown_in f) (map (known_of day) (path (has_id u) f)) (public_of day (tree (has_id u) f))

    -- cut first and looked for then, or looked for first and judged by its path
    pub seen : (f : Forest Unit) → HasDistinctIds (each (λ (unit : Unit). unit.id) f) → Seen f (public_of day f)
    seen Empty d = record { has_is = refl; path_is = refl; tree_is = refl }
    seen (Node a c o) d = at (has_id u a) refl (seen c p.children_distinct) (seen o p.others_distinct)
      where
        p : Parts a.id (each (λ (unit : Unit). unit.id) c) (each (λ (unit : Unit). unit.id) o)
        p = parts a.id (each (λ (unit : Unit). unit.id) c) (each (λ (unit : Unit). unit.id) o) d

        -- the whole node's, where its path and its tree are known
        told_as : (way : List Unit) (part : Forest Unit) → path (has_id u) (Node a c o) ≡ way
            → tree (has_id u) (Node a c o) ≡ part
            → Finds (has_public_number u) (public_of day (Node a c o)) (shows_last day (map head_of way)) (map (known_of day) way) (public_of day part)
            → Seen (Node a c o) (public_of day (Node a c o))
        told_as way part e k it =
            subst (λ t. Finds (has_public_number u) (public_of day (Node a c o)) (shown_in (Node a c o)) (map (known_of day) (path (has_id u) (Node a c o))) (public_of day t)) (sym k)
            (subst (λ w. Finds (has_public_number u) (public_of day (Node a c o)) (shows_last day (map head_of w)) (map (known_of day) w) (public_of day part)) (sym e) it)

        cut : (g : Forest PublicUnit) → public_of day (Node a c o) ≡ g
            → (b : Bool) (way : List PublicUnit) (part : Forest PublicUnit) → Finds (has_public_number u) g b way part
            → Finds (has_public_number u) (public_of day (Node a c o)) b way part
        cut g e b way part it = subst (λ h. Finds (has_public_number u) h b way part) (sym e) it

        here : (b : Bool) → a.draft ≡ b → nat_eq u a.id ≡ true → has (has_id u) o ≡ false
            → Finds (has_public_number u) (public_of day (Node a c o)) (not b) (known_of day a ∷ []) (public_of day (Node a c Empty))
        here true e h none = cut (public_of day o) (public_draft a c o e) false _ _ (finds_none (has_public_number u) (public_of day o) _ _ (absent o none))
        here false e h none =
            cut _ (public_node a c o e) true _ _
            (subst (Finds (has_public_number u) (Node (known_of day a) (seen_below (is_unit_closed day a) c) (public_of day o)) true (known_of day a ∷ [])) (sym (public_node a c Empty e))
            (finds_here (has_public_number u) (known_of day a) (seen_below (is_unit_closed day a) c) (public_of day o) (is_told a ∙ h)))

        -- it stands below the first
        under : (b : Bool) → a.draft ≡ b → (k : Bool) → is_unit_closed day a ≡ k
            → (s : Bool) (way : List PublicUnit) (part : Forest PublicUnit) → nat_eq u a.id ≡ false
            → has (has_id u) o ≡ false → Finds (has_public_number u) (public_of day c) s way part
            → Finds (has_public_number u) (public_of day (Node a c o)) ((not b && not k) && s) (known_of day a ∷ way) part
        under true e k h s way part n none it =
            cut (public_of day o) (public_draft a c o e) false _ _ (finds_none (has_public_number u) (public_of day o) _ _ (absent o none))
        under false e true h s way part n none it =
            cut _ (public_node a c o e ∙ ap (λ q. Node (known_of day a) (seen_below q c) (public_of day o)) h) false _ _
            (finds_none (has_public_number u) (Node (known_of day a) Empty (public_of day o)) _ _ (ap (λ q. q || has (has_public_number u) (public_of day o)) (is_told a ∙ n) ∙ absent o none))
        under false e false h s way part n none it =
            cut _ (public_node a c o e ∙ ap (λ q. Node (known_of day a) (seen_below q c) (public_of day o)) h) s _ _
            (finds_below (has_public_number u) (known_of day a) (public_of day c) (public_of day o) s way part (is_told a ∙ n) it (absent o none))

        aside : (b : Bool) → a.draft ≡ b → (s : Bool) (way : List PublicUnit) (part : Forest PublicUnit)
            → nat_eq u a.id ≡ false → has (has_id u) c ≡ false → Finds (has_public_number u) (public_of day o) s way part
            → Finds (has_public_number u) (public_of day (Node a c o)) s way part
        aside true e s way part n none it = cut (public_of day o) (public_draft a c o e) s way part it
        aside false e s way part n none it =
            cut _ (public_node a c o e) s way part (finds_beside (has_public_number u) (known_of day a) (seen_below (is_unit_closed day a) c) (public_of day o) s way part (is_told a ∙ n) (below (is_unit_closed day a)) it)
          where
            below : (q : Bool) → has (has_public_number u) (seen_below q c) ≡ false
            below true = refl
            below false = absent c none

        longer : (way : List Unit) → (above : List Unit) (node : Unit) → way ≡ above ++ node ∷ []
            → shows_last day (head_of a ∷ map head_of way) ≡ (is_open_on day (head_of a) && shows_last day (map head_of way))
        longer [] [] node e = absurd (cc)
        longer [] (x ∷ above) node e = absurd (cc)
        longer (x ∷ way) above node e = refl

        on : (b : Bool) → has_id u a ≡ false → has (has_id u) c ≡ b → Seen c (public_of day c)
            → Seen o (public_of day o) → Seen (Node a c o) (public_of day (Node a c o))
        on true n h in_c in_o =
            let none : has (has_id u) o ≡ false =
            sym (has-each (nat_eq u) (λ (unit : Unit). unit.id) o)
            ∙ p.apart u (has-each (nat_eq u) (λ (unit : Unit). unit.id) c ∙ h) in
            let it = stands (has_id u) c h in
            told_as (a ∷ path (has_id u) c) (tree (has_id u) c)
            (ap (λ b. cond b (a ∷ []) (cond (has (has_id u) c) (a ∷ path (has_id u) c) (path (has_id u) o))) n ∙ ap (λ b. cond b (a ∷ path (has_id u) c) (path (has_id u) o)) h)
            (ap (λ b. cond b (Node a c Empty) (cond (has (has_id u) c) (tree (has_id u) c) (tree (has_id u) o))) n ∙ ap (λ b. cond b (tree (has_id u) c) (tree (has_id u) o)) h)
            (subst (λ b. Finds (has_public_number u) (public_of day (Node a c o)) b (known_of day a ∷ map (known_of day) (path (has_id u) c)) (public_of day (tree (has_id u) c))) (sym (longer (path (has_id u) c) it.above it.node it.way))
            (under a.draft refl (is_unit_closed day a) refl (shown_in c) _ _ n none in_c))
        on false n h in_c in_o =
            told_as (path (has_id u) o) (tree (has_id u) o)
            (ap (λ b. cond b (a ∷ []) (cond (has (has_id u) c) (a ∷ path (has_id u) c) (path (has_id u) o))) n ∙ ap (λ b. cond b (a ∷ path (has_id u) c) (path (has_id u) o)) h)
            (ap (λ b. cond b (Node a c Empty) (cond (has (has_id u) c) (tree (has_id u) c) (tree (has_id u) o))) n ∙ ap (λ b. cond b (tree (has_id u) c) (tree (has_id u) o)) h)
            (aside a.draft refl (shown_in o) _ _ n h in_o)

        not_beside : nat_eq u a.id ≡ true → has (has_id u) o ≡ false
        not_beside h = by_number (sym (has-each (nat_eq u) (λ (unit : Unit). unit.id) o)) h
          where
            by_number : has (has_id u) o ≡ has (nat_eq u) (each (λ (unit : Unit). unit.id) o) → nat_eq u a.id ≡ true
                → has (has_id u) o ≡ false
            by_number e h = e ∙ subst (λ n. has (nat_eq n) (each (λ (unit : Unit). unit.id) o) ≡ false) (sym (eqb-true u a.id h)) p.not_beside

        at : (b : Bool) → has_id u a ≡ b → Seen c (public_of day c) → Seen o (public_of day o)
            → Seen (Node a c o) (public_of day (Node a c o))
        at true h in_c in_o =
            told_as (a ∷ []) (Node a c Empty)
            (ap (λ b. cond b (a ∷ []) (cond (has (has_id u) c) (a ∷ path (has_id u) c) (path (has_id u) o))) h)
            (ap (λ b. cond b (Node a c Empty) (cond (has (has_id u) c) (tree (has_id u) c) (tree (has_id u) o))) h)
            (here a.draft refl h (not_beside h))
        at false h in_c in_o = on (has (has_id u) c) h refl in_c in_o
