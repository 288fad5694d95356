-- A file's rows are merged one by one: after each row the catalogue is what the rows up to it make of it.
use Rattle.std.proofs.Common.{◌≡◌, ℕ, suc, ◌+◌, length, arith, append-nil, Bool, true, false, cond, List, [], ◌∷◌, ◌++◌}
use Rattle.std.proofs.Common.{Option, Some, None, refl, sym, ap, ap₂, subst, ◌∙◌, nat_eq}
use Rattle.std.proofs.lemmas.List.{append_assoc}
use Rattle.catalogue_core.proofs.Common.{AllByRecursion, BoxKey, Bytes, Catalogue, Empty, Forest, New, Node, Row, Unit}
use Rattle.catalogue_core.proofs.Common.{add, branches, distinct, each, eqb-true, flat_map, grown, has_id, join}
use Rattle.catalogue_core.proofs.Common.{join-each, list_any, merged, merged_boxes, merged_forest, new_unit, new_units}
use Rattle.catalogue_core.proofs.Common.{nodes, option_eq, put_below, put_below-each, revised, with_boxes, with_unit}
use Rattle.catalogue_core.proofs.Common.{with_values, ⊤}
use Rattle.catalogue_core.proofs.DistinctFront.{distinct_front}
use Rattle.catalogue_core.proofs.Branches.{put_none}
use Rattle.catalogue_core.proofs.ImportedAgain.{all_join, all_each}

-- ---- forests

join_assoc : {A : Type 0} (a b c : Forest A) → join (join a b) c ≡ join a (join b c)
join_assoc Empty b c = refl
join_assoc (Node x d o) b c = ap (Node x d) (join_assoc o b c)

put_join : {A : Type 0} (is : A → Bool) (g a b : Forest A)
    → put_below is g (join a b) ≡ join (put_below is g a) (put_below is g b)
put_join is g Empty b = refl
put_join is g (Node x c o) b = ap (Node x (cond (is x) (join c g) (put_below is g c))) (put_join is g o b)

-- ---- one more new row

-- nothing passes where each fails
none_has : {A : Type 0} (is : A → Bool) (xs : List A) → AllByRecursion (λ x. is x ≡ false) xs → list_any is xs ≡ false
none_has is [] h = refl
none_has is (x ∷ xs) h = rw (h.0) (none_has is xs h.1)

all_app : {A : Type 0} (P : A → Type 0) (xs ys : List A) → AllByRecursion P xs → AllByRecursion P ys
    → AllByRecursion P (xs ++ ys)
all_app P [] ys a b = b
all_app P (x ∷ xs) ys a b = (a.0, all_app P xs ys a.1 b)

all_split : {A : Type 0} (P : A → Type 0) (xs ys : List A) → AllByRecursion P (xs ++ ys)
    → AllByRecursion P xs × AllByRecursion P ys
all_split P [] ys h = (tt, h)
all_split P (x ∷ xs) ys h = let r = all_split P xs ys h.1 in ((h.0, r.0), r.1)

pub all_branched : (P : New → Type 0) (p : Option ℕ) (ns : List New) → AllByRecursion P ns
    → AllByRecursion P (nodes (branches p ns))
all_branched P p [] h = tt
all_branched P p (x ∷ ns) h =
    at (option_eq nat_eq x.parent p) (all_branched P (Some x.id) ns h.1) (all_branched P p ns h.1)
  where
    at : (b : Bool) → AllByRecursion P (nodes (branches (Some x.id) ns)) → AllByRecursion P (nodes (branches p ns))
        → AllByRecursion P (nodes (cond b (Node x (branches (Some x.id) ns) (branches p ns)) (branches p ns)))
    at true a b = (h.0, all_app P (nodes (branches (Some x.id) ns)) (nodes (branches p ns)) a b)
    at false a b = b

-- no two of them have one number
abbrev pub AreApart : List New → Type 0
AreApart [] = ⊤
AreApart (m ∷ rest) = AllByRecursion (λ (x : New). nat_eq m.id x.id ≡ false) rest × AreApart rest

-- no unit has its number again below it
abbrev pub AreAlone : Forest Unit → Type 0
AreAlone Empty = ⊤
AreAlone (Node u c o) = AllByRecursion (λ (v : Unit). nat_eq u.id v.id ≡ false) (nodes c) × AreAlone c × AreAlone o

module _ (n : New) where
  abbrev one : Forest New
  one = Node n Empty Empty

  -- a row without a parent comes last among the tops, and nowhere else
  tops_more : n.parent ≡ None → (p : Option ℕ) (ns : List New)
      → branches p (ns ++ n ∷ []) ≡ cond (option_eq nat_eq None p) (join (branches p ns) one) (branches p ns)
  tops_more top p [] = ap (λ k. cond (option_eq nat_eq k p) one Empty) top
  tops_more top p (m ∷ rest) =
      rw (tops_more top (Some m.id) rest, tops_more top p rest) (at (option_eq nat_eq m.parent p) (option_eq nat_eq None p))
    where
      at : (b d : Bool)
          → cond b (Node m (branches (Some m.id) rest) (cond d (join (branches p rest) one) (branches p rest))) (cond d (join (branches p rest) one) (branches p rest))
          ≡ cond d (join (cond b (Node m (branches (Some m.id) rest) (branches p rest)) (branches p rest)) one) (cond b (Node m (branches (Some m.id) rest) (branches p rest)) (branches p rest))
      at true true = refl
      at true false = refl
      at false true = refl
      at false false = refl

  -- a row with a parent comes last below it
  module _ (q : ℕ) (below : n.parent ≡ Some q) where
    abbrev put : Forest New → Forest New
    put = put_below (λ (x : New). nat_eq q x.id) one

    abbrev added : Option ℕ → Forest New → Forest New
    added p f = cond (option_eq nat_eq (Some q) p) (join (put f) one) (put f)

    nothing_there : (m : ℕ) (rest : List New) → AllByRecursion (λ (x : New). nat_eq m x.id ≡ false) rest
        → nat_eq q m ≡ true → put (branches (Some m) rest) ≡ branches (Some m) rest
    nothing_there m rest apart e =
        let same : q ≡ m = eqb-true q m e in
        let none = subst (λ k. AllByRecursion (λ (x : New). nat_eq k x.id ≡ false) rest) (sym same) apart in
        put_none (λ (x : New). nat_eq q x.id) one (branches (Some m) rest) (none_has (λ (x : New). nat_eq q x.id) (nodes (branches (Some m) rest)) (all_branched (λ (x : New). nat_eq q x.id ≡ false) (Some m) rest none))

    child : (m : ℕ) (C : Forest New) → (nat_eq q m ≡ true → put C ≡ C) → (b : Bool) → nat_eq q m ≡ b
        → cond b (join (put C) one) (put C) ≡ cond (nat_eq q m) (join C one) (put C)
    child m C none true e = ap (λ f. join f one) (none e) ∙ sym (ap (λ b. cond b (join C one) (put C)) e)
    child m C none false e = sym (ap (λ b. cond b (join C one) (put C)) e)

    level : (m : New) (C D O : Forest New) → D ≡ cond (nat_eq q m.id) (join C one) (put C) → (k d : Bool)
        → cond k (Node m D (cond d (join (put O) one) (put O))) (cond d (join (put O) one) (put O))
        ≡ cond d (join (put (cond k (Node m C O) O)) one) (put (cond k (Node m C O) O))
    level m C D O e true true = ap (λ f. Node m f (join (put O) one)) e
    level m C D O e true false = ap (λ f. Node m f (put O)) e
    level m C D O e false true = refl
    level m C D O e false false = refl

    pub below_more : (p : Option ℕ) (ns : List New) → AreApart ns → branches p (ns ++ n ∷ []) ≡ added p (branches p ns)
    below_more p [] apart = ap (λ k. cond (option_eq nat_eq k p) one Empty) below
    below_more p (m ∷ rest) apart =
        ap₂ (λ c o. cond (option_eq nat_eq m.parent p) (Node m c o) o) (below_more (Some m.id) rest apart.1) (below_more p rest apart.1)
        ∙ level m (branches (Some m.id) rest) (added (Some m.id) (branches (Some m.id) rest)) (branches p rest)
        (child m.id (branches (Some m.id) rest) (nothing_there m.id rest apart.0) (nat_eq q m.id) refl) (option_eq nat_eq m.parent p) (option_eq nat_eq (Some q) p)

-- ---- one more new unit

module _ (source : Bytes) (n : New) where
  abbrev unit_of : New → Unit
  unit_of = new_unit source

  abbrev leaf : Forest Unit
  leaf = Node (unit_of n) Empty Empty

  -- a top
  module _ (top : n.parent ≡ None) where
    units_top : (p : Option ℕ) (ns : List New)
        → new_units source p (ns ++ n ∷ []) ≡ cond (option_eq nat_eq None p) (join (new_units source p ns) leaf) (new_units source p ns)
    units_top p ns = ap (each unit_of) (tops_more n top p ns) ∙ at (option_eq nat_eq None p)
      where
        at : (b : Bool)
            → each unit_of (cond b (join (branches p ns) (one n)) (branches p ns)) ≡ cond b (join (new_units source p ns) leaf) (new_units source p ns)
        at true = join-each unit_of (branches p ns) (one n)
        at false = refl

    grown_top : (ns : List New) (f : Forest Unit) → grown source (ns ++ n ∷ []) f ≡ grown source ns f
    grown_top ns Empty = refl
    grown_top ns (Node u c o) =
        ap₂ (λ a b. Node u a b) (ap₂ join (grown_top ns c) (units_top (Some u.id) ns)) (grown_top ns o)

    pub one_top : (rows : List Row) (ns : List New) (f : Forest Unit)
        → merged_forest source rows (ns ++ n ∷ []) f ≡ add has_id n.parent (unit_of n) (merged_forest source rows ns f)
    one_top rows ns f =
        ap₂ join (grown_top ns (each (revised source rows) f)) (units_top None ns)
        ∙ sym (join_assoc (grown source ns (each (revised source rows) f)) (new_units source None ns) leaf)
        ∙ sym (ap (λ p. add has_id p (unit_of n) (merged_forest source rows ns f)) top)

  -- a unit below another
  module _ (q : ℕ) (below : n.parent ≡ Some q) where
    abbrev puts : Forest Unit → Forest Unit
    puts = put_below (has_id q) leaf

    units_below : (p : Option ℕ) (ns : List New) → AreApart ns
        → new_units source p (ns ++ n ∷ []) ≡ cond (option_eq nat_eq (Some q) p) (join (puts (new_units source p ns)) leaf) (puts (new_units source p ns))
    units_below p ns apart = ap (each unit_of) (below_more n q below p ns apart) ∙ at (option_eq nat_eq (Some q) p)
      where
        moved : each unit_of (put_below (λ (x : New). nat_eq q x.id) (one n) (branches p ns)) ≡ puts (new_units source p ns)
        moved = put_below-each (has_id q) unit_of (one n) (branches p ns)

        at : (b : Bool)
            → each unit_of (cond b (join (put_below (λ (x : New). nat_eq q x.id) (one n) (branches p ns)) (one n)) (put_below (λ (x : New). nat_eq q x.id) (one n) (branches p ns)))
            ≡ cond b (join (puts (new_units source p ns)) leaf) (puts (new_units source p ns))
        at true =
            join-each unit_of (put_below (λ (x : New). nat_eq q x.id) (one n) (branches p ns)) (one n)
            ∙ ap (λ f. join f leaf) moved
        at false = moved

    -- no unit has this number
    abbrev IsOther : Unit → Type 0
    IsOther u = nat_eq q u.id ≡ false

    others_grown : (ns : List New) (f : Forest Unit) → AllByRecursion (λ (x : New). nat_eq q x.id ≡ false) ns
        → AllByRecursion IsOther (nodes f) → AllByRecursion IsOther (nodes (grown source ns f))
    others_grown ns Empty a b = tt
    others_grown ns (Node u c o) a b =
        let parts = all_split IsOther (nodes c) (nodes o) b.1 in (
          b.0,
          all_app IsOther (nodes (join (grown source ns c) (new_units source (Some u.id) ns))) (nodes (grown source ns o))
              (all_join IsOther (grown source ns c) (new_units source (Some u.id) ns) (others_grown ns c a parts.0)
              (all_each IsOther unit_of (branches (Some u.id) ns) (all_branched (λ (x : New). nat_eq q x.id ≡ false) (Some u.id) ns a)))
              (others_grown ns o a parts.1),
        )

    -- the new rows have other numbers than the units
    abbrev AreNew : List New → Forest Unit → Type 0
    AreNew ns f = AllByRecursion (λ (u : Unit). AllByRecursion (λ (x : New). nat_eq u.id x.id ≡ false) ns) (nodes f)

    grown_below : (ns : List New) (f : Forest Unit) → AreApart ns → AreNew ns f → AreAlone f
        → grown source (ns ++ n ∷ []) f ≡ puts (grown source ns f)
    grown_below ns Empty apart new own = refl
    grown_below ns (Node u c o) apart new own =
        let parts = all_split (λ (u : Unit). AllByRecursion (λ (x : New). nat_eq u.id x.id ≡ false) ns) (nodes c) (nodes o) new.1 in
        ap₂ (λ a b. Node u a b) (ap₂ join (grown_below ns c apart parts.0 own.1) (units_below (Some u.id) ns apart) ∙ at (nat_eq q u.id) refl) (grown_below ns o apart parts.1 own.2)
      where
        theirs : nat_eq q u.id ≡ true → AllByRecursion (λ (x : New). nat_eq q x.id ≡ false) ns
        theirs e = subst (λ k. AllByRecursion (λ (x : New). nat_eq k x.id ≡ false) ns) (sym (eqb-true q u.id e)) new.0

        lower : nat_eq q u.id ≡ true → AllByRecursion IsOther (nodes c)
        lower e = subst (λ k. AllByRecursion (λ (v : Unit). nat_eq k v.id ≡ false) (nodes c)) (sym (eqb-true q u.id e)) own.0

        none_grown : nat_eq q u.id ≡ true → puts (grown source ns c) ≡ grown source ns c
        none_grown e = put_none (has_id q) leaf (grown source ns c) (none_has (has_id q) (nodes (grown source ns c)) (others_grown ns c (theirs e) (lower e)))

        none_new : nat_eq q u.id ≡ true → puts (new_units source (Some u.id) ns) ≡ new_units source (Some u.id) ns
        none_new e = put_none (has_id q) leaf (new_units source (Some u.id) ns) (none_has (has_id q) (nodes (new_units source (Some u.id) ns))
            (all_each IsOther unit_of (branches (Some u.id) ns) (all_branched (λ (x : New). nat_eq q x.id ≡ false) (Some u.id) ns (theirs e))))

        at : (b : Bool) → nat_eq q u.id ≡ b
            → join (puts (grown source ns c)) (cond b (join (puts (new_units source (Some u.id) ns)) leaf) (puts (new_units source (Some u.id) ns)))
            ≡ cond (nat_eq q u.id) (join (join (grown source ns c) (new_units source (Some u.id) ns)) leaf) (puts (join (grown source ns c) (new_units source (Some u.id) ns)))
        at true e =
            ap₂ (λ a b. join a (join b leaf)) (none_grown e) (none_new e)
            ∙ sym (join_assoc (grown source ns c) (new_units source (Some u.id) ns) leaf)
            ∙ sym (ap (λ b. cond b (join (join (grown source ns c) (new_units source (Some u.id) ns)) leaf) (puts (join (grown source ns c) (new_units source (Some u.id) ns)))) e)
        at false e =
            sym (put_join (has_id q) leaf (grown source ns c) (new_units source (Some u.id) ns))
            ∙ sym (ap (λ b. cond b (join (join (grown source ns c) (new_units source (Some u.id) ns)) leaf) (puts (join (grown source ns c) (new_units source (Some u.id) ns)))) e)

    -- one more new row: its unit is added below its parent
    pub one_below : (rows : List Row) (ns : List New) (f : Forest Unit) → AreApart ns
        → AreNew ns (each (revised source rows) f) → AreAlone (each (revised source rows) f)
        → merged_forest source rows (ns ++ n ∷ []) f ≡ add has_id n.parent (unit_of n) (merged_forest source rows ns f)
    one_below rows ns f apart new own =
        ap₂ join (grown_below ns (each (revised source rows) f) apart new own) (units_below None ns apart)
        ∙ sym (put_join (has_id q) leaf (grown source ns (each (revised source rows) f)) (new_units source None ns))
        ∙ sym (ap (λ p. add has_id p (unit_of n) (merged_forest source rows ns f)) below)

-- ---- one more row of a known unit

module _ (source : Bytes) (row : Row) (known : ℕ) where
  -- the unit takes the row's values
  abbrev pub valued : Unit → Unit
  valued u = cond (has_id known u) (record u { values = row.values }) u

  same_number : (u : Unit) → (valued u).id ≡ u.id
  same_number u = at (has_id known u)
    where
      at : (b : Bool) → (cond b (record u { values = row.values }) u).id ≡ u.id
      at true = refl
      at false = refl

  units_stay : (p : Option ℕ) (ns : List New) → AllByRecursion (λ (x : New). nat_eq known x.id ≡ false) ns
      → each valued (new_units source p ns) ≡ new_units source p ns
  units_stay p ns others = stay (branches p ns) (all_branched (λ (x : New). nat_eq known x.id ≡ false) p ns others)
    where
      stay : (f : Forest New) → AllByRecursion (λ (x : New). nat_eq known x.id ≡ false) (nodes f)
          → each valued (each (new_unit source) f) ≡ each (new_unit source) f
      stay Empty h = refl
      stay (Node x c o) h =
          let parts = all_split (λ (x : New). nat_eq known x.id ≡ false) (nodes c) (nodes o) h.1 in
          ap (λ v. Node v (each valued (each (new_unit source) c)) (each valued (each (new_unit source) o))) (ap (λ b. cond b (record (new_unit source x) { values = row.values }) (new_unit source x)) h.0)
          ∙ ap₂ (λ a b. Node (new_unit source x) a b) (stay c parts.0) (stay o parts.1)

  grown_valued : (ns : List New) → AllByRecursion (λ (x : New). nat_eq known x.id ≡ false) ns → (f : Forest Unit)
      → each valued (grown source ns f) ≡ grown source ns (each valued f)
  grown_valued ns others Empty = refl
  grown_valued ns others (Node u c o) =
      ap₂ (λ a b. Node (valued u) a b)
      (join-each valued (grown source ns c) (new_units source (Some u.id) ns) ∙ ap₂ join (grown_valued ns others c) (units_stay (Some u.id) ns others ∙ ap (λ k. new_units source (Some k) ns) (sym (same_number u))))
      (grown_valued ns others o)

  each_each : (g h : Unit → Unit) (k : Unit → Unit) (f : Forest Unit) → AllByRecursion (λ u. g (h u) ≡ k u) (nodes f)
      → each g (each h f) ≡ each k f
  each_each g h k Empty all = refl
  each_each g h k (Node u c o) all =
      let parts = all_split (λ u. g (h u) ≡ k u) (nodes c) (nodes o) all.1 in
      ap (λ v. Node v (each g (each h c)) (each g (each h o))) all.0 ∙ ap₂ (λ a b. Node (k u) a b) (each_each g h k c parts.0) (each_each g h k o parts.1)

  -- one more row of a known unit: the unit takes its values
  pub one_known : (rows : List Row) (ns : List New) (f : Forest Unit)
      → AllByRecursion (λ (x : New). nat_eq known x.id ≡ false) ns
      → AllByRecursion (λ u. valued (revised source rows u) ≡ revised source (rows ++ row ∷ []) u) (nodes f)
      → merged_forest source (rows ++ row ∷ []) ns f ≡ each valued (merged_forest source rows ns f)
  one_known rows ns f others revises =
      ap (λ g. join (grown source ns g) (new_units source None ns)) (sym (each_each valued (revised source rows) (revised source (rows ++ row ∷ [])) f revises))
      ∙ ap₂ join (sym (grown_valued ns others (each (revised source rows) f))) (sym (units_stay None ns others))
      ∙ sym (join-each valued (grown source ns (each (revised source rows) f)) (new_units source None ns))

-- ---- the whole catalogue, row by row

boxes_more : (rows : List Row) (row : Row) (cs : List BoxKey)
    → merged_boxes (rows ++ row ∷ []) cs ≡ with_boxes (merged_boxes rows cs) row.values.boxes
boxes_more rows row cs =
    ap (λ l. distinct (cs ++ l)) (flat_more rows)
    ∙ ap distinct (sym (append_assoc cs (flat_map (λ (row : Row). row.values.boxes) rows) row.values.boxes))
    ∙ sym (distinct_front (cs ++ flat_map (λ (row : Row). row.values.boxes) rows) row.values.boxes)
  where
    flat_more : (rows : List Row)
        → flat_map (λ (row : Row). row.values.boxes) (rows ++ row ∷ []) ≡ flat_map (λ (row : Row). row.values.boxes) rows ++ row.values.boxes
    flat_more [] = append-nil row.values.boxes
    flat_more (r ∷ rows) =
        ap (λ l. r.values.boxes ++ l) (flat_more rows)
        ∙ sym (append_assoc r.values.boxes (flat_map (λ (row : Row). row.values.boxes) rows) row.values.boxes)

-- what the loop needs of the rows so far, before a new row
pub record CanGrow (c : Catalogue) (source : Bytes) (rows : List Row) (row : Row) (ns : List New) : Type 0 where
  pub apart : AreApart ns
  pub new : AllByRecursion (λ (u : Unit). AllByRecursion (λ (x : New). nat_eq u.id x.id ≡ false) ns) (nodes (each (revised source rows) c.forest))
  pub alone : AreAlone (each (revised source rows) c.forest)
  -- the row is of no unit that is catalogued
  pub other : each (revised source (rows ++ row ∷ [])) c.forest ≡ each (revised source rows) c.forest

-- a new row
pub merged_new : (c : Catalogue) (source : Bytes) (rows : List Row) (ns : List New) (n : New)
    → CanGrow c source rows n.row ns
    → merged c source (rows ++ n.row ∷ []) (ns ++ n ∷ []) ≡ with_unit n.parent (new_unit source n) (merged c source rows ns)
merged_new c source rows ns n can =
    ap (λ f. record { forest = f; containers = merged_boxes (rows ++ n.row ∷ []) c.containers; next = c.next + length (ns ++ n ∷ []) })
    (ap (λ g. join (grown source (ns ++ n ∷ []) g) (new_units source None (ns ++ n ∷ []))) can.other ∙ forest_more n.parent refl)
    ∙ ap₂ (λ b k. record { forest = add has_id n.parent (new_unit source n) (merged_forest source rows ns c.forest); containers = b; next = k }) (boxes_more rows n.row c.containers) (longer ns)
  where
    forest_more : (p : Option ℕ) → n.parent ≡ p
        → merged_forest source rows (ns ++ n ∷ []) c.forest ≡ add has_id n.parent (new_unit source n) (merged_forest source rows ns c.forest)
    forest_more None e = one_top source n e rows ns c.forest
    forest_more (Some q) e = one_below source n q e rows ns c.forest can.apart can.new can.alone

    longer : (ns : List New) → c.next + length (ns ++ n ∷ []) ≡ c.next + length ns + 1
    longer ns = let e = at ns in omega (arith, e)
      where
        at : (ns : List New) → length (ns ++ n ∷ []) ≡ suc (length ns)
        at [] = refl
        at (x ∷ xs) = ap suc (at xs)

-- a row of a known unit
pub merged_known : (c : Catalogue) (source : Bytes) (rows : List Row) (row : Row) (known : ℕ) (ns : List New)
    → AllByRecursion (λ (x : New). nat_eq known x.id ≡ false) ns
    → AllByRecursion (λ u. valued source row known (revised source rows u) ≡ revised source (rows ++ row ∷ []) u) (nodes c.forest)
    → merged c source (rows ++ row ∷ []) ns ≡ with_values known row.values (merged c source rows ns)
merged_known c source rows row known ns others revises =
    ap₂ (λ f b. record { forest = f; containers = b; next = c.next + length ns }) (one_known source row known rows ns c.forest others revises) (boxes_more rows row c.containers)
