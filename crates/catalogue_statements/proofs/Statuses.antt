-- What the tables show after units are changed in their places.
use Rattle.std.proofs.Common.{◌≡◌, ℕ, pos, List, [], ◌∷◌, ◌++◌, map, Bool, true, false, if◌then◌else◌, cond, ◌||◌}
use Rattle.std.proofs.Common.{nat_eq, refl, sym, ap, ap₂, subst, ◌∙◌}
use Rattle.std.specs.declared.cmp.Ordering.TheVariants.{Less}
use Rattle.catalogue_core.specs.Statuses.{with_status, is_chosen}
use Rattle.office_tables.specs.Schema as tables
use Rattle.catalogue_statements.proofs.Common.{AllByRecursion, Catalogue, Database, ElementRow, Empty, Forest, HasRows}
use Rattle.catalogue_statements.proofs.Common.{HousingRow, IsPermutation, IsPermutation-map, Node, OfficeRow}
use Rattle.catalogue_statements.proofs.Common.{Represents, Rises, Trees, Unit, Version, all_weaker, ascending-map}
use Rattle.catalogue_statements.proofs.Common.{ascending_weaker, by_number, cells_of_unit, each, element_row}
use Rattle.catalogue_statements.proofs.Common.{elements_of, has, has_id, housing_places, housing_row, int_cmp, list_any}
use Rattle.catalogue_statements.proofs.Common.{nodes, nodes-each, numbered_containers, numbered_texts, or-false}
use Rattle.catalogue_statements.proofs.Common.{or_assoc, still_numbered, tree}

pub each_each : {A B C : Type 0} (g : A → B) (h : B → C) (k : A → C) → ((x : A) → h (g x) ≡ k x) → (f : Forest A)
    → each h (each g f) ≡ each k f
each_each g h k same Empty = refl
each_each g h k same (Node a children others) =
    rw (same a, each_each g h k same children, each_each g h k same others) refl

any_map : {A B : Type 0} (g : A → B) (p : B → Bool) (q : A → Bool) → ((x : A) → p (g x) ≡ q x) → (xs : List A)
    → list_any p (map g xs) ≡ list_any q xs
any_map g p q same [] = refl
any_map g p q same (x ∷ xs) = ap₂ ◌||◌ (same x) (any_map g p q same xs)

pub all_map : {A B : Type 0} (g : A → B) (P : B → Type 0) (Q : A → Type 0) → ((x : A) → Q x → P (g x)) → (xs : List A)
    → AllByRecursion Q xs → AllByRecursion P (map g xs)
all_map g P Q f [] h = tt
all_map g P Q f (x ∷ xs) h = (f x h.0, all_map g P Q f xs h.1)

-- units that keep their numbers, and units that keep their values too
module _ (g : Unit → Unit) (same_id : (u : Unit) → (g u).id ≡ u.id) where
  pub still_there : (f : Forest Unit) (id : ℕ) → has (has_id id) (each g f) ≡ has (has_id id) f
  still_there f id =
      ap (list_any (has_id id)) (nodes-each g f)
      ∙ any_map g (has_id id) (has_id id) (λ u. ap (nat_eq id) (same_id u)) (nodes f)

  pub rising : (units : List Unit) → Rises by_number units → Rises by_number (map g units)
  rising units up = ascending-map (λ a b. by_number a b ≡ Less) g units
      (ascending_weaker (λ a b. by_number a b ≡ Less) (λ a b. by_number (g a) (g b) ≡ Less) (λ a b h. ap₂ (λ m n. int_cmp (pos m) (pos n)) (same_id a) (same_id b) ∙ h) units up)

  module _ (same_values : (u : Unit) → (g u).values ≡ u.values) where
    pub shows_changed : (v : Version) (represents : Trees → Forest ℕ → Type 0)
        → ((old new : Trees) (f : Forest ℕ) → new tables.link.tree ≡ old tables.link.tree → represents old f → represents new f)
        → (old new : Database) (o : OfficeRow) (c : Catalogue) (it : Represents represents v old o c)
        → new.schema ≡ old.schema → HasRows tables.unit.tree (map cells_of_unit (map g it.catalogue.units.units)) old new
        → Represents represents v new o (record c { forest = each g c.forest })
    shows_changed v represents same old new o c it schema_is wrote =
        let at = it.catalogue in
        let kept = wrote.only in
        let f = c.forest in
        record {
          catalogue = record {
            schema_is = schema_is ∙ at.schema_is;
            office = kept tables.office.tree refl refl ∙ at.office;
            next = at.next;
            units = record {
              units = map g at.units.units;
              rows = wrote.are;
              rise = rising at.units.units at.units.rise;
              are = subst (λ l. IsPermutation l (map g at.units.units)) (sym (nodes-each g f)) (IsPermutation-map g (nodes f) at.units.units at.units.are);
            };
            elements = record {
              elements = at.elements.elements;
              rows = still_numbered element_row (old.trees tables.element.tree) (new.trees tables.element.tree) at.elements.elements (kept tables.element.tree refl refl) at.elements.rows;
              are = subst (AllByRecursion (λ (u : Unit). IsPermutation (numbered_texts u.values) (elements_of u.id at.elements.elements))) (sym (nodes-each g f))
                  (all_map g (λ (u : Unit). IsPermutation (numbered_texts u.values) (elements_of u.id at.elements.elements)) (λ (u : Unit). IsPermutation (numbered_texts u.values) (elements_of u.id at.elements.elements))
                  (λ u h. rw (same_id u, same_values u) h) (nodes f) at.elements.are);
              others = all_weaker (λ (e : ElementRow). has (has_id e.unit) f ≡ true) (λ (e : ElementRow). has (has_id e.unit) (each g f) ≡ true) (λ e h. still_there f e.unit ∙ h) at.elements.elements at.elements.others;
            };
            containers = kept tables.container.tree refl refl ∙ at.containers;
            housings = record {
              housings = at.housings.housings;
              rows = still_numbered housing_row (old.trees tables.housing.tree) (new.trees tables.housing.tree) at.housings.housings (kept tables.housing.tree refl refl) at.housings.rows;
              are = subst (AllByRecursion (λ (u : Unit). IsPermutation (numbered_containers c.containers u.values) (housing_places u.id at.housings.housings))) (sym (nodes-each g f))
                  (all_map g (λ (u : Unit). IsPermutation (numbered_containers c.containers u.values) (housing_places u.id at.housings.housings)) (λ (u : Unit). IsPermutation (numbered_containers c.containers u.values) (housing_places u.id at.housings.housings))
                  (λ u h. rw (same_id u, same_values u) h) (nodes f) at.housings.are);
              others = all_weaker (λ (h : HousingRow). has (has_id h.unit) f ≡ true) (λ (h : HousingRow). has (has_id h.unit) (each g f) ≡ true) (λ e h. still_there f e.unit ∙ h) at.housings.housings at.housings.others;
            };
          };
          shown = same old.trees new.trees (each (λ (u : Unit). u.id) (each g f)) (kept tables.link.tree refl refl)
              (subst (represents old.trees) (sym (each_each g (λ (u : Unit). u.id) (λ (u : Unit). u.id) same_id f)) it.shown);
        }

pub kept_by : {A B : Type 0} (view : A → B) (b : Bool) (x y : A) → view x ≡ view y → view (cond b x y) ≡ view y
kept_by view true x y same = same
kept_by view false x y same = refl

pub any_more : (p : ℕ → Bool) (xs : List ℕ) (x : ℕ) → list_any p (xs ++ x ∷ []) ≡ (list_any p xs || p x)
any_more p [] x = or-false (p x)
any_more p (y ∷ ys) x = ap (λ b. p y || b) (any_more p ys x) ∙ sym (or_assoc (p y) (list_any p ys) (p x))

abbrev drafted : Bool → Bool → Unit → Unit
drafted draft b u = if b then record u { draft = draft } else u

twice : (draft a b : Bool) (u : Unit) → drafted draft b (drafted draft a u) ≡ drafted draft (a || b) u
twice draft true true u = refl
twice draft true false u = refl
twice draft false true u = refl
twice draft false false u = refl

pub one_drafted : (draft : Bool) (id : ℕ) (u : Unit) → (drafted draft (has_id id u) u).id ≡ u.id
one_drafted draft id u = kept_by (λ (u : Unit). u.id) (has_id id u) (record u { draft = draft }) u refl

-- one unit after others
pub drafts_more : (draft : Bool) (ids : List ℕ) (id : ℕ) (c : Catalogue)
    → each (λ (u : Unit). drafted draft (has_id id u) u) (with_status ids draft c).forest ≡ (with_status (ids ++ id ∷ []) draft c).forest
drafts_more draft ids id c =
    each_each (λ (u : Unit). drafted draft (is_chosen ids u) u) (λ (u : Unit). drafted draft (has_id id u) u) (λ (u : Unit). drafted draft (is_chosen (ids ++ id ∷ []) u) u)
    (λ u.
    ap (λ b. drafted draft b (drafted draft (is_chosen ids u) u)) (ap (nat_eq id) (kept_by (λ (u : Unit). u.id) (is_chosen ids u) (record u { draft = draft }) u refl))
    ∙ twice draft (is_chosen ids u) (has_id id u) u
    ∙ ap (λ b. drafted draft b u) (sym (any_more (λ i. has_id i u) ids id)))
    c.forest

pub status_of_none : (draft : Bool) (c : Catalogue) → with_status [] draft c ≡ c
status_of_none draft c = ap (λ f. record c { forest = f }) (each_none c.forest)
  where
    each_none : (f : Forest Unit) → each (λ (u : Unit). u) f ≡ f
    each_none Empty = refl
    each_none (Node u children others) = rw (each_none children, each_none others) refl

pub draft_step : (v : Version) (represents : Trees → Forest ℕ → Type 0)
    → ((old new : Trees) (f : Forest ℕ) → new tables.link.tree ≡ old tables.link.tree → represents old f → represents new f)
    → (old new : Database) (o : OfficeRow) (c : Catalogue) (draft : Bool) (ids : List ℕ) (id : ℕ) (it : Represents represents v old o (with_status ids draft c))
    → new.schema ≡ old.schema
    → HasRows tables.unit.tree (map cells_of_unit (map (λ (u : Unit). drafted draft (has_id id u) u) it.catalogue.units.units)) old new
    → Represents represents v new o (with_status (ids ++ id ∷ []) draft c)
draft_step v represents same old new o c draft ids id it schema_is wrote =
    subst (λ f. Represents represents v new o (record c { forest = f })) (drafts_more draft ids id c)
    (shows_changed (λ u. drafted draft (has_id id u) u) (one_drafted draft id) (λ u. kept_by (λ (u : Unit). u.values) (has_id id u) (record u { draft = draft }) u refl) v represents same old new o (with_status ids draft c) it schema_is wrote)
