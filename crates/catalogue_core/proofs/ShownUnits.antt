-- Every unit that is shown of what the public may know is published, and has its own reference code.
use Rattle.std.proofs.Common.{◌≡◌, ℕ, ℤ, ◌+◌, Bool, true, false, cond, ◌||◌, List, [], ◌∷◌, ◌++◌, map, Option, Some}
use Rattle.std.proofs.Common.{None, refl, sym, ap, ◌∙◌, subst, inl, inr, append_assoc}
use Rattle.isad_core.specs.declared.display.Shown.{Shown}
use Rattle.catalogue_core.proofs.Common.{AllByRecursion, BoxKey, Empty, Forest, IsPublished, Node, Press, PublicUnit}
use Rattle.catalogue_core.proofs.Common.{Repository, StandsIn, Unit, cases_Bool, each, false≢true, has, identifier}
use Rattle.catalogue_core.proofs.Common.{identifier_of, identifiers, is_unit_closed, list_any, list_any-append}
use Rattle.catalogue_core.proofs.Common.{map-append, nodes, pages_side_by_side, path, paths_below, public}
use Rattle.catalogue_core.proofs.Common.{public_number, public_of, public_unit, shown_below, shown_unit, stub_of, tree}
use Rattle.catalogue_core.proofs.DistinctLists.{all_so}
use Rattle.catalogue_core.proofs.EachOf.{all_append}
use Rattle.catalogue_core.proofs.PublicPaths.{drafts, known_of, known_where}
use Rattle.catalogue_core.proofs.PublishedUnits.{wider, here, stands_left, stands_right, none_pushed}

abbrev pub low_of : ℤ → Forest Unit → Bool → Forest PublicUnit
low_of day c closed = each public_unit (cond closed Empty (public drafts (is_unit_closed day) c))

identifier_known : (day : ℤ) (u : Unit) → identifier_of (known_of day u) ≡ identifier u.values
identifier_known day u = at (is_unit_closed day u)
  where
    stub : (o : Option ℤ) → identifier_of (stub_of u o) ≡ identifier u.values
    stub None = refl
    stub (Some until) = refl

    at : (b : Bool) → identifier_of (public_unit (u, b)) ≡ identifier u.values
    at true = stub u.until
    at false = refl

pub identifiers_on : (day : ℤ) (w : List Unit) (u : Unit)
    → identifiers w ++ identifier_of (known_of day u) ∷ [] ≡ identifiers (w ++ u ∷ [])
identifiers_on day w u =
    ap (λ t. identifiers w ++ t ∷ []) (identifier_known day u) ∙ sym (map-append (λ (unit : Unit). identifier unit.values) w (u ∷ []))

-- ---- the units of a forest

module _ (at : Repository) (boxes : List BoxKey) (day : ℤ) where
  -- what is printed is what is told of a unit at the end of one of these paths
  pub record ShowsIn (ways : List (List Unit)) (shown : Shown) : Type 0 where
    pub told : PublicUnit
    pub published : IsPublished day ways told
    pub depth : ℕ
    pub is : shown ≡ shown_unit at boxes (identifiers published.way) depth told

  abbrev pub ShowsOne : List (List Unit) → ℕ × Shown → Type 0
  ShowsOne ways top = (it : ShowsIn ways top.1) × (top.0 ≡ public_number it.told)

  more_ways : (ways more : List (List Unit)) → ((way : List Unit) → StandsIn way ways → StandsIn way more)
      → (shown : Shown) → ShowsIn ways shown → ShowsIn more shown
  more_ways ways more f shown it =
      record { told = it.told; published = wider day ways more f it.told it.published; depth = it.depth; is = it.is }

  abbrev one_more_ways : (ways more : List (List Unit)) → ((way : List Unit) → StandsIn way ways → StandsIn way more)
      → (top : ℕ × Shown) → ShowsOne ways top → ShowsOne more top
  one_more_ways ways more f top (it, n) =
      (record { told = it.told; published = wider day ways more f it.told it.published; depth = it.depth; is = it.is }, n)

  abbrev pub shows_here : (w : List Unit) (u : Unit) (ways : List (List Unit)) (depth : ℕ) → u.draft ≡ false
      → list_any (λ (x : Unit). x.draft) w ≡ false → list_any (is_unit_closed day) w ≡ false
      → ShowsOne ((w ++ u ∷ []) ∷ ways) (public_number (known_of day u), shown_unit at boxes (identifiers w ++ identifier_of (known_of day u) ∷ []) depth (known_of day u))
  shows_here w u ways depth d h k = (
    record { told = known_of day u; published = here day w u ways d h k; depth = depth; is = ap (λ ids. shown_unit at boxes ids depth (known_of day u)) (identifiers_on day w u) },
    refl,
  )

  pub all_shown : (w : List Unit) (f : Forest Unit) (depth : ℕ) → list_any (λ (x : Unit). x.draft) w ≡ false
      → list_any (is_unit_closed day) w ≡ false
      → AllByRecursion (ShowsIn (paths_below w f)) (shown_below at boxes (identifiers w) depth (public_of day f))
  all_shown w Empty depth h k = tt
  all_shown w (Node u c o) depth h k =
      go u.draft refl (is_unit_closed day u) refl (all_shown w o depth h k)
      (λ d e. all_shown (w ++ u ∷ []) c (depth + 1) (none_pushed (λ (x : Unit). x.draft) w u h d) (none_pushed (is_unit_closed day) w u k e))
    where
      beside : AllByRecursion (ShowsIn (paths_below w o)) (shown_below at boxes (identifiers w) depth (public_of day o))
          → AllByRecursion (ShowsIn (paths_below w (Node u c o))) (shown_below at boxes (identifiers w) depth (public_of day o))
      beside = all_so (ShowsIn (paths_below w o)) (ShowsIn (paths_below w (Node u c o))) (more_ways (paths_below w o) (paths_below w (Node u c o)) (λ way s. inr (stands_right way (paths_below (w ++ u ∷ []) c) (paths_below w o) s))) (shown_below at boxes (identifiers w) depth (public_of day o))

      below : (closed : Bool) → is_unit_closed day u ≡ closed
          → (is_unit_closed day u ≡ false → AllByRecursion (ShowsIn (paths_below (w ++ u ∷ []) c)) (shown_below at boxes (identifiers (w ++ u ∷ [])) (depth + 1) (public_of day c)))
          → AllByRecursion (ShowsIn (paths_below w (Node u c o))) (shown_below at boxes (identifiers w ++ identifier_of (known_of day u) ∷ []) (depth + 1) (low_of day c closed))
      below true e f = tt
      below false e f =
          all_so (ShowsIn (paths_below (w ++ u ∷ []) c)) (ShowsIn (paths_below w (Node u c o))) (more_ways (paths_below (w ++ u ∷ []) c) (paths_below w (Node u c o)) (λ way s. inr (stands_left way (paths_below (w ++ u ∷ []) c) (paths_below w o) s)))
          (shown_below at boxes (identifiers w ++ identifier_of (known_of day u) ∷ []) (depth + 1) (public_of day c))
          (subst (λ ids. AllByRecursion (ShowsIn (paths_below (w ++ u ∷ []) c)) (shown_below at boxes ids (depth + 1) (public_of day c))) (sym (identifiers_on day w u)) (f e))

      go : (draft : Bool) → u.draft ≡ draft → (closed : Bool) → is_unit_closed day u ≡ closed
          → AllByRecursion (ShowsIn (paths_below w o)) (shown_below at boxes (identifiers w) depth (public_of day o))
          → (u.draft ≡ false → is_unit_closed day u ≡ false → AllByRecursion (ShowsIn (paths_below (w ++ u ∷ []) c)) (shown_below at boxes (identifiers (w ++ u ∷ [])) (depth + 1) (public_of day c)))
          → AllByRecursion (ShowsIn (paths_below w (Node u c o))) (shown_below at boxes (identifiers w) depth (known_where day u c o draft closed))
      go true d closed e p q = beside p
      go false d closed e p q = (
        (shows_here w u (paths_below (w ++ u ∷ []) c ++ paths_below w o) depth d h k).0,
        all_append (ShowsIn (paths_below w (Node u c o))) (shown_below at boxes (identifiers w ++ identifier_of (known_of day u) ∷ []) (depth + 1) (low_of day c closed)) (shown_below at boxes (identifiers w) depth (public_of day o)) (below closed e (q d)) (beside p),
      )

module _ (press : Press) (day : ℤ) where
  pub all_beside : (w : List Unit) (f : Forest Unit) → list_any (λ (x : Unit). x.draft) w ≡ false
      → list_any (is_unit_closed day) w ≡ false
      → AllByRecursion (ShowsOne press.at press.containers day (paths_below w f)) (pages_side_by_side press (identifiers w) (public_of day f))
  all_beside w Empty h k = tt
  all_beside w (Node u c o) h k = go u.draft refl (is_unit_closed day u) (all_beside w o h k)
    where
      beside : AllByRecursion (ShowsOne press.at press.containers day (paths_below w o)) (pages_side_by_side press (identifiers w) (public_of day o))
          → AllByRecursion (ShowsOne press.at press.containers day (paths_below w (Node u c o))) (pages_side_by_side press (identifiers w) (public_of day o))
      beside = all_so (ShowsOne press.at press.containers day (paths_below w o)) (ShowsOne press.at press.containers day (paths_below w (Node u c o))) (one_more_ways press.at press.containers day (paths_below w o) (paths_below w (Node u c o)) (λ way s. inr (stands_right way (paths_below (w ++ u ∷ []) c) (paths_below w o) s))) (pages_side_by_side press (identifiers w) (public_of day o))

      go : (draft : Bool) → u.draft ≡ draft → (closed : Bool)
          → AllByRecursion (ShowsOne press.at press.containers day (paths_below w o)) (pages_side_by_side press (identifiers w) (public_of day o))
          → AllByRecursion (ShowsOne press.at press.containers day (paths_below w (Node u c o))) (pages_side_by_side press (identifiers w) (known_where day u c o draft closed))
      go true d closed p = beside p
      go false d closed p = (shows_here press.at press.containers day w u (paths_below (w ++ u ∷ []) c ++ paths_below w o) 0 d h k, beside p)

-- ---- where a unit that the public may know stands

-- the unit that passes, with the units above it and those below it, in the forest and in what the public may know of it
pub record Place (day : ℤ) (is : PublicUnit → Bool) (w : List Unit) (f : Forest Unit) (g : Forest PublicUnit) : Type 0 where
  pub above : List Unit
  pub unit : Unit
  pub children : Forest Unit
  pub way : List PublicUnit
  pub ends : path is g ≡ way ++ known_of day unit ∷ []
  pub codes : identifiers w ++ map identifier_of way ≡ identifiers above
  pub alone : tree is g ≡ Node (known_of day unit) (low_of day children (is_unit_closed day unit)) Empty
  pub passes : is (known_of day unit) ≡ true
  pub draft : unit.draft ≡ false
  pub no_draft : list_any (λ (x : Unit). x.draft) above ≡ false
  pub open_above : list_any (is_unit_closed day) above ≡ false
  pub within : (x : List Unit) → StandsIn x ((above ++ unit ∷ []) ∷ paths_below (above ++ unit ∷ []) children)
      → StandsIn x (paths_below w f)

pub place : (day : ℤ) (is : PublicUnit → Bool) (w : List Unit) (f : Forest Unit)
    → list_any (λ (x : Unit). x.draft) w ≡ false → list_any (is_unit_closed day) w ≡ false → has is (public_of day f) ≡ true
    → Place day is w f (public_of day f)
place day is w Empty h k t = absurd (false≢true t)
place day is w (Node u c o) h k t =
    go u.draft refl (is_unit_closed day u) refl t (place day is w o h k)
    (λ d e. place day is (w ++ u ∷ []) c (none_pushed (λ (x : Unit). x.draft) w u h d) (none_pushed (is_unit_closed day) w u k e))
  where
    beside : (g : Forest PublicUnit) → path is g ≡ path is (public_of day o) → tree is g ≡ tree is (public_of day o)
        → Place day is w o (public_of day o) → Place day is w (Node u c o) g
    beside g e f p =
        record {
          above = p.above;
          unit = p.unit;
          children = p.children;
          way = p.way;
          ends = e ∙ p.ends;
          codes = p.codes;
          alone = f ∙ p.alone;
          passes = p.passes;
          draft = p.draft;
          no_draft = p.no_draft;
          open_above = p.open_above;
          within = λ x s. inr (stands_right x (paths_below (w ++ u ∷ []) c) (paths_below w o) (p.within x s));
        }

    below : (g : Forest PublicUnit) → path is g ≡ known_of day u ∷ path is (public_of day c)
        → tree is g ≡ tree is (public_of day c) → Place day is (w ++ u ∷ []) c (public_of day c)
        → Place day is w (Node u c o) g
    below g e f p =
        record {
          above = p.above;
          unit = p.unit;
          children = p.children;
          way = known_of day u ∷ p.way;
          ends = e ∙ ap (λ l. known_of day u ∷ l) p.ends;
          codes = sym (append_assoc (identifiers w) (identifier_of (known_of day u) ∷ []) (map identifier_of p.way)) ∙ (ap (λ l. l ++ map identifier_of p.way) (identifiers_on day w u) ∙ p.codes);
          alone = f ∙ p.alone;
          passes = p.passes;
          draft = p.draft;
          no_draft = p.no_draft;
          open_above = p.open_above;
          within = λ x s. inr (stands_left x (paths_below (w ++ u ∷ []) c) (paths_below w o) (p.within x s));
        }

    first_or_below : (x : List Unit) → StandsIn x ((w ++ u ∷ []) ∷ paths_below (w ++ u ∷ []) c)
        → StandsIn x (paths_below w (Node u c o))
    first_or_below x (inl e) = inl e
    first_or_below x (inr s) = inr (stands_left x (paths_below (w ++ u ∷ []) c) (paths_below w o) s)

    nil-right : {X : Type 0} (xs : List X) → xs ++ [] ≡ xs
    nil-right [] = refl
    nil-right (x ∷ xs) = ap (λ l. x ∷ l) (nil-right xs)

    head : (closed : Bool) → is_unit_closed day u ≡ closed → u.draft ≡ false → is (known_of day u) ≡ true
        → Place day is w (Node u c o) (known_where day u c o false closed)
    head closed e d y =
        record {
          above = w;
          unit = u;
          children = c;
          way = [];
          ends = rw y refl;
          codes = nil-right (identifiers w);
          alone = rw y (ap (λ b. Node (known_of day u) (low_of day c b) Empty) (sym e));
          passes = y;
          draft = d;
          no_draft = h;
          open_above = k;
          within = first_or_below;
        }

    lower : (closed : Bool) → is_unit_closed day u ≡ closed → is (known_of day u) ≡ false
        → has is (low_of day c closed) ≡ true
        → (is_unit_closed day u ≡ false → has is (public_of day c) ≡ true → Place day is (w ++ u ∷ []) c (public_of day c))
        → Place day is w (Node u c o) (known_where day u c o false closed)
    lower true e n y q = absurd (false≢true y)
    lower false e n y q = below (known_where day u c o false false) (rw (n, y) refl) (rw (n, y) refl) (q e y)

    some_beside : (a b x : Bool) → (a || (b || x)) ≡ true → a ≡ false → b ≡ false → x ≡ true
    some_beside true b x s e f = absurd (false≢true (sym e))
    some_beside false true x s e f = absurd (false≢true (sym f))
    some_beside false false x s e f = s

    go : (draft : Bool) → u.draft ≡ draft → (closed : Bool) → is_unit_closed day u ≡ closed
        → has is (known_where day u c o draft closed) ≡ true
        → (has is (public_of day o) ≡ true → Place day is w o (public_of day o))
        → (u.draft ≡ false → is_unit_closed day u ≡ false → has is (public_of day c) ≡ true → Place day is (w ++ u ∷ []) c (public_of day c))
        → Place day is w (Node u c o) (known_where day u c o draft closed)
    go true d closed e s p q = beside (public_of day o) refl refl (p s)
    go false d closed e s p q =
        let some : (is (known_of day u) || (has is (low_of day c closed) || has is (public_of day o))) ≡ true =
        ap (λ b. is (known_of day u) || b) (sym (list_any-append is (nodes (low_of day c closed)) (nodes (public_of day o)))) ∙ s in
        elim (cases_Bool (is (known_of day u))) [
          | inl y ↦ head closed e d y
          | inr n ↦ elim (cases_Bool (has is (low_of day c closed))) [
            | inl y ↦ lower closed e n y (q d)
            | inr m ↦ beside (known_where day u c o false closed) (rw (n, m) refl) (rw (n, m) refl) (p (some_beside _ _ _ some n m))
          ]
        ]

-- ---- what is shown of that unit, and of those below it

module _ (at : Repository) (boxes : List BoxKey) (day : ℤ) (is : PublicUnit → Bool) (f : Forest Unit) (p : Place day is [] f (public_of day f)) where
  pub shown_first : (depth : ℕ)
      → ShowsOne at boxes day (paths_below [] f) (public_number (known_of day p.unit), shown_unit at boxes (identifiers p.above ++ identifier_of (known_of day p.unit) ∷ []) depth (known_of day p.unit))
  shown_first depth =
      one_more_ways at boxes day ((p.above ++ p.unit ∷ []) ∷ paths_below (p.above ++ p.unit ∷ []) p.children) (paths_below [] f) p.within
      (public_number (known_of day p.unit), shown_unit at boxes (identifiers p.above ++ identifier_of (known_of day p.unit) ∷ []) depth (known_of day p.unit))
      (shows_here at boxes day p.above p.unit (paths_below (p.above ++ p.unit ∷ []) p.children) depth p.draft p.no_draft p.open_above)

  none_draft : list_any (λ (x : Unit). x.draft) (p.above ++ p.unit ∷ []) ≡ false
  none_draft = none_pushed (λ (x : Unit). x.draft) p.above p.unit p.no_draft p.draft

  pub shown_lower : (depth : ℕ)
      → AllByRecursion (ShowsIn at boxes day (paths_below [] f)) (shown_below at boxes (identifiers p.above ++ identifier_of (known_of day p.unit) ∷ []) depth (low_of day p.children (is_unit_closed day p.unit)))
  shown_lower depth = go (is_unit_closed day p.unit) refl
    where
      go : (closed : Bool) → is_unit_closed day p.unit ≡ closed
          → AllByRecursion (ShowsIn at boxes day (paths_below [] f)) (shown_below at boxes (identifiers p.above ++ identifier_of (known_of day p.unit) ∷ []) depth (low_of day p.children closed))
      go true e = tt
      go false e =
          all_so (ShowsIn at boxes day (paths_below (p.above ++ p.unit ∷ []) p.children)) (ShowsIn at boxes day (paths_below [] f)) (more_ways at boxes day (paths_below (p.above ++ p.unit ∷ []) p.children) (paths_below [] f) (λ x s. p.within x (inr s)))
          (shown_below at boxes (identifiers p.above ++ identifier_of (known_of day p.unit) ∷ []) depth (public_of day p.children))
          (subst (λ ids. AllByRecursion (ShowsIn at boxes day (paths_below (p.above ++ p.unit ∷ []) p.children)) (shown_below at boxes ids depth (public_of day p.children))) (sym (identifiers_on day p.above p.unit))
          (all_shown at boxes day (p.above ++ p.unit ∷ []) p.children depth none_draft (none_pushed (is_unit_closed day) p.above p.unit p.open_above e)))

  pub shown_beside : AllByRecursion (ShowsOne at boxes day (paths_below [] f)) (pages_side_by_side (record { at = at; containers = boxes }) (identifiers p.above ++ identifier_of (known_of day p.unit) ∷ []) (low_of day p.children (is_unit_closed day p.unit)))
  shown_beside = go (is_unit_closed day p.unit) refl
    where
      go : (closed : Bool) → is_unit_closed day p.unit ≡ closed
          → AllByRecursion (ShowsOne at boxes day (paths_below [] f)) (pages_side_by_side (record { at = at; containers = boxes }) (identifiers p.above ++ identifier_of (known_of day p.unit) ∷ []) (low_of day p.children closed))
      go true e = tt
      go false e =
          all_so (ShowsOne at boxes day (paths_below (p.above ++ p.unit ∷ []) p.children)) (ShowsOne at boxes day (paths_below [] f)) (one_more_ways at boxes day (paths_below (p.above ++ p.unit ∷ []) p.children) (paths_below [] f) (λ x s. p.within x (inr s)))
          (pages_side_by_side (record { at = at; containers = boxes }) (identifiers p.above ++ identifier_of (known_of day p.unit) ∷ []) (public_of day p.children))
          (subst (λ ids. AllByRecursion (ShowsOne at boxes day (paths_below (p.above ++ p.unit ∷ []) p.children)) (pages_side_by_side (record { at = at; containers = boxes }) ids (public_of day p.children))) (sym (identifiers_on day p.above p.unit))
          (all_beside (record { at = at; containers = boxes }) day (p.above ++ p.unit ∷ []) p.children none_draft (none_pushed (is_unit_closed day) p.above p.unit p.open_above e)))
