-- What the public is shown is what is not withheld from a reader without permits.
use Rattle.std.proofs.Common.{◌≡◌, ℤ, Bool, true, false, cond, not, ◌&&◌, ◌||◌, List, [], ◌∷◌, ◌++◌, Option, Some, None}
use Rattle.std.proofs.Common.{refl, sym, ap, ap₂, ◌∙◌, inl, inr}
use Rattle.std.proofs.Math.Bool.{or-false}
use Rattle.std.specs.Prelude.{filter}
use Rattle.catalogue_core.proofs.Common.{Empty, Forest, Node, PublicUnit, StubsWhatIsClosed, TellsWhatIsOpen, Unit}
use Rattle.catalogue_core.proofs.Common.{before_last, cases_Bool, each, false≢true, filter-append, filter_map}
use Rattle.catalogue_core.proofs.Common.{filter_map-append, is_closed_alone, is_open_to_public, is_told, is_unit_closed}
use Rattle.catalogue_core.proofs.Common.{list_any, list_any-append, nodes, or_parts, paths_below, public, public_of}
use Rattle.catalogue_core.proofs.Common.{public_unit, stub_of, told_as_stub, told_whole}
use Rattle.catalogue_core.proofs.PublishedUnits.{before_last-push, last_of-push}

-- ---- lists and truths

pub pushed : (p : Unit → Bool) (w : List Unit) (u : Unit) → list_any p (w ++ u ∷ []) ≡ (list_any p w || p u)
pushed p w u = list_any-append p w (u ∷ []) ∙ ap (λ b. list_any p w || b) (or-false (p u))

still : (a b c d : Bool) → (a || c) ≡ true → ((a || b) || (c || d)) ≡ true
still true b c d h = refl
still false true c d h = refl
still false false true d h = refl
still false false false d h = absurd (false≢true h)

none_open : (way : List Unit) → list_any (λ (u : Unit). false) way ≡ false
none_open [] = refl
none_open (u ∷ way) = none_open way

abbrev D : Unit → Bool
D unit = unit.draft

module _ (day : ℤ) where
  abbrev C : Unit → Bool
  C = is_unit_closed day

  -- a draft, or something closed, stands above
  abbrev is_shut : List Unit → Bool
  is_shut w = list_any D w || list_any C w

  pub public_is : (way : List Unit) → is_open_to_public day way ≡ not (is_shut way)
  public_is way = ap (λ b. not (list_any D way || (list_any C way && not b))) (none_open way) ∙ and_true (list_any D way) (list_any C way)
    where
      and_true : (a b : Bool) → not (a || (b && true)) ≡ not (a || b)
      and_true true b = refl
      and_true false true = refl
      and_true false false = refl

  shut_on : (w : List Unit) (u : Unit) → is_shut w ≡ true → is_shut (w ++ u ∷ []) ≡ true
  shut_on w u h = ap₂ ◌||◌ (pushed D w u) (pushed C w u) ∙ still (list_any D w) (D u) (list_any C w) (C u) h

  shut_by_draft : (w : List Unit) (u : Unit) → D u ≡ true → is_shut (w ++ u ∷ []) ≡ true
  shut_by_draft w u d = ap (λ b. b || list_any C (w ++ u ∷ [])) (pushed D w u ∙ ap (λ b. list_any D w || b) d) ∙ yes (list_any D w) (list_any C (w ++ u ∷ []))
    where
      yes : (a x : Bool) → ((a || true) || x) ≡ true
      yes true x = refl
      yes false x = refl

  shut_by_closure : (w : List Unit) (u : Unit) → C u ≡ true → is_shut (w ++ u ∷ []) ≡ true
  shut_by_closure w u k = ap (λ b. list_any D (w ++ u ∷ []) || b) (pushed C w u ∙ ap (λ b. list_any C w || b) k) ∙ yes (list_any D (w ++ u ∷ [])) (list_any C w)
    where
      yes : (x a : Bool) → (x || (a || true)) ≡ true
      yes true a = refl
      yes false true = refl
      yes false false = refl

  still_open : (w : List Unit) (u : Unit) → is_shut w ≡ false → D u ≡ false → C u ≡ false
      → is_shut (w ++ u ∷ []) ≡ false
  still_open w u h n k =
      let above = or_parts (list_any D w) (list_any C w) h in
      ap₂ ◌||◌ (pushed D w u ∙ ap₂ ◌||◌ above.0 n) (pushed C w u ∙ ap₂ ◌||◌ above.1 k)

  -- ---- a choice among the paths of units, and among what the public is told

  module _ (p : List Unit → Bool) (t : PublicUnit → Bool) (g : List Unit → Option PublicUnit)
      (blocked : (w : List Unit) (u : Unit) → is_shut w ≡ true → p (w ++ u ∷ []) ≡ false)
      (drafted : (w : List Unit) (u : Unit) → D u ≡ true → p (w ++ u ∷ []) ≡ false)
      (shown : (w : List Unit) (u : Unit) → is_shut w ≡ false → D u ≡ false → filter t (public_unit (u, C u) ∷ []) ≡ filter_map g (filter p ((w ++ u ∷ []) ∷ []))) where
    nothing_below : (w : List Unit) (f : Forest Unit) → is_shut w ≡ true → filter p (paths_below w f) ≡ []
    nothing_below w Empty h = refl
    nothing_below w (Node u c o) h =
        let no : p (w ++ u ∷ []) ≡ false = blocked w u h in
        rw no
        (filter-append p (paths_below (w ++ u ∷ []) c) (paths_below w o)
        ∙ ap₂ ◌++◌ (nothing_below (w ++ u ∷ []) c (shut_on w u h)) (nothing_below w o h))

    chosen : (w : List Unit) (f : Forest Unit) → is_shut w ≡ false
        → filter t (nodes (public_of day f)) ≡ filter_map g (filter p (paths_below w f))
    chosen w Empty h = refl
    chosen w (Node u c o) h = elim (cases_Bool (D u)) [
      | inl d ↦
          let no : p (w ++ u ∷ []) ≡ false = drafted w u d in
          let below : filter p (paths_below (w ++ u ∷ []) c) ≡ [] =
          nothing_below (w ++ u ∷ []) c (shut_by_draft w u d) in
          let rest : picked ((w ++ u ∷ []) ∷ (paths_below (w ++ u ∷ []) c ++ paths_below w o)) ≡ picked (paths_below w o) =
          rw no (ap (filter_map g) (filter-append p (paths_below (w ++ u ∷ []) c) (paths_below w o) ∙ ap (λ l. l ++ filter p (paths_below w o)) below)) in
          ap (λ b. filter t (nodes_where b)) d ∙ (chosen w o h ∙ sym rest)
      | inr n ↦ ap (λ b. filter t (nodes_where b)) n ∙ (left ∙ (ap₂ ◌++◌ (shown w u h n) (ap₂ ◌++◌ (below n (C u) refl (λ k. chosen (w ++ u ∷ []) c (still_open w u h n k))) (chosen w o h)) ∙ sym right))
    ]
      where
        -- what is told of these trees, by whether the first unit is a draft
        nodes_where : Bool → List PublicUnit
        nodes_where b = nodes (each public_unit (cond b (public D C o) (Node (u, C u) (cond (C u) Empty (public D C c)) (public D C o))))

        low : Bool → List PublicUnit
        low b = nodes (each public_unit (cond b Empty (public D C c)))

        beside : List PublicUnit
        beside = nodes (each public_unit (public D C o))

        left : filter t (public_unit (u, C u) ∷ (low (C u) ++ beside)) ≡ filter t (public_unit (u, C u) ∷ []) ++ (filter t (low (C u)) ++ filter t beside)
        left =
            filter-append t (public_unit (u, C u) ∷ []) (low (C u) ++ beside)
            ∙ ap (λ l. filter t (public_unit (u, C u) ∷ []) ++ l) (filter-append t (low (C u)) beside)

        picked : List (List Unit) → List PublicUnit
        picked ways = filter_map g (filter p ways)

        picked-append : (ways more : List (List Unit)) → picked (ways ++ more) ≡ picked ways ++ picked more
        picked-append ways more =
            ap (filter_map g) (filter-append p ways more) ∙ filter_map-append g (filter p ways) (filter p more)

        right : picked ((w ++ u ∷ []) ∷ (paths_below (w ++ u ∷ []) c ++ paths_below w o)) ≡ picked ((w ++ u ∷ []) ∷ []) ++ (picked (paths_below (w ++ u ∷ []) c) ++ picked (paths_below w o))
        right =
            picked-append ((w ++ u ∷ []) ∷ []) (paths_below (w ++ u ∷ []) c ++ paths_below w o)
            ∙ ap (λ l. picked ((w ++ u ∷ []) ∷ []) ++ l) (picked-append (paths_below (w ++ u ∷ []) c) (paths_below w o))

        below : D u ≡ false → (b : Bool) → C u ≡ b
            → (C u ≡ false → filter t (low false) ≡ picked (paths_below (w ++ u ∷ []) c))
            → filter t (low b) ≡ picked (paths_below (w ++ u ∷ []) c)
        below n true k f = sym (ap (filter_map g) (nothing_below (w ++ u ∷ []) c (shut_by_closure w u k)))
        below n false k f = f k

  -- ---- the units that are told, and the stubs

  stub_is : (u : Unit) (b : Bool) → C u ≡ true → is_told (stub_of u u.until) ≡ false
  stub_is u b = elim u.until as (λ o. Rattle.visibility.specs.Marks.is_later day o ≡ true → is_told (stub_of u o) ≡ false) [ None ↦ λ e. absurd (false≢true e) | Some until ↦ λ e. refl ]

  alone_is : (w : List Unit) (u : Unit)
      → is_closed_alone day (w ++ u ∷ []) ≡ (not (list_any D w || D u) && (not (list_any C w) && (list_any C w || C u)))
  alone_is w u =
      ap (λ b. not b && (not (list_any C (before_last (w ++ u ∷ []))) && list_any C (w ++ u ∷ []))) (pushed D w u)
      ∙ (ap (λ l. not (list_any D w || D u) && (not (list_any C l) && list_any C (w ++ u ∷ []))) (before_last-push w u)
      ∙ ap (λ b. not (list_any D w || D u) && (not (list_any C w) && b)) (pushed C w u))

  whole : (w : List Unit) (u : Unit) → is_shut w ≡ false → D u ≡ false
      → filter is_told (public_unit (u, C u) ∷ []) ≡ filter_map told_whole (filter (is_open_to_public day) ((w ++ u ∷ []) ∷ []))
  whole w u h n = elim (cases_Bool (C u)) [
    | inl k ↦
        let no : is_open_to_public day (w ++ u ∷ []) ≡ false =
        public_is (w ++ u ∷ []) ∙ ap not (shut_by_closure w u k) in
        rw (k, no, stub_is u true k) refl
    | inr k ↦
        let yes : is_open_to_public day (w ++ u ∷ []) ≡ true =
        public_is (w ++ u ∷ []) ∙ ap not (still_open w u h n k) in
        rw (k, yes, last_of-push w u) refl
  ]

  stubs : (w : List Unit) (u : Unit) → is_shut w ≡ false → D u ≡ false
      → filter (λ unit. not (is_told unit)) (public_unit (u, C u) ∷ []) ≡ filter_map told_as_stub (filter (is_closed_alone day) ((w ++ u ∷ []) ∷ []))
  stubs w u h n =
      let above = or_parts (list_any D w) (list_any C w) h in
      let is : is_closed_alone day (w ++ u ∷ []) ≡ C u = alone_is w u ∙ rw (above.0, above.1, n) refl in
      elim (cases_Bool (C u)) [
        | inl k ↦ let yes : is_closed_alone day (w ++ u ∷ []) ≡ true = is ∙ k in rw (k, yes, stub_is u true k, last_of-push w u) refl
        | inr k ↦ let no : is_closed_alone day (w ++ u ∷ []) ≡ false = is ∙ k in rw (k, no) refl
      ]

pub tells_what_is_open : TellsWhatIsOpen
tells_what_is_open day f =
    chosen day (is_open_to_public day) is_told told_whole
    (λ w u h. public_is day (w ++ u ∷ []) ∙ ap not (shut_on day w u h))
    (λ w u d. public_is day (w ++ u ∷ []) ∙ ap not (shut_by_draft day w u d))
    (whole day) [] f refl

pub stubs_what_is_closed : StubsWhatIsClosed
stubs_what_is_closed day f =
    chosen day (is_closed_alone day) (λ unit. not (is_told unit)) told_as_stub
    (λ w u h. alone_is day w u ∙ none_alone (list_any D w) (D u) (list_any (is_unit_closed day) w) (is_unit_closed day u) h)
    (λ w u d. alone_is day w u ∙ (ap (λ b. not (list_any D w || b) && (not (list_any (is_unit_closed day) w) && (list_any (is_unit_closed day) w || is_unit_closed day u))) d ∙ no_draft_alone (list_any D w) _))
    (stubs day) [] f refl
  where
    none_alone : (a b c d : Bool) → (a || c) ≡ true → (not (a || b) && (not c && (c || d))) ≡ false
    none_alone true b c d h = refl
    none_alone false true c d h = refl
    none_alone false false true d h = refl
    none_alone false false false d h = absurd (false≢true h)

    no_draft_alone : (a x : Bool) → (not (a || true) && x) ≡ false
    no_draft_alone true x = refl
    no_draft_alone false x = refl
