-- What the public is shown is printed from published units alone.
use Rattle.std.proofs.Common.{◌≡◌, ℕ, Bool, true, false, cond, List, [], ◌∷◌, ◌++◌, Option, Some, None, refl, sym, ap}
use Rattle.std.proofs.Common.{◌∙◌, subst, inl, inr, ◌⊎◌}
use Rattle.std.specs.Prelude.{map}
use Rattle.isad_core.specs.PrintedDescriptions.{aid as aid_text, page as page_text}
use Rattle.isad_core.specs.declared.display.Page.{Page}
use Rattle.isad_core.specs.declared.display.Shown.{Shown}
use Rattle.catalogue_core.proofs.PageUnits.{page_told, there_where_shown}
use Rattle.catalogue_core.proofs.PagesAlike.{path_alike}
use Rattle.catalogue_core.proofs.PublicPaths.{known_of, stand, nowhere}
use Rattle.catalogue_core.proofs.PublishedUnits.{published_below, before_last-push}
use Rattle.catalogue_core.proofs.ShownUnits.{ShowsIn, ShowsOne, low_of, all_beside, Place, place, shown_first}
use Rattle.catalogue_core.proofs.ShownUnits.{shown_lower, shown_beside}
use Rattle.catalogue_core.specs.Aids.{identifier_of, shown_unit, shown_below}
use Rattle.office_core.specs.declared.query.Answer.TheVariants.{Text, Unknown}
use Rattle.office_core.specs.declared.query.Query.TheVariants as query
use Rattle.office_core.proofs.Common.{AllByRecursion, Bytes, Empty, Forest, IsPublished, Node, PageShowsPublished}
use Rattle.office_core.proofs.Common.{Press, PublicUnit, ShowsAllPublished, ShowsBranch, ShowsNumbered}
use Rattle.office_core.proofs.Common.{ShowsOnlyPublished, ShowsPublished, State, Stub, Told, UnknownUnit, above_last}
use Rattle.office_core.proofs.Common.{aid_units, all_append, all_so, answer, before_last, cases_Bool, eqb-true, has}
use Rattle.office_core.proofs.Common.{has_public_number, identifiers, is_text, is_unit_closed, map-append, page_answer}
use Rattle.office_core.proofs.Common.{page_at, page_of, pages_side_by_side, path, paths, press, public_forest}
use Rattle.office_core.proofs.Common.{public_number, same_Some, tree}

same_text : (a b : Bytes) → Text a ≡ Text b → a ≡ b
same_text a b e = cc

-- ---- units

abbrev In : State → Shown → Type 0
In s = ShowsIn (press s).at s.catalogue.containers s.day (paths s.catalogue.forest)

abbrev One : State → ℕ × Shown → Type 0
One s = ShowsOne (press s).at s.catalogue.containers s.day (paths s.catalogue.forest)

shows : (s : State) (shown : Shown) → In s shown → ShowsPublished s shown
shows s shown it = record { told = it.told; published = it.published; depth = it.depth; is = it.is }

shows_one : (s : State) (top : ℕ × Shown) → One s top → ShowsNumbered s top
shows_one s (u, shown) (it, n) = (record { told = it.told; published = it.published; depth = it.depth; is = it.is }, n)

abbrev PlaceOf : State → ℕ → Type 0
PlaceOf s u = Place s.day (has_public_number u) [] s.catalogue.forest (public_forest s)

place_of : (s : State) (u : ℕ) → has (has_public_number u) (public_forest s) ≡ true → PlaceOf s u
place_of s u h = place s.day (has_public_number u) [] s.catalogue.forest refl refl h

-- the unit with this number, with any number of units above it in what is printed
first_shown : (s : State) (u : ℕ) (p : PlaceOf s u)
    → ShowsNumbered s (u, shown_unit (press s).at s.catalogue.containers (identifiers p.above ++ identifier_of (known_of s.day p.unit) ∷ []) 0 (known_of s.day p.unit))
first_shown s u p =
    let n : public_number (known_of s.day p.unit) ≡ u = sym (eqb-true u (public_number (known_of s.day p.unit)) p.passes) in
    subst (λ k. ShowsNumbered s (k, shown_unit (press s).at s.catalogue.containers (identifiers p.above ++ identifier_of (known_of s.day p.unit) ∷ []) 0 (known_of s.day p.unit))) n
    (shows_one s _ (shown_first (press s).at s.catalogue.containers s.day (has_public_number u) s.catalogue.forest p 0))

-- ---- a finding aid

aid_shown : (s : State) (u : ℕ) → has (has_public_number u) (public_forest s) ≡ true
    → ShowsBranch s u (aid_units (press s) u (public_forest s))
aid_shown s u h =
    let p = place_of s u h in
    let ids : above_last (path (has_public_number u) (public_forest s)) ≡ identifiers p.above =
    ap (map identifier_of) (ap before_last p.ends ∙ before_last-push p.way (known_of s.day p.unit)) ∙ p.codes in
    subst (λ above. ShowsBranch s u (shown_below (press s).at s.catalogue.containers above 0 (tree (has_public_number u) (public_forest s)))) (sym ids)
    (subst (λ f. ShowsBranch s u (shown_below (press s).at s.catalogue.containers (identifiers p.above) 0 f)) (sym p.alone) (
      first_shown s u p,
      all_append (ShowsPublished s) (shown_below (press s).at s.catalogue.containers (identifiers p.above ++ identifier_of (known_of s.day p.unit) ∷ []) 1 (low_of s.day p.children (is_unit_closed s.day p.unit))) []
          (all_so (In s) (ShowsPublished s) (shows s) (shown_below (press s).at s.catalogue.containers (identifiers p.above ++ identifier_of (known_of s.day p.unit) ∷ []) 1 (low_of s.day p.children (is_unit_closed s.day p.unit)))
          (shown_lower (press s).at s.catalogue.containers s.day (has_public_number u) s.catalogue.forest p 1)) tt,
    ))

aid_at : (s : State) (u : ℕ) (b : Bool) → has (has_public_number u) (public_forest s) ≡ b → (text : Bytes)
    → cond b (Text (aid_text (aid_units (press s) u (public_forest s)))) (Unknown UnknownUnit) ≡ Text text
    → (units : List Shown) × (text ≡ aid_text units) × ShowsBranch s u units
aid_at s u true h text e = (aid_units (press s) u (public_forest s), sym (same_text _ text e), aid_shown s u h)
aid_at s u false h text e = absurd (cc)

-- ---- a page

-- the head of a page, and the units below it
page_parts : (at : Press) (way : List PublicUnit) (unit : PublicUnit) (low : Forest PublicUnit) (shown : Page)
    → page_at at way (Node unit low Empty) ≡ Some shown
    → (shown.head ≡ shown_unit at.at at.containers (map identifier_of way) 0 unit) × ((shown.below ≡ []) ⊎ (shown.below ≡ pages_side_by_side at (map identifier_of way) low))
page_parts at way (Stub id identifier level until) low shown e = let k = same_Some _ shown e in (ap (λ (p : Page). p.head) (sym k), inl (ap (λ (p : Page). p.below) (sym k)))
page_parts at way (Told id values) low shown e = let k = same_Some _ shown e in (ap (λ (p : Page). p.head) (sym k), inr (ap (λ (p : Page). p.below) (sym k)))

page_shown : (s : State) (u : ℕ) (shown : Page) → page_of (press s) u (public_forest s) ≡ Some shown
    → PageShowsPublished s u shown
page_shown s u shown e =
    let p = place_of s u (there_where_shown (press s) u (public_forest s) shown e) in
    let way = path (has_public_number u) (public_forest s) in
    let parts = page_parts (press s) way (known_of s.day p.unit) (low_of s.day p.children (is_unit_closed s.day p.unit)) shown (sym (ap (page_at (press s) way) p.alone) ∙ e) in
    let ids : map identifier_of way ≡ identifiers p.above ++ identifier_of (known_of s.day p.unit) ∷ [] =
    ap (map identifier_of) p.ends ∙ (map-append identifier_of p.way (known_of s.day p.unit ∷ []) ∙ ap (λ l. l ++ identifier_of (known_of s.day p.unit) ∷ []) p.codes) in
    let told = page_told (press s) s.day s.catalogue.forest u shown e in
    let head_is = parts.0 ∙ ap (λ l. shown_unit (press s).at s.catalogue.containers l 0 (known_of s.day p.unit)) ids in
    record {
      head = subst (λ h. ShowsNumbered s (u, h)) (sym head_is) (first_shown s u p);
      way = path_alike (IsPublished s.day (paths s.catalogue.forest)) (has_public_number u) (public_forest s) (published_below s.day [] s.catalogue.forest refl refl);
      lines = told.0;
      boxes = told.1;
      below = below p way ids parts.1;
    }
  where
    below : (p : PlaceOf s u) (way : List PublicUnit)
        → map identifier_of way ≡ identifiers p.above ++ identifier_of (known_of s.day p.unit) ∷ []
        → (shown.below ≡ []) ⊎ (shown.below ≡ pages_side_by_side (press s) (map identifier_of way) (low_of s.day p.children (is_unit_closed s.day p.unit)))
        → AllByRecursion (ShowsNumbered s) shown.below
    below p way ids (inl none) = subst (AllByRecursion (ShowsNumbered s)) (sym none) tt
    below p way ids (inr some) =
        subst (AllByRecursion (ShowsNumbered s)) (sym (some ∙ ap (λ l. pages_side_by_side (press s) l (low_of s.day p.children (is_unit_closed s.day p.unit))) ids))
        (all_so (One s) (ShowsNumbered s) (shows_one s) (pages_side_by_side (press s) (identifiers p.above ++ identifier_of (known_of s.day p.unit) ∷ []) (low_of s.day p.children (is_unit_closed s.day p.unit)))
        (shown_beside (press s).at s.catalogue.containers s.day (has_public_number u) s.catalogue.forest p))

page_answered : (s : State) (u : ℕ) (found : Option Page) → page_of (press s) u (public_forest s) ≡ found
    → (text : Bytes) → page_answer found ≡ Text text
    → (shown : Page) × (text ≡ page_text shown) × PageShowsPublished s u shown
page_answered s u None h text e = absurd (cc)
page_answered s u (Some shown) h text e = (shown, sym (same_text _ text e), page_shown s u shown h)

-- ---- the answers

pub only_published : (s : State) → ShowsOnlyPublished s
only_published s query.Fonds text p e = (
  pages_side_by_side (press s) [] (public_forest s),
  sym (same_text _ text e),
  all_so (One s) (ShowsNumbered s) (shows_one s) (pages_side_by_side (press s) [] (public_forest s)) (all_beside (press s) s.day [] s.catalogue.forest refl refl),
)
only_published s (query.Aid u) text p e = aid_at s u (has (has_public_number u) (public_forest s)) refl text e
only_published s (query.Page u) text p e = page_answered s u (page_of (press s) u (public_forest s)) refl text e
only_published s _ text p e = cc

-- ---- and each that is published is shown

aid_there : (b : Bool) (text : Bytes) → is_text (cond b (Text text) (Unknown UnknownUnit)) ≡ b
aid_there true text = refl
aid_there false text = refl

page_made : (at : Press) (way : List PublicUnit) (unit : PublicUnit) (low : Forest PublicUnit)
    → is_text (page_answer (page_at at way (Node unit low Empty))) ≡ true
page_made at way (Stub id identifier level until) low = refl
page_made at way (Told id values) low = refl

page_there : (s : State) (u : ℕ) → is_text (answer s (query.Page u)) ≡ has (has_public_number u) (public_forest s)
page_there s u =
    let way = path (has_public_number u) (public_forest s) in
    elim (cases_Bool (has (has_public_number u) (public_forest s))) [
      | inl y ↦
          let it = stand (has_public_number u) (public_forest s) y in
          ap (λ f. is_text (page_answer (page_at (press s) way f))) it.alone ∙ (page_made (press s) way it.unit it.below ∙ sym y)
      | inr n ↦ ap (λ f. is_text (page_answer (page_at (press s) way f))) (nowhere (has_public_number u) (public_forest s) n) ∙ sym n
    ]

pub all_published : (s : State) → ShowsAllPublished s
all_published s = record { aid = λ u. aid_there (has (has_public_number u) (public_forest s)) _; page = page_there s }
