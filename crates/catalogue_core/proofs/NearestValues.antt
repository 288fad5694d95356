-- A value that is found above is that of the nearest unit that has one.
use Rattle.std.proofs.Common.{◌≡◌, ℕ, Bool, true, false, cond, ◌||◌, List, [], ◌∷◌, ◌++◌, map, Some, None, refl, sym}
use Rattle.std.proofs.Common.{ap, ap₂, ◌∙◌, subst, inl, inr, append_assoc}
use Rattle.std.proofs.lemmas.Option.{same_Some}
use Rattle.isad_core.specs.Elements.{is_found_above}
use Rattle.isad_core.specs.declared.element.Element.{Element}
use Rattle.catalogue_core.specs.NearestValues.{has_value, IsNearestValue, LinesAreNearest}
use Rattle.catalogue_core.proofs.Common.{AllByRecursion, Coded, Empty, Forest, Node, Page, PageLine, Press, PublicUnit}
use Rattle.catalogue_core.proofs.Common.{Repository, Stub, Told, before_last, code_of, coded_below, false≢true}
use Rattle.catalogue_core.proofs.Common.{filter_map, has_public_number, identifier_of, is_some, line_elements, list_any}
use Rattle.catalogue_core.proofs.Common.{map-append, nearest_value, page_at, page_line, public_of, text_of, with_codes}
use Rattle.catalogue_core.proofs.EachOf.{all_append}
use Rattle.catalogue_core.proofs.PublishedUnits.{before_last-push}
use Rattle.catalogue_core.proofs.PublicPaths.{IsTold, stand, told_above}
use Rattle.catalogue_core.proofs.PageUnits.{there_where_shown, by_option, all_made, AtPlace}

-- ---- the units of a path, the lowest first, each with all that stand below it

abbrev Chained : Repository → List PublicUnit → List PublicUnit → List Coded → Type 0
Chained at way below [] = way ≡ below
Chained at way below (unit ∷ higher) =
    (p : AtPlace at way below unit) × Chained at way (Told p.id unit.values ∷ below) higher

chained : (press : Press) (full pre : List PublicUnit) (higher : List Coded) (unit : PublicUnit) (way : List PublicUnit)
    → full ≡ pre ++ unit ∷ way → AllByRecursion IsTold (unit ∷ way) → Chained press.at full (unit ∷ way) higher
    → (head : Coded) × (rest : List Coded) × (coded_below press (map identifier_of pre) higher (unit ∷ way) ≡ head ∷ rest) × Chained press.at full [] (head ∷ rest)
chained press full pre higher (Stub id identifier level until) way e t h = absurd (false≢true t.0)
chained press full pre higher (Told id values) [] e t h =
    let unit : Coded = record { code = code_of press.at.country press.at.repo (map identifier_of pre ++ identifier_of (Told id values) ∷ []); values = values } in
    (unit, higher, refl, (record { above = pre; id = id; stands = e; code = ap (code_of press.at.country press.at.repo) (sym (map-append identifier_of pre (Told id values ∷ []))) }, h))
chained press full pre higher (Told id values) (next ∷ way) e t h =
    let unit : Coded = record { code = code_of press.at.country press.at.repo (map identifier_of pre ++ identifier_of (Told id values) ∷ []); values = values } in
    let p : AtPlace press.at full (next ∷ way) unit =
    record { above = pre; id = id; stands = e; code = ap (code_of press.at.country press.at.repo) (sym (map-append identifier_of pre (Told id values ∷ []))) } in
    let r = chained press full (pre ++ Told id values ∷ []) (unit ∷ higher) next way (e ∙ sym (append_assoc pre (Told id values ∷ []) (next ∷ way))) t.1 (p, h) in
    (r.0, r.1, ap (λ ids. coded_below press ids (unit ∷ higher) (next ∷ way)) (sym (map-append identifier_of pre (Told id values ∷ []))) ∙ r.2, r.3)

-- ---- a value that is found above

none_more : (element : Element) (id : ℕ) (unit : Coded) (below : List PublicUnit) → text_of element unit.values ≡ None
    → list_any (has_value element) below ≡ false → list_any (has_value element) (Told id unit.values ∷ below) ≡ false
none_more element id unit below n h = ap (λ o. is_some o || list_any (has_value element) below) n ∙ h

nearest : (at : Repository) (way : List PublicUnit) (element : Element) (next : PublicUnit) (below : List PublicUnit) (units : List Coded)
    → is_found_above element ≡ true → Chained at way (next ∷ below) units
    → list_any (has_value element) (next ∷ below) ≡ false → (line : PageLine) → nearest_value element units ≡ Some line
    → IsNearestValue at way line
nearest at way element next below [] a c h line e = absurd (cc)
nearest at way element next below (unit ∷ higher) a c h line e = elim (by_option (text_of element unit.values)) [
  | inl n ↦ nearest at way element (Told c.0.id unit.values) (next ∷ below) higher a c.1 (none_more element c.0.id unit (next ∷ below) n h) line (rw n at e)
  | inr s ↦
      let is = s.1 in
      let k : Some (element, s.0, Some unit.code) ≡ Some line = rw is at e in
      let p = c.0 in
      subst (IsNearestValue at way) (same_Some (element, s.0, Some unit.code) line k)
      (record { above = p.above; id = p.id; values = unit.values; below = next ∷ below; stands = p.stands; text = is; named = ap Some p.code; nearest = h; found = inr a })
]

line_nearest : (at : Repository) (way : List PublicUnit) (head : Coded) (higher : List Coded)
    → Chained at way [] (head ∷ higher) → (element : Element) (line : PageLine)
    → page_line (head ∷ higher) element ≡ Some line → IsNearestValue at way line
line_nearest at way head higher c element line e = elim (by_option (text_of element head.values)) [
  | inl n ↦ found n (is_found_above element) refl (rw n at e)
  | inr s ↦
      let is = s.1 in
      let k : Some (element, s.0, None) ≡ Some line = rw is at e in
      let p = c.0 in
      subst (IsNearestValue at way) (same_Some (element, s.0, None) line k)
      (record { above = p.above; id = p.id; values = head.values; below = []; stands = p.stands; text = is; named = refl; nearest = refl; found = inl refl })
]
  where
    found : text_of element head.values ≡ None → (b : Bool) → is_found_above element ≡ b
        → cond b (nearest_value element higher) None ≡ Some line → IsNearestValue at way line
    found n true a k = nearest at way element (Told c.0.id head.values) [] higher a c.1 (none_more element c.0.id head [] n refl) line k
    found n false a k = absurd (cc)

-- ---- the page

way_chained : (press : Press) (above : List PublicUnit) (unit : PublicUnit) → AllByRecursion IsTold above → IsTold unit
    → (head : Coded) × (rest : List Coded) × (with_codes press (above ++ unit ∷ []) ≡ head ∷ rest) × Chained press.at (above ++ unit ∷ []) [] (head ∷ rest)
way_chained press [] unit a t = chained press (unit ∷ []) [] [] unit [] refl (t, tt) refl
way_chained press (top ∷ above) unit a t =
    chained press (top ∷ (above ++ unit ∷ [])) [] [] top (above ++ unit ∷ []) refl (a.0, all_append IsTold above (unit ∷ []) a.1 (t, tt)) refl

page_at_nearest : (press : Press) (above : List PublicUnit) (unit : PublicUnit) (below : Forest PublicUnit) (shown : Page)
    → AllByRecursion IsTold above → page_at press (above ++ unit ∷ []) (Node unit below Empty) ≡ Some shown
    → AllByRecursion (IsNearestValue press.at (above ++ unit ∷ [])) shown.lines
page_at_nearest press above (Stub id identifier level until) below shown a e =
    subst (λ (page : Page). AllByRecursion (IsNearestValue press.at (above ++ Stub id identifier level until ∷ [])) page.lines) (same_Some _ shown e) tt
page_at_nearest press above (Told id values) below shown a e =
    let way : List PublicUnit = above ++ Told id values ∷ [] in
    let it = way_chained press above (Told id values) a refl in
    let lines = subst (λ units. AllByRecursion (IsNearestValue press.at way) (filter_map (page_line units) line_elements)) (sym it.2)
    (all_made (IsNearestValue press.at way) (page_line (it.0 ∷ it.1)) (line_nearest press.at way it.0 it.1 it.3) line_elements) in
    subst (λ (page : Page). AllByRecursion (IsNearestValue press.at way) page.lines) (same_Some _ shown e) lines

pub lines_are_nearest : LinesAreNearest
lines_are_nearest press day f u shown e =
    let it = stand (has_public_number u) (public_of day f) (there_where_shown press u (public_of day f) shown e) in
    let above : AllByRecursion IsTold it.above =
    subst (AllByRecursion IsTold) (ap before_last it.way ∙ before_last-push it.above it.unit) (told_above day (has_public_number u) f) in
    let k : page_at press (it.above ++ it.unit ∷ []) (Node it.unit it.below Empty) ≡ Some shown =
    sym (ap₂ (page_at press) it.way it.alone) ∙ e in
    subst (λ way. AllByRecursion (IsNearestValue press.at way) shown.lines) (sym it.way) (page_at_nearest press it.above it.unit it.below shown above k)
